use Rattle.ledger.proofs.Prelude.{Command, checks, subst, sym}
use Rattle.book.proofs.Prelude.{Finds, IsFound}
use Rattle.book.proofs.book.Book.check_other.Goals as goal

pub returns-in-Rebound : goal.returns-in-Rebound
returns-in-Rebound c numbered =
    let A = c.args.self.now.ledger in
    subst (λ (d : Command). Finds (checks A d) (IsFound A d) c.check_rebound.result) (sym c.in-Rebound.is)
    c.check_rebound.ensures
