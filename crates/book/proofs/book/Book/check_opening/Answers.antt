use Rattle.book.proofs.Prelude.{Finds, IsFound}
use Rattle.ledger.proofs.Prelude.{List, OpenLine, checks, refl, subst, Ledger}
use Rattle.ledger.specs.declared.order.Kind.TheVariants.{Plain, Transfer}
use Rattle.book.proofs.CheckAnswers.{finds_only}
use Rattle.words.specs.declared.command.Command.TheVariants as command
use Rattle.book.specs.declared.book.checks.Found.TheVariants as found
use Rattle.book.proofs.book.Book.check_opening.Goals as goal

pub returns-in-Open : goal.returns-in-Open
returns-in-Open c =
    let A : Ledger = c.args.self.now.ledger in
    let o = c.in-Open in
    let d = λ (ls : List OpenLine). command.Open o.number o.until ls in
    rw o.is (subst (λ (ls : List OpenLine). Finds (checks A (d ls)) (IsFound A (d ls)) c.check_open.result)
    c.as_slice.ensures.value
    (finds_only A (d c.as_slice.result.now) found.Nothing c.check_open.result refl (c.check_open.ensures Plain)))

pub returns-in-Transfer : goal.returns-in-Transfer
returns-in-Transfer c =
    let A : Ledger = c.args.self.now.ledger in let o = c.in-Transfer in
    rw o.is (finds_only A (command.Transfer o.number o.until o.article o.from o.to o.qty) found.Nothing
    c.check_open-in-Transfer.result refl
    (rw c.transfer_lines-lines.ensures at (c.check_open-in-Transfer.ensures Transfer)))
