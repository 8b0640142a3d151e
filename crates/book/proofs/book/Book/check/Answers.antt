use Rattle.ledger.proofs.Prelude.{More, refl}
use Rattle.book.proofs.CheckAnswers.{finds_order}
use Rattle.book.proofs.book.Book.check.Goals as goal

pub returns-in-More : goal.returns-in-More
returns-in-More c =
    rw c.in-More.is (finds_order c.args.self.now.ledger
    (More c.in-More.number c.in-More.way c.in-More.branch c.in-More.article c.in-More.qty) c.in-More.number
    c.check_more.result refl c.check_more.ensures)
