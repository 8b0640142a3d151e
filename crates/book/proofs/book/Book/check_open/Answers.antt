use Rattle.ledger.proofs.Prelude.{[], None, line_checks, new_order, order_checks, refl}
use Rattle.book.proofs.CheckAnswers.{go_on}
use Rattle.book.proofs.book.Book.check_open.Goals as goal

pub returns : goal.returns
returns c kind =
    let A = c.args.self.now.ledger in let lines = c.in_ok-check_lines.ensures c.args.number kind c.args.until in (
      go_on (order_checks A c.args.number c.args.until)
          (line_checks A (new_order c.args.number kind c.args.until) [] c.args.lines.now) None
          c.in_ok-check_order.ensures.0 lines.0,
      refl,
    )
