use Rattle.ledger.proofs.Prelude.{More, None, Some, arith, checks, refl}
use Rattle.book.proofs.Prelude.{field_of, order_of}
use Rattle.book.proofs.CheckAnswers.{fails_with, go_on, more_decides, no}
use Rattle.book.specs.inner.Checking.{IsOrderFound, bound_checks, hold_checks}
use Rattle.book.proofs.book.Book.check_more.Goals as goal

pub returns-in_err-ask : goal.returns-in_err-ask
returns-in_err-ask c =
    let A = c.args.self.now.ledger in
    let n = c.args.name.now in
    let w = c.args.way in
    let o = c.in_ok-order.ensures in
    let e = c.in_ok-field.ensures in
    let x = c.in_err-ask.field-0.0 in
    let decides =
    go_on (hold_checks (order_of (0, c.in_ok-order.order.now)) w n) (bound_checks w A n c.args.qty 0) (Some x)
    c.in_ok-check_hold.ensures.0 (c.in_err-ask.ensures A n e.good e.up_to_date e.found.1) in
    let d = More c.args.number w n.branch n.article c.args.qty in
    fails_with (checks A d) (IsOrderFound A c.args.number) c.from_residual-in_err-ask.result x
    c.from_residual-in_err-ask.ensures.1
    (more_decides A c.args.number w n c.args.qty (order_of (c.args.number, c.in_ok-order.order.now))
    (field_of (n, c.in_ok-field.field)) (Some x) e.good (no c.is_full.ensures c.if-is_full.false) o.found.0
    o.order o.open o.loose (grind arith) e.found.1 decides)

pub returns : goal.returns
returns c =
    let A = c.args.self.now.ledger in
    let n = c.args.name.now in
    let w = c.args.way in
    let o = c.in_ok-order.ensures in
    let e = c.in_ok-field.ensures in
    let asked = c.in_ok-ask.ensures A n e.good e.up_to_date e.found.1 in
    let decides =
    go_on (hold_checks (order_of (0, c.in_ok-order.order.now)) w n) (bound_checks w A n c.args.qty 0) None
    c.in_ok-check_hold.ensures.0 asked.0 in (
      more_decides A c.args.number w n c.args.qty (order_of (c.args.number, c.in_ok-order.order.now))
          (field_of (n, c.in_ok-field.field)) None e.good
          (no c.is_full.ensures c.if-is_full.false) o.found.0 o.order o.open o.loose (grind arith) e.found.1 decides,
      (refl, o.order),
    )
