use Rattle.ledger.proofs.Prelude.{append_assoc, arith}
use Rattle.ledger.specs.Rolled.{left_of}
use Rattle.book.proofs.Among.{appended}
use Rattle.book.proofs.Rolling.{lines_next}
use Rattle.book.proofs.book.rolled.push_lines.Goals as goal

pub loop-place-preserved : goal.loop-place-preserved
loop-place-preserved c =
    let next =
    lines_next c.args.order.now.0 c.loop-place.place (left_of c.is_settled-is_settled.result)
    c.args.order.now.1.lines.items c.index.result.now
    (omega (arith, c.loop-place-test.true, c.len-place-end.ensures)) c.index.ensures in
    grind (arith, append_assoc, appended)
