use Rattle.std.proofs.Common.{arith}
use Rattle.keep.proofs.PlainRows.{copied, copied_all}
use Rattle.desk.specs.Deferred.{IsSameRow}
use Rattle.desk.proofs.copies.copy_changes.Goals as goal

pub loop-change-preserved : goal.loop-change-preserved
loop-change-preserved c =
    rw c.in_ok-push.ensures.items
    (copied IsSameRow c.args.changes.now c.loop-change.copies.items c.loop-change.change-index c.change-item.result
    c.in_ok-copy_change.field-0 c.loop-change-test.true c.change-item.is c.loop-change.invariant
    c.in_ok-copy_change.ensures)

pub returns : goal.returns
returns c =
    copied_all IsSameRow c.args.changes.now c.loop-change.copies.items c.loop-change.change-index
    (omega (arith, c.loop-change-test.false)) c.loop-change.invariant
