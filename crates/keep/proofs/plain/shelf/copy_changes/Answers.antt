use Rattle.std.proofs.Common.{arith, sym}
use Rattle.std.proofs.lemmas.List.Elements.{length_all_zip}
use Rattle.keep.specs.Plain.{IsCopy}
use Rattle.keep.proofs.PlainChanges.{same_rows}
use Rattle.keep.proofs.PlainRows.{copied, copied_all}
use Rattle.keep.proofs.plain.shelf.copy_changes.Goals as goal

pub loop-change-preserved : goal.loop-change-preserved
loop-change-preserved c =
    rw c.in_ok-push.ensures.items
    (copied IsCopy c.args.changes.now c.loop-change.copies.items c.loop-change.change-index c.change-item.result
    c.in_ok-copy_change.field-0 c.loop-change-test.true c.change-item.is c.loop-change.invariant
    c.in_ok-copy_change.ensures)

pub returns-clause-same : goal.returns-clause-same
returns-clause-same c =
    same_rows _ _ (copied_all IsCopy c.args.changes.now c.loop-change.copies.items c.loop-change.change-index
    (omega (arith, c.loop-change-test.false)) c.loop-change.invariant)

pub returns-clause-length : goal.returns-clause-length
returns-clause-length c =
    sym (length_all_zip IsCopy _ _
    (copied_all IsCopy c.args.changes.now c.loop-change.copies.items c.loop-change.change-index
    (omega (arith, c.loop-change-test.false)) c.loop-change.invariant))
