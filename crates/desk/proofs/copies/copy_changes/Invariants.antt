-- the changes so far are copied
use Rattle.std.proofs.Common.{take}
use Rattle.std.specs.List.{AllZip}
use Rattle.desk.specs.Deferred.{IsSameRow}
use Rattle.desk.proofs.copies.copy_changes.Given as goal

abbrev pub invariant-loop-change : goal.invariant-loop-change
invariant-loop-change l = AllZip IsSameRow (take l.change-index l.changes) l.copies.items
