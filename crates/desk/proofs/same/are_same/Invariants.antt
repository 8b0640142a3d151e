-- the copies so far are those of the changes
use Rattle.std.proofs.Common.{take}
use Rattle.std.specs.List.{AllZip}
use Rattle.desk.specs.Deferred.{IsSameRow}
use Rattle.desk.proofs.same.are_same.Given as goal

abbrev pub invariant-loop-i : goal.invariant-loop-i
invariant-loop-i l = AllZip IsSameRow (take l.i l.changes) (take l.i l.copies)
