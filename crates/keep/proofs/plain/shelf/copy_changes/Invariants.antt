-- the changes so far are copied
use Rattle.std.proofs.Common.{take}
use Rattle.std.specs.List.{AllZip}
use Rattle.keep.specs.Plain.{IsCopy}
use Rattle.keep.proofs.plain.shelf.copy_changes.Given as goal

abbrev pub invariant-loop-change : goal.invariant-loop-change
invariant-loop-change l = AllZip IsCopy (take l.change-index l.changes) l.copies.items
