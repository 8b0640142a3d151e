-- the rows so far are copied
use Rattle.std.proofs.Common.{◌≡◌, take}
use Rattle.std.specs.List.{AllZip}
use Rattle.keep.proofs.plain.shelf.copy_rows.Given as goal

abbrev pub invariant-loop-place : goal.invariant-loop-place
invariant-loop-place g l = AllZip (λ a b. g.R.TableRow.cells b ≡ g.R.TableRow.cells a) (take l.place l.rows.items) l.copies.items
