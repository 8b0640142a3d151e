-- those read so far
use Rattle.std.proofs.Common.{take}
use Rattle.std.specs.List.{AllZip}
use Rattle.sql_keep.specs.Loads.{IsShown}
use Rattle.sql_keep.proofs.table.read_all.Given as goal

abbrev pub invariant-loop-answer : goal.invariant-loop-answer
invariant-loop-answer g l =
    AllZip (λ answer row. IsShown g.R.TableRow.which answer (g.R.TableRow.cells row)) (take l.answer-index l.answers)
    l.rows.items
