-- what is left is as wanted where the whole is
use Rattle.std.proofs.Common.{◌≡◌, ◌↔◌, drop, map}
use Rattle.sql_keep.specs.Description.{declared}
use Rattle.sql_keep.proofs.schema.are_tables.Given as goal

abbrev pub invariant-loop-table : goal.invariant-loop-table
invariant-loop-table l = (l.left ≡ map declared (drop l.table-index l.tables)) ↔ (l.fn.found ≡ map declared l.tables)
