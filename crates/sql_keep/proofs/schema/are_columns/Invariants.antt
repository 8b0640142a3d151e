-- what is left is as wanted where the whole is
use Rattle.std.proofs.Common.{◌≡◌, ◌↔◌, drop, map}
use Rattle.sql_keep.specs.Schema.{column}
use Rattle.sql_keep.proofs.schema.are_columns.Given as goal

abbrev pub invariant-loop-name : goal.invariant-loop-name
invariant-loop-name l =
    (l.left ≡ map (λ c. column c.1 c.0.now) (drop l.name-index l.columns))
    ↔ (l.fn.found ≡ map (λ c. column c.1 c.0.now) l.columns)
