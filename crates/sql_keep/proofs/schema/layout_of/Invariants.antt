-- it is the schema of none of the versions so far
use Rattle.std.proofs.Common.{◌≡◌, ◌≤◌, ◌<◌, ℕ}
use Rattle.sql_keep.specs.Description.{schema_of}
use Rattle.sql_keep.specs.Names.{HasNames}
use Rattle.sql_keep.proofs.schema.layout_of.Given as goal

abbrev pub invariant-loop-version : goal.invariant-loop-version
invariant-loop-version l = record {
  names : HasNames l.found;
  some : 1 ≤ l.version;
  none : (v : ℕ) → 1 ≤ v → v < l.version → ¬ (l.found ≡ schema_of v);
}
