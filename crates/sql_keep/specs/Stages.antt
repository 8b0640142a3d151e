-- How tables are made beside others.
use Rattle.std.specs.Prelude.{◌≡◌, ◌⊎◌, ◌++◌, List, []}
use Rattle.std.specs.List.{AllByRecursion}
use Rattle.sqlite.specs.Change.{KeepsRows}
use Rattle.sqlite.specs.Effect.{Database}
use Rattle.sqlite_catalog.specs.Listing.{Lists}
use Rattle.sqlite_trees.specs.Objects.{catalog_tree}
use Rattle.sql_keep.specs.Description.{declared, schema_with}
use Rattle.keep.specs.declared.table_row.TableName.{TableName}

-- beside the first tables, which keep their rows, more tables are declared and listed, and these have no rows
pub record AddsTables (first more : List TableName) (old new : Database) : Type 0 where
  pub schema_is : new.schema ≡ schema_with (first ++ more)
  pub lists : (more ≡ []) ⊎ Lists (new.trees catalog_tree) (schema_with (first ++ more))
  pub others : KeepsRows (schema_with first).tables old.trees new.trees
  pub empty : AllByRecursion (λ t. new.trees (declared t).tree ≡ []) more
