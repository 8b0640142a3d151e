-- The names of the tables that each version has, among those of a schema, and how a schema of no version is refused.
use Rattle.std.specs.Prelude.{◌≡◌, ◌≤◌, ℕ, List, Any, Result}
use Rattle.sqlite.specs.Schema.{Schema}
use Rattle.sql_keep.specs.Description.{declared, schema_of, since}
use Rattle.keep.specs.Keeping.{TellsOther}
use Rattle.keep.specs.declared.keep.KeepFault.{KeepFault}
use Rattle.keep.specs.declared.table_row.TableName.{TableName}

-- a table has this name
abbrev pub HasTableNamed : Schema → List ℕ → Type 0
HasTableNamed schema name = Any (λ t. t.name ≡ name) schema.tables

-- each name of a table that version 1 has is the name of a table
abbrev pub HasNames : Schema → Type 0
HasNames schema = (t : TableName) → since t ≤ 1 → HasTableNamed schema (declared t).name

-- a store whose schema is that of no version is refused and stays as it is
abbrev pub TellsOtherSchema : {T : Type 0} → Schema → Result T KeepFault → Type 0 → Type 0
TellsOtherSchema schema answer is_left = TellsOther (HasNames schema) (λ version. schema ≡ schema_of version) answer is_left
