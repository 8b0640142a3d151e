-- What the texts of a table's statements mean. How SQLite reads a text over a schema is computed.
use Rattle.std.specs.Prelude.{◌≡◌, ◌+◌, ◌-◌, ◌++◌, ℕ, List, [], ◌∷◌, false, Option, None, Some, Ok, codes, length, map}
use Rattle.std.specs.Prelude.{negsuc, pos}
use Rattle.std.specs.List.{range_with_len}
use Rattle.sqlite.specs.Change.{created}
use Rattle.sqlite.specs.Command.{Command}
use Rattle.sqlite.specs.Command.TheVariants.{CreateTable, Insert, InsertOr, Select}
use Rattle.sqlite.specs.Compile.{table_defined_by}
use Rattle.sqlite.specs.Listing.{reads_listing, understood}
use Rattle.sqlite.specs.Query.{Query, end, inner}
use Rattle.sqlite.specs.Schema.{Schema}
use Rattle.sqlite.specs.Source.{Source}
use Rattle.sqlite.specs.Source.TheVariants.{Values}
use Rattle.sqlite.specs.Table.{Table}
use Rattle.sqlite.specs.Term.{Term, col, lit, op2}
use Rattle.sqlite.specs.declared.types.Value.TheVariants.{Int, Null}
use Rattle.sqlite.proofs.Callers.{IsPlain, command_of, statement_of}
use Rattle.sqlite_schema.specs.declared.command.Conflict.TheVariants.{Abort}
use Rattle.sqlite_schema.specs.declared.program.Program.{Program}
use Rattle.sqlite_sql.specs.declared.ops.BinaryOp.TheVariants.{Compare}
use Rattle.sqlite_sql.specs.declared.ops.CompareOp.TheVariants.{Eq}
use Rattle.sqlite_value.specs.declared.keys.Collation.TheVariants.{Binary}
use Rattle.sqlite_value.specs.declared.keys.Key.{Key}
use Rattle.sql_keep.specs.Description.{before, declared, desk_schema, rowid_shown, schema_with, stored_places}
use Rattle.keep.specs.declared.table_row.TableName.{TableName}

-- The text, over the schema of the tables before this one, makes the table and nothing else. A table gets the number
-- of its tree where it is made.
pub record MakesTable (t : TableName) (text : List ℕ) : Type 0 where
  pub command : command_of (understood (schema_with (before t)) text) ≡ CreateTable
  pub whole : statement_of text (understood (schema_with (before t)) text) ≡ text
  pub plain : IsPlain (understood (schema_with (before t)) text)
  pub defined : table_defined_by text ≡ Ok (record (declared t) { tree = 0 })
  pub next : created (schema_with (before t)) (record (declared t) { tree = 0 }) ≡ schema_with (before t ++ t ∷ [])

-- ---- all rows of a table

-- the columns of a stored row that the statement shows
abbrev pub project : Table → List Term
project table = map (col 1) (stored_places table.key (length table.columns) ++ rowid_shown table.key)

-- by the key, upwards
abbrev pub by : ℕ → Term × Key
by at = (col 1 at, record { collation = Binary; descending = false })

abbrev pub listing : Table → Query
listing table = record {
  from = inner table.tree end;
  filter = [];
  group = None;
  project = project table;
  distinct = false;
  collations = [];
  order = map by table.primary;
  limit = lit (Int (negsuc 0));
  offset = lit (Int (pos 0));
}

abbrev pub rowid_name : Option ℕ → List (List ℕ)
rowid_name None = codes "rowid" ∷ []
rowid_name (Some key) = []

-- over the schema, the text shows each row of the table once, by its key
pub record ListsTable (schema : Schema) (t : TableName) (text : List ℕ) : Type 0 where
  pub command : command_of (understood schema text) ≡ Select (record { lets = []; body = listing (declared t) })
      (map (λ c. c.name) (declared t).columns ++ rowid_name (declared t).key)
  pub aside : reads_listing schema text ≡ false
  pub plain : IsPlain (understood schema text)

-- ---- a row put in

-- the terms of a row that goes in, its rowid first; where the key is not the rowid, SQLite chooses the rowid
abbrev pub new_terms : Option ℕ → ℕ → List Term
new_terms None count = lit Null ∷ map (col 0) (range_with_len 0 count)
new_terms (Some key) count = col 0 0 ∷ lit Null ∷ map (col 0) (range_with_len 1 (count - 1))

-- the one row that goes in
abbrev pub new_row : Table → Source
new_row table = Values (new_terms table.key (length table.columns)) (length table.columns + 1)

-- what a row that has the key already becomes, but for its rowid: its key stays, and the other columns are the new
-- ones
abbrev pub set_terms : Table → List Term
set_terms table =
    kept_key table.key
    ++ map (col 0) (range_with_len (length table.primary) (length table.columns - length table.primary))
  where
    kept_key : Option ℕ → List Term
    kept_key None = map (col 1) table.primary
    kept_key (Some key) = lit Null ∷ []

-- the rows that an upsert updates, and what it makes of them
abbrev pub updated : Table → Query
updated table = record {
  from = inner table.tree end;
  filter = op2 (Compare Eq Binary) (col 1 0) (col 0 (length table.columns)) ∷ [];
  group = None;
  project = col 1 0 ∷ col 1 0 ∷ set_terms table;
  distinct = false;
  collations = [];
  order = [];
  limit = lit (Int (negsuc 0));
  offset = lit (Int (pos 0));
}

-- nothing is updated where the key is all of a row
abbrev pub update_of : Table → List ℕ → Option Program
update_of table [] = None
update_of table (other ∷ others) = Some (record { lets = []; body = updated table })

abbrev pub upsert : TableName → Command
upsert t = let table = declared t in
    InsertOr (length (before t)) Abort (new_row table) (record {
      target = Some table.primary;
      update = update_of table (range_with_len 0 (length table.columns - length table.primary));
    } ∷ [])

-- over the schema of a desk, the text puts a row in by the key of the table
pub record PutsRow (t : TableName) (text : List ℕ) : Type 0 where
  pub command : command_of (understood desk_schema text) ≡ upsert t
  pub plain : IsPlain (understood desk_schema text)

-- over the schema of a desk, the text inserts a row into the table, which is refused where a row has its key
pub record InsertsRow (t : TableName) (text : List ℕ) : Type 0 where
  pub command : command_of (understood desk_schema text) ≡ Insert (length (before t)) (new_row (declared t))
  pub plain : IsPlain (understood desk_schema text)
