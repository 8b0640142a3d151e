-- How SQL keeps the tables of a desk, of each version. For one table more, each definition here gets a line more, and
-- the schema the table's declaration.
use Rattle.std.specs.Prelude.{ℕ, ◌≡◌, ◌<◌, ◌≤◌, List, [], ◌∷◌, ◌++◌, ◌-◌, Option, None, Some, flat_map, length, map}
use Rattle.std.specs.Prelude.{nat_le, nat_lt}
use Rattle.std.specs.List.{filter, range_with_len}
use Rattle.sqlite.specs.declared.types.Value.TheVariants.{Int, Text}
use Rattle.sqlite.specs.Order.{Row, bytes, column}
use Rattle.sqlite.specs.Table.{Table}
use Rattle.sqlite_rules.specs.Edit.{id_in}
use Rattle.sqlite.specs.Schema.{Schema}
use Rattle.keep.specs.Content.{newest}
use Rattle.keep.specs.TableRows.{Cells}
use Rattle.sql_keep.specs.Schema.{desk_table, field_table, firm_table, key_indexes, kept_table, line_table, move_table}
use Rattle.sql_keep.specs.Schema.{orders_table}
use Rattle.keep.specs.declared.table_row.TableName.{TableName}
use Rattle.keep.specs.declared.table_row.TableName.TheVariants as table

-- the tables, in the order in which they are made
abbrev pub all_tables : List TableName
all_tables = table.Desk ∷ table.Field ∷ table.Move ∷ table.Orders ∷ table.Line ∷ table.Kept ∷ table.Firm ∷ []

-- the version of the schema that brought the table
abbrev pub since : TableName → ℕ
since table.Desk = 1
since table.Field = 1
since table.Move = 1
since table.Orders = 1
since table.Line = 1
since table.Kept = 1
since table.Firm = 2

-- the table as SQL declares it
abbrev pub declared : TableName → Table
declared table.Desk = desk_table
declared table.Field = field_table
declared table.Move = move_table
declared table.Orders = orders_table
declared table.Line = line_table
declared table.Kept = kept_table
declared table.Firm = firm_table

-- the columns of a row, as values of SQL
abbrev pub columns : (t : TableName) → Cells t → Row
columns table.Desk x = Int x.one ∷ Int x.version ∷ Int x.clock ∷ Int x.places ∷ []
columns table.Field x =
    Text x.branch ∷ Text x.article ∷ Int x.lo ∷ Int x.hi ∷ Int x.start ∷ Int x.value ∷ Int x.inf ∷ Int x.sup ∷ []
columns table.Move x = Int x.place ∷ Text x.branch ∷ Text x.article ∷ Int x.qty ∷ []
columns table.Orders x = Int x.number ∷ Int x.kind ∷ Int x.until ∷ Int x.state ∷ []
columns table.Line x =
    Int x.number ∷ Int x.nr ∷ Text x.branch ∷ Text x.article ∷ Int x.way ∷ Int x.held ∷ Int x.used ∷ []
columns table.Kept x = Text x.reqkey ∷ Int x.place ∷ Text x.words ∷ []
columns table.Firm x = Int x.number ∷ []

-- the row that these columns make
abbrev pub from_columns : (t : TableName) → Row → Cells t
from_columns table.Desk c = record {
  one = id_in (column c 0);
  version = id_in (column c 1);
  clock = id_in (column c 2);
  places = id_in (column c 3);
}
from_columns table.Field c = record {
  branch = bytes (column c 0);
  article = bytes (column c 1);
  lo = id_in (column c 2);
  hi = id_in (column c 3);
  start = id_in (column c 4);
  value = id_in (column c 5);
  inf = id_in (column c 6);
  sup = id_in (column c 7);
}
from_columns table.Move c = record {
  place = id_in (column c 0);
  branch = bytes (column c 1);
  article = bytes (column c 2);
  qty = id_in (column c 3);
}
from_columns table.Orders c = record {
  number = id_in (column c 0);
  kind = id_in (column c 1);
  until = id_in (column c 2);
  state = id_in (column c 3);
}
from_columns table.Line c = record {
  number = id_in (column c 0);
  nr = id_in (column c 1);
  branch = bytes (column c 2);
  article = bytes (column c 3);
  way = id_in (column c 4);
  held = id_in (column c 5);
  used = id_in (column c 6);
}
from_columns table.Kept c =
    record { reqkey = bytes (column c 0); place = id_in (column c 1); words = bytes (column c 2) }
from_columns table.Firm c = record { number = id_in (column c 0) }

-- ---- how a row is stored: its rowid first, and then its columns. An integer key is the rowid, and its own column is
-- stored as NULL.

abbrev pub stored_places : Option ℕ → ℕ → List ℕ
stored_places None count = range_with_len 1 count
stored_places (Some key) count = 0 ∷ range_with_len 2 (count - 1)

-- the columns of a stored row
abbrev pub stored : (t : TableName) → Row → Row
stored t r = map (column r) (stored_places (declared t).key (length (declared t).columns))

-- where the rowid is not the key, a SELECT shows the rowid, too, at the end
abbrev pub rowid_shown : Option ℕ → List ℕ
rowid_shown None = 0 ∷ []
rowid_shown (Some key) = []

-- what a SELECT shows of a stored row
abbrev pub selected : (t : TableName) → Row → Row
selected t r = stored t r ++ map (column r) (rowid_shown (declared t).key)

-- the columns of an answer that are columns of the table
abbrev pub shown : (t : TableName) → Row → Row
shown t answer = map (column answer) (range_with_len 0 (length (declared t).columns))

-- where the rowid stands in an answer of so many columns
abbrev pub rowid_place : Option ℕ → ℕ → ℕ
rowid_place None count = count
rowid_place (Some key) count = 0

abbrev pub rowid_at : TableName → ℕ
rowid_at t = rowid_place (declared t).key (length (declared t).columns)

-- ---- versions

-- a version before the newest
abbrev pub IsOlder : ℕ → Type 0
IsOlder version = (1 ≤ version) × (version < newest)

-- the tables that a version has
abbrev pub tables_of : ℕ → List TableName
tables_of version = filter (λ t. nat_le (since t) version) all_tables

-- the tables that the versions after it have brought
abbrev pub tables_after : ℕ → List TableName
tables_after version = filter (λ t. nat_lt version (since t)) all_tables

-- the schema in which these tables are made, one after the other
abbrev pub schema_with : List TableName → Schema
schema_with tables = record {
  tables = map declared tables;
  indexes = flat_map (λ t. key_indexes (declared t)) tables;
  views = [];
}

-- the tables that are made before this one
abbrev pub before : TableName → List TableName
before t = filter (λ u. nat_lt (declared u).tree (declared t).tree) all_tables

-- the schema of a desk of that version, as it is made
abbrev pub schema_of : ℕ → Schema
schema_of version = schema_with (tables_of version)

-- the schema of a desk as it is made now
abbrev pub desk_schema : Schema
desk_schema = schema_of newest

-- the schema is that of a desk as it is made, of a version that has the table
abbrev pub IsSchemaWith : TableName → Schema → Type 0
IsSchemaWith t schema = (version : ℕ) × (since t ≤ version) × (version ≤ newest) × (schema ≡ schema_of version)

-- the schema is that of a desk as it is made, of whatever version
abbrev pub IsOfAVersion : Schema → Type 0
IsOfAVersion schema = IsSchemaWith table.Desk schema
