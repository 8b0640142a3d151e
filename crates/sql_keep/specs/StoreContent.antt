-- The content of a store: what its seven tables hold, and what a stop leaves of it.
use Rattle.std.specs.Prelude.{◌≡◌, ◌<◌, ◌≤◌, ℕ, List, [], map, IsTrue, IsPermutation}
use Rattle.std.specs.List.{AllByRecursion}
use Rattle.std.specs.List.Sorted.{IsStrictlySortedBy}
use Rattle.std.specs.declared.cmp.Ordering.{Ordering}
use Rattle.sqlite.specs.Order.{Row}
use Rattle.sqlite.specs.Table.{Table}
use Rattle.sqlite.specs.Schema.{Schema}
use Rattle.sqlite.specs.Effect.{Database}
use Rattle.sqlite_trees.specs.Tree.{Trees, rowid}
use Rattle.sqlite_trees.specs.Objects.{catalog_tree}
use Rattle.sqlite_trees.specs.View.{is_int}
use Rattle.sqlite_catalog.specs.Listing.{Lists}
use Rattle.ledger.specs.Rows.{Content}
use Rattle.keep.specs.Content.{IsAmong, newest}
use Rattle.keep.specs.TableRows.{Cells, key_cmp, rows_of}
use Rattle.sql_keep.specs.Description.{columns, declared, schema_of, since, stored}
use Rattle.keep.specs.declared.table_row.TableName.{TableName}

-- each row has a whole number as its rowid
abbrev pub HaveNumbers : List Row → Type 0
HaveNumbers rows = AllByRecursion (λ r. IsTrue (is_int (rowid r))) rows

-- the stored rows are these, in whatever order they lie, and no key comes twice
pub record AreRows {X : Type 0} (cmp : X → X → Ordering) (stored : Row → Row) (columns : X → Row) (rows : List Row)
    (xs : List X) : Type 0 where
  pub same : IsPermutation (map stored rows) (map columns xs)
  pub sorted : IsStrictlySortedBy cmp xs
  pub numbers : HaveNumbers rows

-- the rows of the table are these
abbrev pub Stores : (t : TableName) → List Row → List (Cells t) → Type 0
Stores t rows xs = AreRows (key_cmp t) (stored t) (columns t) rows xs

-- the tables of that version have these rows, and the content has no rows of another table
pub record HasRowsOf (version : ℕ) (trees : Trees) (x : Content) : Type 0 where
  pub rows : (t : TableName) → since t ≤ version → Stores t (trees (declared t).tree) (rows_of t x)
  pub none : (t : TableName) → version < since t → rows_of t x ≡ []

-- trees with these rows, whose catalog lists the schema of that version
pub record IsContentOf (version : ℕ) (trees : Trees) (x : Content) : Type 0 where
  pub lists : Lists (trees catalog_tree) (schema_of version)
  pub has : HasRowsOf version trees x

-- the same, of the version that is written here
abbrev pub IsContent : Trees → Content → Type 0
IsContent = IsContentOf newest

-- the schema is that of a desk of that version, as it is made; nothing else is declared; and this is what the tables
-- hold
pub record HoldsOf (version : ℕ) (db : Database) (x : Content) : Type 0 where
  pub schema_is : db.schema ≡ schema_of version
  pub content : IsContentOf version db.trees x

abbrev pub Holds : Database → Content → Type 0
Holds = HoldsOf newest

-- a table is declared so, in whatever tree it lies, and its rows have this property
abbrev pub HasTable : Schema → Trees → Table → (List Row → Type 0) → Type 0
HasTable schema trees table Are = (tree : ℕ) × IsAmong schema.tables (record table { tree = tree }) × Are (trees tree)

-- the seven tables are declared, in whatever order and beside whatever others, and this is what they hold
abbrev pub HasTables : Database → Content → Type 0
HasTables db x = (t : TableName) → HasTable db.schema db.trees (declared t) (λ rows. Stores t rows (rows_of t x))

-- whatever a stop leaves is a desk's seven tables and nothing else, and their content is one of these
abbrev pub LeavesOnly : (Trees → Type 0) → List Content → Type 0
LeavesOnly may_leave these = (trees : Trees) → may_leave trees → (x : Content) × IsContent trees x × IsAmong these x

-- a stop may leave trees with this content
abbrev pub MayLeave : (Trees → Type 0) → Content → Type 0
MayLeave may_leave x = (trees : Trees) × may_leave trees × IsContent trees x
