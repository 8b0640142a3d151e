-- What a read of the store finds.
use Rattle.std.specs.Prelude.{◌≡◌, ℤ, List, [], ◌∷◌, map, IsTrue}
use Rattle.sqlite.specs.Order.{Row, column}
use Rattle.sqlite.specs.Effect.{Database}
use Rattle.sqlite.specs.State.{State, HasCleanDisk, IsUnchanged}
use Rattle.sqlite_trees.specs.Tree.{Trees}
use Rattle.sqlite_trees.specs.View.{is_int}
use Rattle.ledger.specs.Rows.{DeskCells}
use Rattle.keep.specs.TableRows.{Cells}
use Rattle.sql_keep.specs.Description.{columns, desk_schema, rowid_at, shown}
use Rattle.keep.specs.Content.{IsVersion}
use Rattle.keep.specs.declared.table_row.TableName.{TableName}
use Rattle.keep.specs.declared.table_row.TableName.TheVariants as table

-- where the disk was honest, nothing has changed, and the trees have this property
abbrev pub Reads : State → State → (Trees → Type 0) → Type 0
Reads old new Are = HasCleanDisk new → IsUnchanged old new × Are old.now.trees

-- the same, where the schema is that of a desk as it is made now
abbrev pub FindsTrees : State → State → (Trees → Type 0) → Type 0
FindsTrees old new Are = HasCleanDisk new → old.now.schema ≡ desk_schema → IsUnchanged old new × Are old.now.trees

-- the store is open, has this property, and shows what is committed; and the read has changed nothing
pub record IsRead (Is : Database → Type 0) (old new : State) : Type 0 where
  pub is : Is old.now
  pub same : IsUnchanged old new
  pub is_open : IsTrue new.is_open
  pub settled : new.committed ≡ new.now

-- the answer shows the row, and its rowid is a whole number
abbrev pub IsShown : (t : TableName) → Row → Cells t → Type 0
IsShown t answer x = (shown t answer ≡ columns t x) × IsTrue (is_int (column answer (rowid_at t)))

-- the answers show one row of `desk`, of that version
pub record IsOneAnswer (version : ℤ) (answers : List Row) (row : DeskCells) : Type 0 where
  pub same : map (shown table.Desk) answers ≡ columns table.Desk row ∷ []
  pub is_version : IsVersion version row
