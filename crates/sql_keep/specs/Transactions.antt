-- What the statements of a transaction do to the content.
use Rattle.std.specs.Prelude.{◌≡◌, List, IsTrue}
use Rattle.sqlite.specs.Effect.{Database}
use Rattle.sqlite.specs.State.{State}
use Rattle.sqlite_trees.specs.Tree.{Trees}
use Rattle.ledger.specs.declared.rows.Change.{Change}
use Rattle.ledger.specs.declared.rows.Change.TheVariants as change
use Rattle.ledger.specs.Rows.{Content}
use Rattle.ledger.specs.Tables.{desk_cells, field_cells, move_cells, order_cells, line_cells, kept_cells, firm_cells}
use Rattle.keep.specs.Content.{with_changes}
use Rattle.keep.specs.TableRows.{Cells}
use Rattle.keep.specs.declared.table_row.TableName.{TableName}
use Rattle.keep.specs.declared.table_row.TableName.TheVariants as table
use Rattle.sqlite.specs.Order.{Row}
use Rattle.sql_keep.specs.Description.{columns}
use Rattle.sql_keep.specs.StoreContent.{Holds, IsContent}

-- the transaction goes on, and in it the database has this property
pub record Makes (Is : Database → Type 0) (old new : State) : Type 0 where
  pub mode : IsTrue new.in_transaction
  pub committed : new.committed ≡ old.committed
  pub is : Is new.now

-- the store is open, shows what is committed, and has this property
pub record IsSettled (Is : Database → Type 0) (s : State) : Type 0 where
  pub is_open : IsTrue s.is_open
  pub settled : s.committed ≡ s.now
  pub is : Is s.now

-- the new database holds what the old one held, with the rows put in
abbrev pub IsPut : List Change → Database → Database → Type 0
IsPut changes old new = (x : Content) → Holds old x → Holds new (with_changes changes x)

-- the transaction goes on, and the rows are put in
abbrev pub PutsIn : State → State → List Change → Type 0
PutsIn old new changes = Makes (IsPut changes old.now) old new

-- the rows are put in and committed
abbrev pub Committed : State → State → List Change → Type 0
Committed old new changes = IsSettled (IsPut changes old.now) new

-- these trees hold the content with all the changes
abbrev pub AreChanged : Database → List Change → Trees → Type 0
AreChanged db changes trees = (x : Content) → Holds db x → IsContent trees (with_changes changes x)

-- the table of a change, and its row
abbrev pub table_of : Change → TableName
table_of (change.Desk row) = table.Desk
table_of (change.Field row) = table.Field
table_of (change.Move row) = table.Move
table_of (change.Order row) = table.Orders
table_of (change.Line row) = table.Line
table_of (change.Kept row) = table.Kept
table_of (change.Firm row) = table.Firm

abbrev pub cells_of : (c : Change) → Cells (table_of c)
cells_of (change.Desk row) = desk_cells row
cells_of (change.Field row) = field_cells row
cells_of (change.Move row) = move_cells row
cells_of (change.Order row) = order_cells row
cells_of (change.Line row) = line_cells row
cells_of (change.Kept row) = kept_cells row
cells_of (change.Firm row) = firm_cells row

-- the columns of that row, as values of SQL
abbrev pub columns_of : Change → Row
columns_of c = columns (table_of c) (cells_of c)
