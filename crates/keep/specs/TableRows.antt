-- The rows of each table: what a row holds, and how the keys are ordered.
use Rattle.std.specs.Prelude.{List}
use Rattle.std.specs.declared.cmp.Ordering.{Ordering}
use Rattle.ledger.specs.Rows.{Content, DeskCells, FieldCells, FirmCells, KeptCells, LineCells, MoveCells, OrderCells}
use Rattle.ledger.specs.Rows.{desk_cmp, field_cmp, firm_cmp, kept_cmp, line_cmp, move_cmp, order_cmp}
use Rattle.keep.specs.declared.table_row.TableName.{TableName}
use Rattle.keep.specs.declared.table_row.TableName.TheVariants as table

-- what a row holds
abbrev pub Cells : TableName → Type 0
Cells table.Desk = DeskCells
Cells table.Field = FieldCells
Cells table.Move = MoveCells
Cells table.Orders = OrderCells
Cells table.Line = LineCells
Cells table.Kept = KeptCells
Cells table.Firm = FirmCells

-- how two rows of the table compare, by their keys alone
abbrev pub key_cmp : (t : TableName) → Cells t → Cells t → Ordering
key_cmp table.Desk = desk_cmp
key_cmp table.Field = field_cmp
key_cmp table.Move = move_cmp
key_cmp table.Orders = order_cmp
key_cmp table.Line = line_cmp
key_cmp table.Kept = kept_cmp
key_cmp table.Firm = firm_cmp

-- the rows of the table in a content
abbrev pub rows_of : (t : TableName) → Content → List (Cells t)
rows_of table.Desk x = x.desk
rows_of table.Field x = x.fields
rows_of table.Move x = x.moves
rows_of table.Orders x = x.orders
rows_of table.Line x = x.lines
rows_of table.Kept x = x.kept
rows_of table.Firm x = x.firms
