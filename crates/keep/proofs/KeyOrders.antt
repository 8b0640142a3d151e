-- The keys of each table are in a total order.
use Rattle.std.proofs.lemmas.Cmp.{int_cmp_total, nat_list_cmp_total, on_total, then_total}
use Rattle.std.specs.Cmp.{IsTotalOrder}
use Rattle.ledger.specs.Rows.{DeskCells, FieldCells, FirmCells, KeptCells, LineCells, MoveCells, OrderCells}
use Rattle.keep.specs.TableRows.{key_cmp}
use Rattle.keep.specs.declared.table_row.TableName.{TableName}
use Rattle.keep.specs.declared.table_row.TableName.TheVariants as table

pub key_cmp_total : (t : TableName) → IsTotalOrder (key_cmp t)
key_cmp_total table.Desk = on_total (λ (x : DeskCells). x.one) int_cmp_total
key_cmp_total table.Field =
    then_total (on_total (λ (x : FieldCells). x.branch) nat_list_cmp_total)
    (on_total (λ (x : FieldCells). x.article) nat_list_cmp_total)
key_cmp_total table.Move = on_total (λ (x : MoveCells). x.place) int_cmp_total
key_cmp_total table.Orders = on_total (λ (x : OrderCells). x.number) int_cmp_total
key_cmp_total table.Line =
    then_total (on_total (λ (x : LineCells). x.number) int_cmp_total) (on_total (λ (x : LineCells). x.nr) int_cmp_total)
key_cmp_total table.Kept = on_total (λ (x : KeptCells). x.reqkey) nat_list_cmp_total
key_cmp_total table.Firm = on_total (λ (x : FirmCells). x.number) int_cmp_total
