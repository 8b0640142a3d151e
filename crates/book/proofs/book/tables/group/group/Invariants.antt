-- the orders so far have the heads so far and the rows of lines up to the start of the rest, and whatever good orders all
-- the rows tell, those left are told by the heads and rows that are left
use Rattle.ledger.proofs.Prelude.{◌++◌, ◌≡◌, ◌≤◌, IsStrictlySortedBy, List, Order, drop, flat_map, length, line_cells}
use Rattle.ledger.proofs.Prelude.{map, nat_cmp, order_lines, take}
use Rattle.book.proofs.Prelude.{TellOrders, head_of, order_of}
use Rattle.book.proofs.LineGroups.{Tail}
use Rattle.book.proofs.book.tables.group.group.Given as goal

abbrev pub invariant-loop-head : goal.invariant-loop-head
invariant-loop-head l = record {
  within : l.start ≤ length l.rows;
  heads : map head_of (map order_of l.orders.items) ≡ take l.head-index l.heads;
  lines : flat_map order_lines (map order_of l.orders.items) ++ map line_cells (drop l.start l.rows) ≡ map line_cells l.rows;
  left : (orders : List Order) → IsStrictlySortedBy nat_cmp (map (λ o. o.number) orders)
      → TellOrders orders l.heads (map line_cells l.rows)
      → Tail (drop l.head-index l.heads) (map line_cells (drop l.start l.rows));
}
