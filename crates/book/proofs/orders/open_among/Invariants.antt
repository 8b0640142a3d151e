-- the numbers of the open ones so far are there
use Rattle.ledger.proofs.Prelude.{◌^◌, ◌≡◌, ◌≤◌, length, take}
use Rattle.book.specs.inner.OpenOrders.{open_numbers}
use Rattle.book.proofs.orders.open_among.Given as goal

abbrev pub invariant-loop-order : goal.invariant-loop-order
invariant-loop-order l = record {
  items : l.numbers.items ≡ open_numbers (take l.order-index l.orders);
  room : length l.orders ≤ l.numbers.capacity;
  small : l.numbers.capacity ≤ 2 ^ 32;
}
