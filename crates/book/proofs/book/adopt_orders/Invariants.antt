-- put in, the orders that are left give what all of them give, and there is room for one that is new
use Rattle.ledger.proofs.Prelude.{◌≡◌, ◌≤◌, map, put_rows}
use Rattle.book.proofs.Prelude.{number_cmp, order_of}
use Rattle.book.specs.Model.{slots_cmp, slots_of}
use Rattle.book.specs.inner.StepsSeen.{MayBePut}
use Rattle.book.proofs.book.adopt_orders.Given as goal

abbrev pub invariant-loop-order : goal.invariant-loop-order
invariant-loop-order l = record {
  put : put_rows number_cmp (map order_of l.order-iterator.rest.items) (map order_of l.orders.entries)
      ≡ put_rows number_cmp (map order_of l.fn.made.items) (map order_of l.initial.orders.entries);
  may : MayBePut l.orders.room l.order-iterator.rest.items l.orders.entries;
  slots : put_rows slots_cmp (map slots_of l.order-iterator.rest.items) (map slots_of l.orders.entries)
      ≡ put_rows slots_cmp (map slots_of l.fn.made.items) (map slots_of l.initial.orders.entries);
  storage : l.orders.storage ≡ l.initial.orders.storage;
  no_more : l.orders.room ≤ l.initial.orders.room;
}
