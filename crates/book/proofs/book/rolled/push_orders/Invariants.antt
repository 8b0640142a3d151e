-- the rows of the orders so far that stay are there
use Rattle.ledger.proofs.Prelude.{◌≡◌, ◌==◌, filter, list_any, map, rows_among, take}
use Rattle.ledger.specs.Rolled.{stays}
use Rattle.book.specs.Model.{order_of}
use Rattle.book.specs.inner.Rolling.{orders_content}
use Rattle.book.proofs.Prelude.{joined}
use Rattle.book.proofs.book.rolled.push_orders.Given as goal

abbrev pub invariant-loop-place : goal.invariant-loop-place
invariant-loop-place l =
    rows_among l.changes.items
    ≡ joined (rows_among l.initial.changes.items) (orders_content
    (filter (stays (λ o. list_any (λ n. n == o.number) l.deals)) (map order_of (take l.place l.orders.entries))))
