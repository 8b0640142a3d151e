-- the numbers of those so far that expire
use Rattle.ledger.proofs.Prelude.{◌≡◌, expires, filter, map, take}
use Rattle.book.proofs.Prelude.{order_of}
use Rattle.book.proofs.book.made.expiring.Given as goal

abbrev pub invariant-loop-order : goal.invariant-loop-order
invariant-loop-order l =
    l.numbers.items ≡ map (λ o. o.number) (filter (expires l.now) (map order_of (take l.order-index l.orders)))
