-- what is listed so far, with as many more as there is room for
use Rattle.std.proofs.Common.{◌-◌}
use Rattle.web.proofs.OrderLists.{IsListed}
use Rattle.web.proofs.orders.open_numbers.Given as goal

abbrev pub invariant-loop : goal.invariant-loop
invariant-loop l = IsListed l.book.ledger l.floor l.last (50 - l.counter) l.numbers.items
