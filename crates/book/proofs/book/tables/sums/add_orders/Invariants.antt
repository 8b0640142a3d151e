-- the orders so far are on fields, and added
use Rattle.ledger.proofs.Prelude.{[], ◌*◌, ◌+◌, ◌≡◌, Each, take}
use Rattle.book.proofs.Prelude.{AreOrdersOnFields, IsSmall, added, most_of_lines, most_of_moves, numbers_on}
use Rattle.book.proofs.book.tables.sums.add_orders.Given as goal

abbrev pub invariant-loop-entry : goal.invariant-loop-entry
invariant-loop-entry l = record {
  there : AreOrdersOnFields l.fields (take l.entry-index l.orders);
  sums : l.sums ≡ added (numbers_on [] (take l.entry-index l.orders)) l.fields l.initial.sums;
  small : Each (IsSmall (most_of_moves + most_of_lines * l.entry-index)) l.sums;
}
