use Rattle.ledger.proofs.Prelude.{◌≡◌, arith, map}
use Rattle.book.proofs.Prelude.{entry_name, numbers_on}
use Rattle.std.proofs.lemmas.List.{length-replicate}
use Rattle.book.proofs.SumsOnFields.{added-all, small-nothing}
use Rattle.book.proofs.book.tables.sums.add_all.Goals as goal

pub add_moves-requires-clause-sums : goal.add_moves-requires-clause-sums
add_moves-requires-clause-sums c = record {
  sorted = c.requires.sorted;
  long = grind (arith, length-replicate);
  room = rw c.requires.nothing (small-nothing _);
}

pub returns-then-add_orders : goal.returns-then-add_orders
returns-then-add_orders c =
    let summed : c.add_orders.new.sums
    ≡ map (λ f. numbers_on c.args.moves.now c.args.orders.now (entry_name f)) c.args.fields.now =
    grind (arith, added-all) in
    let have = c.have_numbers.ensures (numbers_on c.args.moves.now c.args.orders.now) summed in
    grind arith
