use Rattle.ledger.proofs.Prelude.{◌+◌, arith, ints}
use Rattle.book.proofs.Prelude.{most_of_all, most_of_move}
use Rattle.book.proofs.SumsOnFields.{sums-up}
use Rattle.book.proofs.book.tables.sums.add_move.Goals as goal

pub add_on-requires-clause-sums : goal.add_on-requires-clause-sums
add_on-requires-clause-sums c =
    sums-up most_of_all (most_of_all + most_of_all) c.args.fields.now c.args.sums.now (omega arith) c.requires.sums

pub returns-clause-small : goal.returns-clause-small
returns-clause-small c k small =
    c.add_on.ensures.small k most_of_move small
    (record {
      low = omega (arith, ints);
      high = omega (arith, ints);
      take_low = omega (arith, ints);
      take_high = omega (arith, ints);
      add_low = omega (arith, ints);
      add_high = omega (arith, ints);
    })
