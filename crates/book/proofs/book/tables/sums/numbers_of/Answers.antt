use Rattle.ledger.proofs.Prelude.{arith, ints, pos}
use Rattle.book.proofs.RunningNumbers.{greatest_is, least_is}
use Rattle.book.proofs.book.tables.sums.numbers_of.Goals as goal

pub returns : goal.returns
returns c =
    let quantity = c.args.entry.now.quantity in
    let least = least_is quantity (pos c.inf.result) c.inf.ensures in
    let greatest = greatest_is quantity (pos c.sup.result) c.sup.ensures in
    let value = c.get-value.ensures.value in
    let start = c.get.ensures.value in
    let inf = c.get-2.ensures.value in
    let sup = c.get-3.ensures.value in
    let value_range = c.get-value.ensures.range in
    let start_range = c.get.ensures.range in
    let inf_range = c.get-2.ensures.range in
    let sup_range = c.get-3.ensures.range in
    record { value = omega (arith, ints); takes = omega (arith, ints); adds = omega (arith, ints) }
