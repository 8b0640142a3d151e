use Rattle.ledger.proofs.Prelude.{arith, ints}
use Rattle.book.proofs.SumsOnFields.{same-numbers}
use Rattle.book.proofs.book.tables.sums.Numbers.plus.Goals as goal

pub returns : goal.returns
returns c = same-numbers _ _ (omega (arith, ints)) (omega (arith, ints)) (omega (arith, ints))
