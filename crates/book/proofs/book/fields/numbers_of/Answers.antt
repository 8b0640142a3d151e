use Rattle.ledger.proofs.Prelude.{arith, ints, pos}
use Rattle.book.proofs.RunningNumbers.{greatest_is, least_is}
use Rattle.book.proofs.book.fields.numbers_of.Goals as goal

pub returns-clause-inf : goal.returns-clause-inf
returns-clause-inf c = let is = least_is c.args.quantity.now (pos c.inf.result) c.inf.ensures in omega (arith, ints)

pub returns-clause-sup : goal.returns-clause-sup
returns-clause-sup c = let is = greatest_is c.args.quantity.now (pos c.sup.result) c.sup.ensures in omega (arith, ints)
