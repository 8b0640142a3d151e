use Rattle.ledger.proofs.Prelude.{arith}
use Rattle.book.proofs.Prelude.{most_of_line}
use Rattle.book.proofs.SumsOnFields.{added-same}
use Rattle.book.proofs.book.tables.sums.add_line.Goals as goal

pub returns-clause-sums : goal.returns-clause-sums
returns-clause-sums c = grind (arith, added-same)

pub returns-clause-small : goal.returns-clause-small
returns-clause-small c k small = c.add_on.ensures.small k most_of_line small c.part_of-part.ensures.small
