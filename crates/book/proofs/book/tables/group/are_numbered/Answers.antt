use Rattle.ledger.proofs.Prelude.{arith, common_steps, ints, length-take-le}
use Rattle.book.proofs.LineGroups.{numbered-at, numbered-push}
use Rattle.ledger.proofs.TestResults.{no}
use Rattle.ledger.proofs.Lists.{take-step}
use Rattle.book.proofs.book.tables.group.are_numbered.Goals as goal

pub loop-i-preserved : goal.loop-i-preserved
loop-i-preserved c = grind (arith, ints, common_steps, length-take-le, numbered-push, take-step)

pub returns-then-row-i : goal.returns-then-row-i
returns-then-row-i c = grind (arith, no, numbered-at)
