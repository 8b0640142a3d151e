use Rattle.ledger.proofs.Prelude.{append_assoc, arith, append-nil}
use Rattle.book.proofs.Among.{appended}
use Rattle.book.proofs.book.rolled.push_order.Goals as goal

pub returns-in_ok-push-2 : goal.returns-in_ok-push-2
returns-in_ok-push-2 c = grind (arith, append_assoc, append-nil, appended)

pub returns-else-order : goal.returns-else-order
returns-else-order c = grind (arith, append_assoc, append-nil, appended)
