use Rattle.index.proofs.Prelude.{arith}
use Rattle.index.proofs.KeyPlaces.{empty_order}
use Rattle.index.proofs.in_order.InOrder.new.Goals as goal

pub invariant_of-result : goal.invariant_of-result
invariant_of-result g c = empty_order _ _ _ (grind arith) (grind arith)
