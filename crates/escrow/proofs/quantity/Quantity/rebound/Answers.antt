use Rattle.std.proofs.Common.{arith}
use Rattle.escrow.proofs.Rebounds.{none_below, some_above, some_below}
use Rattle.escrow.proofs.quantity.Quantity.rebound.Goals as goal

pub returns-then-self-lo-clause-fault : goal.returns-then-self-lo-clause-fault
returns-then-self-lo-clause-fault c = grind (arith, some_below)

pub returns-then-self-hi-clause-fault : goal.returns-then-self-hi-clause-fault
returns-then-self-hi-clause-fault c = grind (arith, some_above, none_below)
