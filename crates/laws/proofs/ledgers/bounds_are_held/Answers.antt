use Rattle.ledger.proofs.Bounds.{inf_is, sup_is}
use Rattle.laws.proofs.ledgers.bounds_are_held.Goals as goal
use Rattle.ledger.proofs.Falls.{sounds_from_good}

pub returns-clause-infimum : goal.returns-clause-infimum
returns-clause-infimum c A f g = inf_is A (sounds_from_good A g) f

pub returns-clause-supremum : goal.returns-clause-supremum
returns-clause-supremum c A f g = sup_is A (sounds_from_good A g) f
