use Rattle.laws.proofs.InBetween.{replies_as_never_rolled, rolled_once, rolled_run}
use Rattle.laws.proofs.roll.rolls_in_between.Goals as goal

pub returns-clause-some : goal.returns-clause-some
returns-clause-some c = rolled_run 0

pub returns-clause-one : goal.returns-clause-one
returns-clause-one c = rolled_once 0

pub returns-clause-replies : goal.returns-clause-replies
returns-clause-replies c = replies_as_never_rolled
