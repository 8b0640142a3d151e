use Rattle.desk.proofs.Resumption.{found_standing, resumed_same}
use Rattle.desk.proofs.laws.resuming_is_invisible.Goals as goal

pub returns-clause-same : goal.returns-clause-same
returns-clause-same c = resumed_same

pub returns-clause-found : goal.returns-clause-found
returns-clause-found c = found_standing
