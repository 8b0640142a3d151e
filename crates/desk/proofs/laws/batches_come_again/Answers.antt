use Rattle.desk.proofs.BatchesAgain.{batch_again, fails_within, resumed_within}
use Rattle.desk.proofs.laws.batches_come_again.Goals as goal

pub returns-clause-same : goal.returns-clause-same
returns-clause-same c = batch_again

pub returns-clause-found : goal.returns-clause-found
returns-clause-found c = fails_within

pub returns-clause-resumed : goal.returns-clause-resumed
returns-clause-resumed c = resumed_within
