use Rattle.ledger.proofs.Futures.{honours_always}
use Rattle.laws.proofs.ledgers.good_ledgers_honour.Goals as goal
use Rattle.ledger.proofs.Runs.{honours_if_good}

pub returns-clause-answered : goal.returns-clause-answered
returns-clause-answered c A g = honours_if_good A g

pub returns-clause-always : goal.returns-clause-always
returns-clause-always c A g = honours_always A g
