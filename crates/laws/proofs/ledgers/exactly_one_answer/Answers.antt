use Rattle.ledger.proofs.Runs.{accepted_once, answered_once, answered_if_good}
use Rattle.laws.proofs.ledgers.exactly_one_answer.Goals as goal

pub returns-clause-some : goal.returns-clause-some
returns-clause-some c = answered_if_good

pub returns-clause-one : goal.returns-clause-one
returns-clause-one c = answered_once

pub returns-clause-accepted : goal.returns-clause-accepted
returns-clause-accepted c = accepted_once
