use Rattle.ledger.proofs.Runs.{a_run, after_once, after_there, runs_once, runs_stay_good}
use Rattle.laws.proofs.ledgers.runs_stay_good.Goals as goal

pub returns-clause-some : goal.returns-clause-some
returns-clause-some c = a_run

pub returns-clause-one : goal.returns-clause-one
returns-clause-one c = runs_once

pub returns-clause-after : goal.returns-clause-after
returns-clause-after c = after_once

pub returns-clause-good : goal.returns-clause-good
returns-clause-good c = runs_stay_good

pub returns-clause-reached : goal.returns-clause-reached
returns-clause-reached c = after_there
