use Rattle.desk.proofs.FoundAgain.{same_after_all, stands_after_all, told_after_all}
use Rattle.desk.proofs.headline.any_number_of_cuts.Goals as goal

pub returns-clause-found : goal.returns-clause-found
returns-clause-found c = stands_after_all

pub returns-clause-same : goal.returns-clause-same
returns-clause-same c = same_after_all

pub returns-clause-told : goal.returns-clause-told
returns-clause-told c = told_after_all
