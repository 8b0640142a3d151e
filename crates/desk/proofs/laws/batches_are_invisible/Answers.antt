use Rattle.desk.proofs.ManyBatches.{found_within, in_lists, one_by_one, resumes_within, same_within, stands_wider}
use Rattle.desk.proofs.laws.batches_are_invisible.Goals as goal

pub returns-clause-wider : goal.returns-clause-wider
returns-clause-wider c = stands_wider

pub returns-clause-on : goal.returns-clause-on
returns-clause-on c = resumes_within

pub returns-clause-same : goal.returns-clause-same
returns-clause-same c = same_within

pub returns-clause-found : goal.returns-clause-found
returns-clause-found c = found_within

pub returns-clause-cut_into_lists : goal.returns-clause-cut_into_lists
returns-clause-cut_into_lists c = in_lists

pub returns-clause-as_one_by_one : goal.returns-clause-as_one_by_one
returns-clause-as_one_by_one c = one_by_one
