use Rattle.laws.proofs.Copies.{grown, kept_stays, passed_over, range}
use Rattle.laws.proofs.late.late_copies_change_nothing.Goals as goal

pub returns-clause-fresh : goal.returns-clause-fresh
returns-clause-fresh c log more = let a = grown log more in (a.rest, a.same, a.fresh)

pub returns-clause-passed_over : goal.returns-clause-passed_over
returns-clause-passed_over c = passed_over

pub returns-clause-unchanged : goal.returns-clause-unchanged
returns-clause-unchanged c = kept_stays

pub returns-clause-range : goal.returns-clause-range
returns-clause-range c = range
