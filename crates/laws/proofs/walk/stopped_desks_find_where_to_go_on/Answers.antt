use Rattle.ledger.proofs.Prelude.{take}
use Rattle.laws.proofs.Places.{goes_on, one_kept, place, range_take, some_kept, standing}
use Rattle.laws.proofs.walk.stopped_desks_find_where_to_go_on.Goals as goal

pub returns-clause-kept : goal.returns-clause-kept
returns-clause-kept c A B log i good range (done, run) = some_kept A B (take i log) done good (range_take i log range) run

pub returns-clause-one : goal.returns-clause-one
returns-clause-one c = one_kept

pub returns-clause-found : goal.returns-clause-found
returns-clause-found c A B log i kept good range after all =
    let p = place A B log i kept good range after all in (p.j, p.behind)

pub returns-clause-stands : goal.returns-clause-stands
returns-clause-stands c A B log i j kept good range after all behind =
    standing A B log i j kept (place A B log i kept good range after all) behind

pub returns-clause-goes_on : goal.returns-clause-goes_on
returns-clause-goes_on c = goes_on
