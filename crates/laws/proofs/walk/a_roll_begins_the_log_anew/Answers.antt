use Rattle.ledger.specs.Rolled.{is_recent_deal, rolled}
use Rattle.laws.proofs.OtherSide.{sides_differ}
use Rattle.laws.proofs.Places.{place, range_take, some_kept, standing}
use Rattle.laws.proofs.Rolled.{good_left}
use Rattle.ledger.proofs.Prelude.{take}
use Rattle.laws.proofs.walk.a_roll_begins_the_log_anew.Goals as goal

pub returns-clause-found : goal.returns-clause-found
returns-clause-found c K A B log i good range after =
    let R = rolled K A in
    let rolled_good = good_left (is_recent_deal K A) K A good in
    let (replies, run) = after in
    let (kept, all) = some_kept R B (take i log) replies rolled_good (range_take i log range) run in
    let p = place R B log i kept rolled_good range after all in
    let (within, stood) = standing R B log i p.j kept p p.behind in
    (kept, p.j, all, p.behind, within, stood)

pub returns-clause-sides : goal.returns-clause-sides
returns-clause-sides c = sides_differ
