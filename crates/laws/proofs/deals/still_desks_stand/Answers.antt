use Rattle.laws.proofs.StillDesks.{still_desks_stand}
use Rattle.laws.proofs.deals.still_desks_stand.Goals as goal

pub returns : goal.returns
returns c = still_desks_stand
