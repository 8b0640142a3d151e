use Rattle.laws.proofs.Together.{guards_stay}
use Rattle.laws.proofs.deals.guards_stay.Goals as goal

pub returns : goal.returns
returns c = guards_stay
