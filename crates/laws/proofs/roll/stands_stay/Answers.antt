use Rattle.laws.proofs.Staying.{stays_alike}
use Rattle.laws.proofs.roll.stands_stay.Goals as goal

pub returns : goal.returns
returns c = stays_alike
