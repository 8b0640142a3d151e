use Rattle.laws.proofs.Staying.{rolled_stays}
use Rattle.laws.proofs.roll.rolled_runs.Goals as goal

pub returns : goal.returns
returns c = rolled_stays
