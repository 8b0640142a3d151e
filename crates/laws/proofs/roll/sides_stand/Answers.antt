use Rattle.laws.proofs.Sides.{rolled_side_keeps, sides_keep}
use Rattle.laws.proofs.roll.sides_stand.Goals as goal

pub returns-clause-known : goal.returns-clause-known
returns-clause-known c = sides_keep

pub returns-clause-rolled : goal.returns-clause-rolled
returns-clause-rolled c = rolled_side_keeps
