use Rattle.ledger.proofs.Prelude.{refl}
use Rattle.laws.proofs.roll.a_roll_is_worked_out.Goals as goal

pub returns : goal.returns
returns c = refl
