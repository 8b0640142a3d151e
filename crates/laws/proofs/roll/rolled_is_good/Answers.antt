use Rattle.ledger.specs.Rolled.{is_recent_deal}
use Rattle.laws.proofs.Rolled.{good_left}
use Rattle.laws.proofs.roll.rolled_is_good.Goals as goal

pub returns : goal.returns
returns c K A = good_left (is_recent_deal K A) K A
