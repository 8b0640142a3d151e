use Rattle.laws.proofs.Recent.{named_iff}
use Rattle.laws.proofs.roll.commands_name_orders.Goals as goal

pub returns : goal.returns
returns c = named_iff
