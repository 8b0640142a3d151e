use Rattle.ledger.specs.Rolled.{is_recent_deal}
use Rattle.laws.proofs.Rolled.{fields_hold, stands_left}
use Rattle.laws.proofs.roll.rolled_stands.Goals as goal

pub returns-clause-stands : goal.returns-clause-stands
returns-clause-stands c K A = stands_left (is_recent_deal K A) K A

pub returns-clause-holds : goal.returns-clause-holds
returns-clause-holds c K A = fields_hold (is_recent_deal K A) K A
