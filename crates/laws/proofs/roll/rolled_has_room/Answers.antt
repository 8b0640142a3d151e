use Rattle.ledger.specs.Rolled.{is_recent_deal}
use Rattle.laws.proofs.Recent.{orders_few}
use Rattle.laws.proofs.Rolled.{open_same, places_left}
use Rattle.laws.proofs.roll.rolled_has_room.Goals as goal

pub returns-clause-places : goal.returns-clause-places
returns-clause-places c K A = places_left (is_recent_deal K A) K A

pub returns-clause-open : goal.returns-clause-open
returns-clause-open c K A = open_same (is_recent_deal K A) K A

pub returns-clause-orders : goal.returns-clause-orders
returns-clause-orders c = orders_few
