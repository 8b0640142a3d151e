use Rattle.ledger.proofs.Puts.{put_in_turn}
use Rattle.laws.proofs.ledgers.changes_are_put_in_turn.Goals as goal

pub returns : goal.returns
returns c = put_in_turn
