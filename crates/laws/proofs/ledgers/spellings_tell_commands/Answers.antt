use Rattle.ledger.proofs.Runs.{same_is}
use Rattle.laws.proofs.ledgers.spellings_tell_commands.Goals as goal

pub returns : goal.returns
returns c = same_is
