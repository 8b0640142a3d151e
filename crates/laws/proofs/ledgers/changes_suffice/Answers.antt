use Rattle.ledger.proofs.NextContent.{changes_suffice}
use Rattle.ledger.proofs.Runs.{no_key}
use Rattle.laws.proofs.ledgers.changes_suffice.Goals as goal

pub returns : goal.returns
returns c A r C D good key range accepted x y = changes_suffice A r C D good key range (no_key _ accepted.0) accepted.1 x y
