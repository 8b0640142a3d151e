use Rattle.ledger.proofs.EqualRows.{told_by_rows}
use Rattle.laws.proofs.ledgers.rows_tell_all.Goals as goal

pub returns : goal.returns
returns c = told_by_rows
