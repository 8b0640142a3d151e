use Rattle.ledger.specs.Rolled.{is_recent_deal}
use Rattle.laws.proofs.Filling.{rows_fill, rows_rolled, rows_rolled_fill}
use Rattle.laws.proofs.roll.rows_fill_a_new_desk.Goals as goal

pub returns-clause-rolled : goal.returns-clause-rolled
returns-clause-rolled c K A = rows_rolled (is_recent_deal K A) K A

pub returns-clause-fill : goal.returns-clause-fill
returns-clause-fill c = rows_fill

pub returns-clause-new_desk : goal.returns-clause-new_desk
returns-clause-new_desk c = rows_rolled_fill
