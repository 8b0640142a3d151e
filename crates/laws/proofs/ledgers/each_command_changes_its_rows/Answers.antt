use Rattle.laws.proofs.Table.{all_told, table_holds}
use Rattle.laws.proofs.ledgers.each_command_changes_its_rows.Goals as goal

pub returns : goal.returns
returns c A r next good range passed = all_told A r (table_holds A r.command good range passed) next
