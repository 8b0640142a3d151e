use Rattle.std.proofs.Common.{rules}
use Rattle.sql_keep.proofs.sql.SqlKeep.into_connection.Goals as goal

pub returns-clause-connection : goal.returns-clause-connection
returns-clause-connection g c = search rules

pub returns-clause-idle : goal.returns-clause-idle
returns-clause-idle g c = search rules
