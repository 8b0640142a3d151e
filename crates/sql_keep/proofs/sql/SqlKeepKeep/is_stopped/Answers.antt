use Rattle.std.proofs.Common.{rules}
use Rattle.sql_keep.proofs.sql.SqlKeepKeep.is_stopped.Goals as goal

pub returns : goal.returns
returns g c = search rules
