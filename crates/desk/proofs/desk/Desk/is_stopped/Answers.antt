use Rattle.std.proofs.Common.{rules}
use Rattle.desk.proofs.desk.Desk.is_stopped.Goals as goal

pub returns-clause-stopped : goal.returns-clause-stopped
returns-clause-stopped g c = search rules
