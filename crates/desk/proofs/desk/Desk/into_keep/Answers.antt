use Rattle.std.proofs.Common.{ap}
use Rattle.desk.proofs.desk.Desk.into_keep.Goals as goal

pub returns-clause-keep : goal.returns-clause-keep
returns-clause-keep g c = ap (λ d. d.keep) c.self.view_is
