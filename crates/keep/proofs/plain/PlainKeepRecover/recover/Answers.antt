use Rattle.std.proofs.Common.{ap}
use Rattle.keep.specs.Plain.{Plain}
use Rattle.keep.proofs.plain.PlainKeepRecover.recover.Goals as goal

pub returns-clause-going : goal.returns-clause-going
returns-clause-going c = ap (λ (k : Plain). k.stopped) c.reopen-again.ensures
