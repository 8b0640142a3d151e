use Rattle.std.proofs.Common.{◌≡◌, arith, refl}
use Rattle.keep.specs.Content.{newest}
use Rattle.keep.specs.Keeping.{IsLaidOut}
use Rattle.desk.proofs.deferred.DeferredKeep.load.Goals as goal

-- its layout is that of the newest version
known : ¬ IsLaidOut (λ version. version ≡ newest) → ⊥
known none = none (newest, omega arith, omega arith, refl)

pub returns-clause-other : goal.returns-clause-other
returns-clause-other g c = λ going. record { nameless = λ none. absurd (none tt); other = λ names none. absurd (known none) }
