use Rattle.std.proofs.Common.{◌≡◌, arith, refl, rules}
use Rattle.keep.specs.Content.{newest}
use Rattle.keep.specs.Keeping.{IsLaidOut}
use Rattle.keep.proofs.plain.PlainKeepKeep.TheImpl.Goals as goal

-- its layout is that of the newest version
known : ¬ IsLaidOut (λ version. version ≡ newest) → ⊥
known none = none (newest, omega arith, omega arith, refl)

pub load-tells : goal.load-tells
load-tells c = search (rules, known)
