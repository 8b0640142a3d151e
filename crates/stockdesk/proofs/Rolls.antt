-- A desk made with the rows of a ledger rolled up holds these.
use Rattle.std.proofs.Common.{◌≡◌, Err, Ok, Result, subst, ℕ}
use Rattle.std.specs.Prelude.{IfErr, IfOk}
use Rattle.ledger.specs.Good.{Good}
use Rattle.ledger.specs.Ledger.{Ledger}
use Rattle.ledger.specs.Rows.{Content, IsRowsOf}
use Rattle.keep.specs.declared.keep.Keep.{Ghosts}
use Rattle.stockdesk.specs.Rolls.{rolled_content}
use Rattle.stockdesk.specs.Sessions.{IsDeskOf}

pub made_rolled : {K F : Type 0} (g : Ghosts K) (made : Content) (r : Result K F) (keys : ℕ) (Clean : Type 0)
    (There : Content → Type 0) → IfOk r (IsDeskOf g made)
    → (Clean → (A : Ledger) (x : Content) → Good A → IsRowsOf A x → There x → made ≡ rolled_content keys A x)
    → IfOk r (λ keep. Clean → (A : Ledger) (x : Content) → Good A → IsRowsOf A x → There x
    → IsDeskOf g (rolled_content keys A x) keep)
made_rolled g made (Ok keep) keys Clean There is same = λ clean A x good rows there.
    subst (λ (y : Content). IsDeskOf g y keep) (same clean A x good rows there) is
made_rolled g made (Err e) keys Clean There is same = tt

pub at_error : {T E : Type 0} (r : Result T E) (Says : E → Type 0) (fault : E) → r ≡ Err fault → IfErr r Says → Says fault
at_error r Says fault is says = subst (λ x. IfErr x Says) is says
