-- Which faults stop a desk.
use Rattle.std.proofs.Common.{◌≡◌, ◌≢◌, ◌⊎◌, ◌∙◌, Bool, Err, IfErr, Ok, Result, true, false, true≢false, ap, inl, inr, refl, sym}
use Rattle.std.specs.Prelude.{OnOk}
use Rattle.std.specs.Result.{IsErr, IsErrAnd}
use Rattle.desk.specs.declared.fault.ScriptFault.{ScriptFault}

abbrev is_stopped : ScriptFault → Bool
is_stopped ScriptFault.Stopped = true
is_stopped ScriptFault.Memory = false
is_stopped ScriptFault.Read = false
is_stopped ScriptFault.Write = false

pub memory_stops_nothing : ScriptFault.Memory ≢ ScriptFault.Stopped
memory_stops_nothing e = true≢false (sym (ap is_stopped e))

pub write_stops_nothing : ScriptFault.Write ≢ ScriptFault.Stopped
write_stops_nothing e = true≢false (sym (ap is_stopped e))

pub read_stops_nothing : ScriptFault.Read ≢ ScriptFault.Stopped
read_stops_nothing e = true≢false (sym (ap is_stopped e))

-- a fault is `Stopped`, or it is not
pub is_stop : (fault : ScriptFault) → (fault ≡ ScriptFault.Stopped) ⊎ (fault ≢ ScriptFault.Stopped)
is_stop ScriptFault.Stopped = inl refl
is_stop ScriptFault.Memory = inr memory_stops_nothing
is_stop ScriptFault.Read = inr read_stops_nothing
is_stop ScriptFault.Write = inr write_stops_nothing

abbrev pub error_or : {T E : Type 0} → E → Result T E → E
error_or none (Ok value) = none
error_or none (Err fault) = fault

-- an error is no other one
pub other_error : {T E : Type 0} (r : Result T E) (fault other : E) → r ≡ Err fault → fault ≢ other → r ≢ Err other
other_error r fault other is not e = not (sym (ap (error_or fault) is) ∙ ap (error_or fault) e)

-- what holds of an error that is answered
pub of_error : {T E : Type 0} (r : Result T E) (P Q : E → Type 0) → ((e : E) → r ≡ Err e → P e → Q e) → IfErr r P → IfErr r Q
of_error (Ok x) P Q on p = tt
of_error (Err e) P Q on p = on e refl p

-- what holds of an error that is passed up as another
pub passed_as : {T E : Type 0} (r : Result T E) (P Q : E → Type 0) → IsErrAnd r P → ((fault : E) → P fault → Q fault) → IfErr r Q
passed_as (Ok x) P Q is on = tt
passed_as (Err fault) P Q is on = on fault is

-- an error is no answer
pub never_ok : {T E : Type 0} (r : Result T E) (P : Type 0) → IsErr r → OnOk r P
never_ok (Ok x) P is = absurd (true≢false (sym is))
never_ok (Err fault) P is = tt
