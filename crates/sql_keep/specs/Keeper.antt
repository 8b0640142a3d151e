-- A keeper over a connection, as contracts see it.
use Rattle.std.specs.Prelude.{Bool, refl}
use Rattle.std.specs.Coded.{Coded, code_by, coded×, coded_bool}
use Rattle.sqlite.specs.Held.{Held, held_code}

pub record Keeper (S : Type 0) : Type 0 where
  pub connection : Held S
  pub stopped : Bool

abbrev pub keeper_code : {S : Type 0} → Coded S → Coded (Keeper S)
keeper_code {S} store =
    code_by (Held S × Bool) (coded× (held_code store) coded_bool) (λ k. (k.connection, k.stopped))
    (λ p. record { connection = p.0; stopped = p.1 }) (λ _. refl)
