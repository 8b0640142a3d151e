-- Whoever is at a place is at one before a bound.
use Rattle.std.proofs.Common.{◌≡◌, ◌∙◌, ◌<◌, ◌≤◌, ℕ, List, [], ◌∷◌, Option, None, Some, ap, arith, length, length-set, refl, set}
use Rattle.std.specs.Prelude.{Err, IfNone, Ok, Result, option_map, slice_get}
use Rattle.rounds.specs.Histories.{PlacesView}
use Rattle.rounds.specs.Lines.{LineView, Speaks}
use Rattle.rounds.specs.Rounds.{AreBefore, AtEach, IsLooked, IsRead, IsWritten, SameAt}
use Rattle.rounds.proofs.Lists.{all_set, each_size, set_still}
use Rattle.rounds.proofs.OneTurn.{seat_before}

module _ {V : Type 0} where
  pub before_set : (bound : ℕ) (xs : List (Option V)) (p : ℕ) (w : Option V) → AreBefore bound xs
      → ((v : V) → w ≡ Some v → p < bound)
      → AreBefore bound (set xs p w)
  before_set bound xs p w before here q v e = all_set (λ r (o : Option V). (x : V) → o ≡ Some x → r < bound) xs p w here
      (λ r o other at_r x is. before r x (at_r ∙ ap Some is)) q (Some v) e v refl

  -- what is at one place changes, and nobody comes there
  pub taken_set : (bound : ℕ) (xs : List (Option V)) (p : ℕ) (v w : Option V) → slice_get xs p ≡ Some v → (v ≡ None → w ≡ None)
      → (bound ≤ length xs) × AreBefore bound xs → (bound ≤ length (set xs p w)) × AreBefore bound (set xs p w)
  taken_set bound xs p v w at_p still (within, before) =
      (omega (arith, within, length-set xs p w), before_set bound xs p w before (by v at_p still))
    where
      by : (v : Option V) → slice_get xs p ≡ Some v → (v ≡ None → w ≡ None) → (x : V) → w ≡ Some x → p < bound
      by None at_p still x is = let none : w ≡ None = still refl in absurd (cc)
      by (Some u) at_p still x is = before p u at_p

  -- somebody comes to a place
  pub taken_more : (bound more : ℕ) (xs : List (Option V)) (p : ℕ) (w : Option V) → bound ≤ more → p < more
      → more ≤ length xs → AreBefore bound xs
      → (more ≤ length (set xs p w)) × AreBefore more (set xs p w)
  taken_more bound more xs p w le lt within before =
      (omega (arith, within, length-set xs p w), before_set more xs p w (λ q v e. omega (arith, le, before q v e)) (λ v is. lt))

abbrev pub placed : {V : Type 0} → List (Option V) → ℕ → PlacesView V
placed xs count = record { lines = xs; connections = count }

-- nobody leaves a place at which nobody is
pub nobody_left : {V S : Type 0} (f : V → S) (xs : List (Option V)) (count p : ℕ) (x : Option V) (left : Option S)
    → slice_get xs p ≡ Some x
    → left ≡ option_map f x
    → IfNone left (placed (set xs p None) count ≡ placed xs count)
nobody_left f xs count p None None e is = ap (λ ys. placed ys count) (set_still xs p None e)
nobody_left f xs count p (Some v) None e is = absurd (cc)
nobody_left f xs count p None (Some s) e is = tt
nobody_left f xs count p (Some v) (Some s) e is = tt

module _ {S P T : Type 0} where
  pub before_each : (bound : ℕ) (old new : List (Option (LineView S P T))) → AtEach SameAt old new → AreBefore bound old
      → AreBefore bound new
  before_each bound old new seats before p w e = let (v, at_p, same) = seat_before old new p w seats e in before p v at_p

  pub taken_each : (bound : ℕ) (old new : List (Option (LineView S P T))) → AtEach SameAt old new
      → (bound ≤ length old) × AreBefore bound old
      → (bound ≤ length new) × AreBefore bound new
  taken_each bound old new seats (within, before) =
      (omega (arith, within, each_size SameAt old new seats), before_each bound old new seats before)

  module _ {Q A : Type 0} (g : Speaks S P T Q A) where
    -- nobody comes to a place where nobody is
    pub looked_none : (v w : Option (LineView S P T)) → IsLooked g v w → v ≡ None → w ≡ None
    looked_none None None h none = none
    looked_none None (Some w) h none = absurd h
    looked_none (Some v) w h none = absurd (cc)

    pub read_none : {E : Type 0} (result : Result (Option ℕ) E) (piece : List ℕ) (v w : Option (LineView S P T))
        → IsRead g result piece v w
        → v ≡ None → w ≡ None
    read_none (Ok None) piece v w (quiet, same) none = same ∙ none
    read_none (Ok (Some count)) piece None w h none = absurd h
    read_none (Ok (Some count)) piece (Some v) w h none = absurd (cc)
    read_none (Err error) piece None w h none = absurd h
    read_none (Err error) piece (Some v) w h none = absurd (cc)

    pub written_none : {E : Type 0} (result : Result (Option ℕ) E) (v w : Option (LineView S P T))
        → IsWritten g result v w → v ≡ None → w ≡ None
    written_none (Ok None) v w (quiet, same) none = same ∙ none
    written_none (Ok (Some count)) None w h none = absurd h
    written_none (Ok (Some count)) (Some v) w h none = absurd (cc)
    written_none (Err error) None w h none = absurd h
    written_none (Err error) (Some v) w h none = absurd (cc)
