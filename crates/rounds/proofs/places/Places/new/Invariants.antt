-- so many places are there, at which nobody is
use Rattle.std.proofs.Common.{◌≡◌, ℕ, Some, length}
use Rattle.std.specs.Prelude.{slice_get}
use Rattle.rounds.proofs.places.Places.new.Given as goal

abbrev pub invariant-loop-place : goal.invariant-loop-place
invariant-loop-place g l = record {
  size : length l.lines.items ≡ l._place;
  free : (place : ℕ) (v : _) → slice_get l.lines.items place ≡ Some (Some v) → ⊥;
}
