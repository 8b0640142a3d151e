-- somebody is at each place so far
use Rattle.std.proofs.Common.{◌≢◌, ◌<◌, ℕ, None, Some}
use Rattle.std.specs.Prelude.{slice_get}
use Rattle.rounds.proofs.places.Places.free_place.Given as goal

abbrev pub invariant-loop-place : goal.invariant-loop-place
invariant-loop-place g l = (place : ℕ) → place < l.place → slice_get l.self.lines place ≢ Some None
