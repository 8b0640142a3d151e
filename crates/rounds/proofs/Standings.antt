-- What a standing tells of a connection.
use Rattle.std.proofs.Common.{◌≡◌, ◌≢◌, ℕ, List, [], ◌∷◌, refl}
use Rattle.rounds.specs.declared.phase.Phase.{Phase}
use Rattle.rounds.specs.declared.phase.Phase.TheVariants as phase
use Rattle.rounds.specs.declared.standing.Standing.TheVariants as standing
use Rattle.rounds.specs.Lines.{LineView}
use Rattle.rounds.specs.Rounds.{standing_in, standing_of}

wants_by : (p : Phase) (output : List ℕ) → standing_in p output ≡ standing.Reads → p ≡ phase.Wants
wants_by phase.Wants output e = refl
wants_by phase.Asks [] e = absurd (cc)
wants_by phase.Asks (byte ∷ bytes) e = absurd (cc)
wants_by phase.Over [] e = absurd (cc)
wants_by phase.Over (byte ∷ bytes) e = absurd (cc)
wants_by phase.Gone output e = absurd (cc)

there_by : (p : Phase) (output : List ℕ) → standing_in p output ≡ standing.Writes → p ≢ phase.Gone
there_by phase.Wants output e = λ gone. absurd (cc)
there_by phase.Asks output e = λ gone. absurd (cc)
there_by phase.Over output e = λ gone. absurd (cc)
there_by phase.Gone output e = absurd (cc)

module _ {S P T : Type 0} (v : LineView S P T) where
  pub reads_wants : standing_of v ≡ standing.Reads → v.phase ≡ phase.Wants
  reads_wants = wants_by v.phase v.output

  pub writes_there : standing_of v ≡ standing.Writes → v.phase ≢ phase.Gone
  writes_there = there_by v.phase v.output
