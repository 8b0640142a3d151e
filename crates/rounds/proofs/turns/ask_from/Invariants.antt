-- the places so far have had their turn
use Rattle.std.proofs.Common.{ℕ}
use Rattle.desk.specs.Deferred.{snapshot_off}
use Rattle.desk.specs.Desk.{Snapshot}
use Rattle.rounds.specs.Lines.{Heard, speaks}
use Rattle.rounds.specs.Rounds.{AtEach, InRound, OnlyPutsOff, SameAt}
use Rattle.rounds.proofs.turns.ask_from.Given as goal

abbrev pub invariant-loop-place : goal.invariant-loop-place
invariant-loop-place g l = record {
  seats : AtEach SameAt l.initial.lines l.lines;
  asked : (heard : ℕ → Heard g.D.Dialogue.Asked g.D.Dialogue.Told) (start : Snapshot)
      → InRound (speaks g.D.Dialogue g.S.Stream) start (snapshot_off l.initial.desk) l.initial.lines heard
      → InRound (speaks g.D.Dialogue g.S.Stream) start (snapshot_off l.desk) l.lines heard;
  off : OnlyPutsOff l.initial.desk l.desk;
}
