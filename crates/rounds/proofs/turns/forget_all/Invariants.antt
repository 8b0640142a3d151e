-- so it is at the places so far, and at the others as it was
use Rattle.rounds.specs.Lines.{speaks}
use Rattle.rounds.specs.Rounds.{IsForgotten}
use Rattle.rounds.proofs.Lists.{HasGoneOver}
use Rattle.rounds.proofs.turns.forget_all.Given as goal

abbrev pub invariant-loop-place : goal.invariant-loop-place
invariant-loop-place g l = HasGoneOver (IsForgotten (speaks g.D.Dialogue g.S.Stream)) l.initial.lines l.lines l.place
