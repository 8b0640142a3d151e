-- so many are let go
use Rattle.std.proofs.Common.{◌≡◌, drop}
use Rattle.rounds.proofs.line.let_go.Given as goal

abbrev pub invariant-loop-question : goal.invariant-loop-question
invariant-loop-question g l = l.questions.items ≡ drop l._question l.initial.questions.items
