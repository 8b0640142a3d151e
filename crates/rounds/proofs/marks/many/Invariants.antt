-- so many are there
use Rattle.std.proofs.Common.{◌≡◌, length}
use Rattle.rounds.proofs.marks.many.Given as goal

abbrev pub invariant-loop-one : goal.invariant-loop-one
invariant-loop-one g l = length l.all.items ≡ l._one
