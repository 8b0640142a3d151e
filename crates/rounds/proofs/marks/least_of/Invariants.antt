-- it is one of the places
use Rattle.std.proofs.Common.{◌<◌, length}
use Rattle.rounds.proofs.marks.least_of.Given as goal

abbrev pub invariant-loop-place : goal.invariant-loop-place
invariant-loop-place l = l.least < length l.numbers
