-- each line so far is in range
use Rattle.std.proofs.Common.{ℕ, ◌<◌, get_or}
use Rattle.words.specs.OpenLines.{IsOpenLine}
use Rattle.words.specs.declared.open_line.OpenLine.{OpenLine}
use Rattle.words.proofs.open_line.all_in_range.Given as goal

abbrev pub invariant-loop-line : goal.invariant-loop-line
invariant-loop-line l = (k : ℕ) (other : OpenLine) → k < l.line-index → IsOpenLine (get_or l.lines k other)
