-- The lines so far and the rest are the input; whatever lines the input is, the rest is some of them.
use Rattle.std.proofs.Common.{◌≡◌, ◌++◌, length}
use Rattle.words.specs.OpenLines.{line_words}
use Rattle.words.specs.Words.{words_of}
use Rattle.words.proofs.OrderLines.{Spelled}
use Rattle.words.proofs.read.read_lines.Given as goal

abbrev pub invariant-loop-line : goal.invariant-loop-line
invariant-loop-line l =
    (words_of l.fn.bytes ≡ line_words l.lines.items ++ words_of l.rest)
    × (Spelled (words_of l.fn.bytes) → Spelled (words_of l.rest))

abbrev pub decreases-loop-line : goal.decreases-loop-line
decreases-loop-line l = length l.rest
