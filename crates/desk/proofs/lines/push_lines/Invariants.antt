-- the lines so far are appended
use Rattle.std.proofs.Common.{◌≡◌, ◌++◌, take}
use Rattle.words.specs.Words.{after_space}
use Rattle.desk.specs.Replies.{held_words}
use Rattle.desk.proofs.lines.push_lines.Given as goal

abbrev pub invariant-loop-line : goal.invariant-loop-line
invariant-loop-line l = l.out.items ≡ l.initial.out.items ++ after_space (held_words (take l.line-index l.lines))
