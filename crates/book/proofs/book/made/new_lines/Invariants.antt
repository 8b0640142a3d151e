-- the lines so far are made
use Rattle.ledger.proofs.Prelude.{◌≡◌, map, new_line, take}
use Rattle.book.proofs.book.made.new_lines.Given as goal

abbrev pub invariant-loop-line : goal.invariant-loop-line
invariant-loop-line l = l.made.items ≡ map new_line (take l.line-index l.lines)
