-- the lines so far are changed
use Rattle.ledger.proofs.Prelude.{◌||◌, ◌≡◌, if◌then◌else◌, on}
use Rattle.book.proofs.Prelude.{changed_line}
use Rattle.ledger.proofs.Lists.{walked}
use Rattle.book.proofs.book.made.change_lines.Given as goal

abbrev pub invariant-loop-line : goal.invariant-loop-line
invariant-loop-line l =
    l.lines
    ≡ walked (λ m. if l.is_transfer || on l.name m then changed_line l.change m else m) l.line-index l.initial.lines
