-- the lines so far are on fields, and added
use Rattle.ledger.proofs.Prelude.{◌*◌, ◌+◌, ◌≡◌, Each, take, ℕ}
use Rattle.book.proofs.Prelude.{AreLinesOnFields, IsSmall, added, lines_numbers, most_of_line}
use Rattle.book.proofs.book.tables.sums.add_lines.Given as goal

abbrev pub invariant-loop-line : goal.invariant-loop-line
invariant-loop-line l = record {
  there : AreLinesOnFields l.fields (take l.line-index l.lines);
  sums : l.sums ≡ added (lines_numbers l.state l.firm (take l.line-index l.lines)) l.fields l.initial.sums;
  small : (k : ℕ) → Each (IsSmall k) l.initial.sums → Each (IsSmall (k + most_of_line * l.line-index)) l.sums;
}
