-- the entries so far have their numbers, whatever numbers the sums are
use Rattle.ledger.proofs.Prelude.{◌≡◌, Name, map, take}
use Rattle.book.proofs.Prelude.{HaveNumbers, Numbers, entry_name}
use Rattle.book.proofs.book.tables.sums.have_numbers.Given as goal

abbrev pub invariant-loop-i : goal.invariant-loop-i
invariant-loop-i l =
    (numbers : Name → Numbers) → l.sums ≡ map (λ f. numbers (entry_name f)) l.fields
    → HaveNumbers numbers (take l.i l.fields)
