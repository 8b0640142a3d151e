-- Rows among changes, as changes are appended.
use Rattle.ledger.proofs.Prelude.{[], ◌++◌, ◌∷◌, ◌≡◌, List, append-nil, arith, refl, rows_among}
use Rattle.ledger.specs.declared.rows.Change.{Change}
use Rattle.book.proofs.Prelude.{joined}

pub rows_among-append : (xs ys : List Change) → rows_among (xs ++ ys) ≡ joined (rows_among xs) (rows_among ys)
rows_among-append [] ys = refl
rows_among-append (c ∷ xs) ys = let more = rows_among-append xs ys in grind arith

-- what a proof reads where a change is appended
pub ruleset appended = (append-nil, rows_among-append)
