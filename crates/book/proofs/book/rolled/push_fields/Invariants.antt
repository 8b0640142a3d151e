-- the rows of the fields so far are there
use Rattle.ledger.proofs.Prelude.{◌≡◌, rows_among, take}
use Rattle.book.specs.inner.Rolling.{restarted_content}
use Rattle.book.proofs.Prelude.{joined}
use Rattle.book.proofs.book.rolled.push_fields.Given as goal

abbrev pub invariant-loop-place : goal.invariant-loop-place
invariant-loop-place l =
    rows_among l.changes.items
    ≡ joined (rows_among l.initial.changes.items) (restarted_content (take l.place l.fields.entries))
