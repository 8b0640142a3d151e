-- the rows of the fields so far are there
use Rattle.ledger.proofs.Prelude.{◌≡◌, map, no_content, rows_among, take}
use Rattle.book.proofs.Prelude.{entry_row, joined}
use Rattle.book.proofs.book.changed_rows.push_fields.Given as goal

abbrev pub invariant-loop-place : goal.invariant-loop-place
invariant-loop-place l =
    rows_among l.changes.items
    ≡ joined (rows_among l.initial.changes.items)
    (record no_content { fields = map entry_row (take l.place l.fields.entries) })
