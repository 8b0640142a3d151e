-- the rows of the lines so far are there
use Rattle.ledger.proofs.Prelude.{◌≡◌, map, rows_among, take}
use Rattle.ledger.specs.Rolled.{left_of}
use Rattle.ledger.specs.Rows.{lines_from}
use Rattle.ledger.specs.Tables.{no_content}
use Rattle.book.proofs.Prelude.{joined}
use Rattle.book.proofs.book.rolled.push_lines.Given as goal

abbrev pub invariant-loop-place : goal.invariant-loop-place
invariant-loop-place l =
    rows_among l.changes.items
    ≡ joined (rows_among l.initial.changes.items) (record no_content {
      lines = lines_from l.number 1 (map (left_of l.is_settled) (take l.place l.entry.lines.items));
    })
