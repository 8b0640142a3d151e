-- the rows so far, with those of the lines left, are all
use Rattle.ledger.proofs.Prelude.{amount_row, flat_map, line_steps, no_content, option_copied, rows_among, ◌≡◌}
use Rattle.book.proofs.Prelude.{joined, lines_before}
use Rattle.book.proofs.ChangedFields.{steps_from}
use Rattle.book.proofs.book.changed_rows.push_lines.Given as goal

abbrev pub invariant-loop-place : goal.invariant-loop-place
invariant-loop-place l =
    joined (rows_among l.changes.items) (record no_content {
      lines = flat_map (amount_row l.after.0)
          (steps_from (lines_before (option_copied l.before)) l.after.1.lines.items l.place);
    })
    ≡ joined (rows_among l.initial.changes.items) (record no_content {
      lines = flat_map (amount_row l.after.0)
          (line_steps 1 (lines_before (option_copied l.before)) l.after.1.lines.items);
    })
