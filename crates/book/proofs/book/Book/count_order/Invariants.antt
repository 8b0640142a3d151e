-- the lines left may be counted, and what they count for with those so far is all
use Rattle.book.proofs.Prelude.{CountsMore, FieldEntry, MayCount, lines_before, step_seen}
use Rattle.ledger.proofs.Prelude.{List, Name, map, option_copied, share_step, shares_of_step}
use Rattle.book.proofs.ChangedFields.{steps_from}
use Rattle.book.proofs.book.Book.count_order.Given as goal

abbrev pub invariant-loop-place : goal.invariant-loop-place
invariant-loop-place l = record {
  may : MayCount l.self.ledger (map (share_step (step_seen (option_copied l.before) l.after))
      (steps_from (lines_before (option_copied l.before)) l.after.1.lines.items l.place)) l.fields.entries;
  more : (E : List (Name × FieldEntry)) → CountsMore l.self.ledger (map (share_step (step_seen (option_copied l.before) l.after))
      (steps_from (lines_before (option_copied l.before)) l.after.1.lines.items l.place)) l.fields.entries E
      → CountsMore l.self.ledger (shares_of_step (step_seen (option_copied l.before) l.after)) l.initial.fields.entries E;
}
