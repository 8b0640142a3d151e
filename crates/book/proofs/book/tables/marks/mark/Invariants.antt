-- the heads so far are marked by the rows so far
use Rattle.book.proofs.Prelude.{head_row}
use Rattle.ledger.proofs.Prelude.{map}
use Rattle.book.proofs.Marks.{MarkedSoFar}
use Rattle.book.proofs.book.tables.marks.mark.Given as goal

abbrev pub invariant-loop-head : goal.invariant-loop-head
invariant-loop-head l = MarkedSoFar (map head_row l.initial.heads) l.heads l.head-index l.rows l.next
