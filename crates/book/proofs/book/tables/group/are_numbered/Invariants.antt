-- the rows so far count from 1
use Rattle.book.proofs.Prelude.{AreNumbered}
use Rattle.ledger.proofs.Prelude.{take}
use Rattle.book.proofs.book.tables.group.are_numbered.Given as goal

abbrev pub invariant-loop-i : goal.invariant-loop-i
invariant-loop-i l = AreNumbered 1 (take l.i l.rows)
