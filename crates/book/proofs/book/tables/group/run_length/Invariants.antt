-- all rows so far are of the order
use Rattle.ledger.proofs.Prelude.{◌≡◌, Each, pos, take}
use Rattle.book.proofs.book.tables.group.run_length.Given as goal

abbrev pub invariant-loop-i : goal.invariant-loop-i
invariant-loop-i l = Each (λ row. row.number ≡ pos l.fn.number) (take l.i l.rows)
