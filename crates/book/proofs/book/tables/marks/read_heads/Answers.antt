use Rattle.ledger.proofs.Prelude.{arith}
use Rattle.std.proofs.Math.Seq.{take-append_seam}
use Rattle.book.proofs.RowEntries.{heads_cells, heads_told, marked_by}
use Rattle.ledger.proofs.TestResults.{passed_up}
use Rattle.book.proofs.book.tables.marks.read_heads.Goals as goal

pub returns-in_err-heads-clause-damaged : goal.returns-in_err-heads-clause-damaged
returns-in_err-heads-clause-damaged c = passed_up c.from_residual.result c.in_err-heads.field-0.0 _ c.from_residual.ensures.1
    (λ is A g orders firms. c.in_err-heads.ensures.damaged is (heads_told A c.args.orders.now g orders))

pub returns-then-mark-clause-told : goal.returns-then-mark-clause-told
returns-then-mark-clause-told c = grind (arith, take-append_seam, heads_cells)

pub returns-else-mark-clause-damaged : goal.returns-else-mark-clause-damaged
returns-else-mark-clause-damaged c _ A g orders firms =
    grind (arith, (marked_by A c.in_ok-heads.heads.items c.args.orders.now g c.in_ok-heads.ensures.told orders))
