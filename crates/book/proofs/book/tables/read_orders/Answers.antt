use Rattle.ledger.proofs.Prelude.{arith}
use Rattle.book.proofs.RowEntries.{lines_told, orders_told, rows_of_orders}
use Rattle.ledger.proofs.TestResults.{passed_up}
use Rattle.book.proofs.book.tables.read_orders.Goals as goal

pub returns-in_err-told-clause-damaged : goal.returns-in_err-told-clause-damaged
returns-in_err-told-clause-damaged c = passed_up c.from_residual-in_err-told.result c.in_err-told.field-0.0 _
    c.from_residual-in_err-told.ensures.1
    (λ is A g rows. c.in_err-told.ensures.damaged is (lines_told A c.args.lines.now g rows.lines_are))

pub returns-clause-told : goal.returns-clause-told
returns-clause-told c = grind (arith, rows_of_orders)

pub returns-clause-damaged : goal.returns-clause-damaged
returns-clause-damaged c = grind (arith, orders_told)
