use Rattle.sql_keep.proofs.LoadAnswers.{loaded}
use Rattle.sql_keep.proofs.table.load.Goals as goal

pub returns-then-are_in_order-clause-found : goal.returns-then-are_in_order-clause-found
returns-then-are_in_order-clause-found g c clean has =
    let t = g.R.TableRow in
    let shown = rw c.as_slice.ensures.value at c.in_ok-rows.ensures in
    let sorted = rw c.as_slice-2.ensures.value at (c.are_in_order.ensures.0 c.if-are_in_order.true) in (
      c.in_ok-answers.ensures.same clean has,
      loaded t.which t.cells _ c.in_ok-answers.answers.items c.in_ok-rows.rows.items
          (c.in_ok-answers.ensures.rows clean has) shown sorted,
    )
