use Rattle.ledger.proofs.Prelude.{arith, ints, pos}
use Rattle.book.proofs.RunningNumbers.{entry_cells_are, greatest_is, least_is}
use Rattle.book.proofs.book.changed_rows.field_row.Goals as goal

pub returns : goal.returns
returns c =
    let quantity = c.args.field.now.1.quantity in
    let least = least_is quantity (pos c.inf.result) c.inf.ensures in
    let greatest = greatest_is quantity (pos c.sup.result) c.sup.ensures in
    let lo = c.lo.ensures in
    let hi = c.hi.ensures in
    entry_cells_are c.args.field.now c.in_ok-branch_text.field-0 c.in_ok-article_text.field-0 _ _ _ _ _ _
    c.in_ok-branch_text.ensures c.in_ok-article_text.ensures
    (let v = c.get.ensures.value in let r = c.get.ensures.range in omega (arith, ints))
    (let v = c.get-2.ensures.value in let r = c.get-2.ensures.range in omega (arith, ints))
    (let v = c.get-3.ensures.value in let r = c.get-3.ensures.range in omega (arith, ints))
    (let v = c.get-4.ensures.value in let r = c.get-4.ensures.range in omega (arith, ints))
    (let v = c.get-5.ensures.value in let r = c.get-5.ensures.range in omega (arith, ints))
    (let v = c.get-6.ensures.value in let r = c.get-6.ensures.range in omega (arith, ints))
