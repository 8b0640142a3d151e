use Rattle.ledger.specs.declared.order.Line.{Line}
use Rattle.ledger.proofs.Prelude.{List, append_assoc, arith, option_copied, ap, append-nil, length}
use Rattle.book.proofs.Prelude.{lines_before}
use Rattle.book.proofs.Among.{appended}
use Rattle.std.proofs.lemmas.List.{drop_all}
use Rattle.book.proofs.ChangedFields.{step_next}
use Rattle.book.proofs.book.changed_rows.push_lines.Goals as goal
use Rattle.book.proofs.book.changed_rows.push_lines.Goals as goal

pub loop-place-preserved : goal.loop-place-preserved
loop-place-preserved c =
    let bs : List Line = lines_before (option_copied c.args.before) in
    let next =
    step_next bs c.deref-line-items.result.now c.loop-place.place c.line-item.result c.loop-place-test.true
    c.line-item.is in
    grind (arith, append_assoc, appended)

pub returns : goal.returns
returns c =
    let past =
    drop_all c.loop-place.place c.args.after.now.1.lines.items
    (omega (arith, ap (length {A = Line}) c.deref-line-items.ensures.value)) in
    grind (arith, append-nil)
