use Rattle.std.proofs.Common.{◌∙◌, ◌∷◌, ◌++◌, [], ap, arith}
use Rattle.files.proofs.SheetLines.{field_hidden, field_shown, sum_more, text_more, whole_sheet}
use Rattle.files.proofs.sheet.text_of.Goals as goal
use Rattle.files.proofs.sheet.text_of.Goals.{in-Some-title+in_ok-push_field, in_default-title}

pub loop-index-preserved : goal.loop-index-preserved
loop-index-preserved c =
    let (views, show, lines, sum, most) = c.loop-index.invariant in
    elim c.match-title.branch [
      | in-Some-title+in_ok-push_field w ↦
          let added = sum_more views c.in-Some.view c.loop-index.total sum in (
            views ++ c.in-Some.view ∷ [],
            field_shown c.args.book.now.ledger c.args.shown views c.loop-index.index c.in-Some.view show
                c.in-Some.ensures.found w.in-Some-title.ensures.0,
            text_more c.args.shown views c.in-Some.view w.in-Some-title.title.now c.loop-index.text.items
                c.match-title.text.items w.in-Some-title.ensures.1 lines
                (ap (λ t. t.items) w.text-is ∙ w.in_ok-push_field.ensures),
            omega arith,
            omega arith,
          )
      | in_default-title w ↦ (
        views,
        field_hidden c.args.book.now.ledger c.args.shown views c.loop-index.index c.in-Some.view show
            c.in-Some.ensures.found w.in_default-title.ensures,
        ap (λ t. t.items) w.text-is ∙ lines,
        w.total-is ∙ sum,
        omega arith,
      )
    ]

pub returns : goal.returns
returns c =
    let (views, show, lines, sum, most) = c.loop-index.invariant in
    whole_sheet c.args.book.now.ledger c.args.shown views c.loop-index.index c.loop-index.text.items
    c.push_total.new.out.items c.loop-index.total show (omega arith) lines sum c.in_ok-push_total.ensures
