use Rattle.ledger.proofs.Prelude.{[], common_steps, ◌+◌, ◌∙◌, ◌∷◌, None, OpenLine, Some, arith, name_of, no_field, sym}
use Rattle.book.specs.inner.Checking.{bound_checks}
use Rattle.book.proofs.CheckAnswers.{fails_with, apart-step, cut_short, go_on, line_fails, line_passes, none_apart}
use Rattle.book.proofs.book.Book.check_lines.Goals as goal

pub loop-i-init : goal.loop-i-init
loop-i-init c = record { apart = none_apart; rest = λ n kind until found k. k }

pub returns-in_err-field : goal.returns-in_err-field
returns-in_err-field c n kind until =
    let A = c.args.self.now.ledger in
    let l : OpenLine = c.index-lines-i.result in
    let f = name_of l.branch l.article in
    let x = c.in_err-field.field-0.0 in
    let e = c.in_err-field.ensures in
    fails_with _ _ c.from_residual.result x c.from_residual.ensures.1
    (line_fails A c.args.lines.now c.loop-i.i l c.loop-i-test.true c.index-lines-i.is e.good
    c.loop-i.invariant.apart (sym c.has_line_on.ensures ∙ c.if-has_line_on.false) x
    (cut_short (no_field A f (c.loop-i.i + 1) ∷ []) (bound_checks l.way A f l.qty (c.loop-i.i + 1)) x e.found)
    c.loop-i.invariant.rest n kind until)

pub returns-in_err-ask : goal.returns-in_err-ask
returns-in_err-ask c n kind until =
    let A = c.args.self.now.ledger in
    let l : OpenLine = c.index-lines-i.result in
    let f = name_of l.branch l.article in
    let x = c.in_err-ask.field-0.0 in
    let e = c.in_ok-field.ensures in
    fails_with _ _ c.from_residual-in_err-ask.result x c.from_residual-in_err-ask.ensures.1
    (line_fails A c.args.lines.now c.loop-i.i l c.loop-i-test.true c.index-lines-i.is e.good
    c.loop-i.invariant.apart (sym c.has_line_on.ensures ∙ c.if-has_line_on.false) x
    (go_on (no_field A f (c.loop-i.i + 1) ∷ []) (bound_checks l.way A f l.qty (c.loop-i.i + 1)) (Some x) e.found.0
    (c.in_err-ask.ensures A f e.good (grind (arith, e.up_to_date)) (grind (arith, e.found.1))))
    c.loop-i.invariant.rest n kind until)

pub loop-i-preserved : goal.loop-i-preserved
loop-i-preserved c =
    let A = c.args.self.now.ledger in let l : OpenLine = c.index-lines-i.result in let f = name_of l.branch l.article in
    let alone = sym c.has_line_on.ensures ∙ c.if-has_line_on.false in let e = c.in_ok-field.ensures in
    let asked = c.in_ok-ask.ensures A f e.good (grind (arith, e.up_to_date)) (grind (arith, e.found.1)) in
    record {
      apart = apart-step c.args.lines.now c.loop-i.i l c.loop-i-test.true c.index-lines-i.is c.loop-i.invariant.apart alone;
      rest = line_passes A c.args.lines.now c.loop-i.i l c.loop-i-test.true c.index-lines-i.is e.good
          c.loop-i.invariant.apart alone
          (go_on (no_field A f (c.loop-i.i + 1) ∷ []) (bound_checks l.way A f l.qty (c.loop-i.i + 1)) None e.found.0
          asked.0) c.loop-i.invariant.rest;
    }

pub returns : goal.returns
returns c n kind until = (grind (arith, common_steps, c.loop-i.invariant.rest n kind until None), tt)
