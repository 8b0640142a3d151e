use Rattle.std.proofs.Common.{◌∙◌, ◌≡◌, ◌++◌, ◌+◌, [], ◌∷◌, ap, subst, sym, take}
use Rattle.std.proofs.lemmas.List.{take_more}
use Rattle.std.specs.List.{AllZip}
use Rattle.ledger.proofs.Lists.{zip-push}
use Rattle.sqlite.specs.Order.{Row}
use Rattle.sql_keep.specs.Loads.{IsShown}
use Rattle.sql_keep.proofs.table.read_all.Goals as goal

pub loop-answer-preserved : goal.loop-answer-preserved
loop-answer-preserved g c =
    let shown : Row → g.row.R.Denot → Type 0 = λ answer row. IsShown g.R.TableRow.which answer (g.R.TableRow.cells row) in
    let more : take (c.loop-answer.answer-index + 1) c.args.answers.now
    ≡ take c.loop-answer.answer-index c.args.answers.now ++ c.answer-item.result ∷ [] =
    take_more c.args.answers.now c.loop-answer.answer-index c.answer-item.result c.loop-answer-test.true
    ∙ ap (λ r. take c.loop-answer.answer-index c.args.answers.now ++ r ∷ []) (sym c.answer-item.is) in
    subst (λ rows. AllZip shown (take (c.loop-answer.answer-index + 1) c.args.answers.now) rows) (sym c.in_ok-push.ensures.items)
    (subst (λ answers. AllZip shown answers (c.loop-answer.rows.items ++ c.in_ok-read.field-0 ∷ [])) (sym more)
    (zip-push shown _ _ c.answer-item.result c.in_ok-read.field-0 c.loop-answer.invariant c.in_ok-read.ensures))
