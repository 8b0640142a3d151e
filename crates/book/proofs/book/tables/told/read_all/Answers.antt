use Rattle.std.proofs.Common.{subst, sym}
use Rattle.ledger.proofs.Prelude.{AllZip, List, take, ◌≡◌, ◌++◌, ◌∷◌, []}
use Rattle.ledger.proofs.TestResults.{passed_up}
use Rattle.ledger.proofs.Lists.{each-at, take-step, zip-push}
use Rattle.book.proofs.book.tables.told.read_all.Goals as goal

pub loop-row-preserved : goal.loop-row-preserved
loop-row-preserved g c =
    let P = g.T.Told.is_told in
    let rows = c.args.rows.now in
    let i = c.loop-row.row-index in
    let row = c.row-item.result in
    let longer = zip-push P c.loop-row.all.items (take i rows) c.in_ok-told.told row c.loop-row.invariant c.in_ok-told.ensures.told in
    let pushed : c.push.new.self.items ≡ c.loop-row.all.items ++ c.in_ok-told.told ∷ [] = c.in-Ok-push.ensures.items in
    subst (AllZip P c.push.new.self.items) (sym {A = List g.row.R.Denot} (take-step rows i row c.loop-row-test.true c.row-item.is))
    (subst (λ all. AllZip P all (take i rows ++ row ∷ [])) (sym {A = List g.row.T.Denot} pushed) longer)

-- a row that tells nothing
pub returns-in_err-told-clause-damaged : goal.returns-in_err-told-clause-damaged
returns-in_err-told-clause-damaged g c =
    passed_up c.from_residual.result c.in_err-told.field-0.0 _ c.from_residual.ensures.1
    (λ is all.
    let told = each-at _ c.args.rows.now c.loop-row.row-index c.row-item.result c.loop-row-test.true c.row-item.is all in
    c.in_err-told.ensures.damaged is told.0 told.1)
