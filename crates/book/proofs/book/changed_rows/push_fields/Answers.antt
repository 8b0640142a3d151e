use Rattle.ledger.proofs.Prelude.{[], ◌∙◌, ◌∷◌, ap, append_assoc, arith, map, map-append, take}
use Rattle.book.proofs.Prelude.{entry_row}
use Rattle.book.proofs.Among.{appended}
use Rattle.ledger.proofs.Lists.{read-step}
use Rattle.book.proofs.book.changed_rows.push_fields.Goals as goal

pub loop-place-preserved : goal.loop-place-preserved
loop-place-preserved c =
    let i = c.loop-place.place in let fields = c.args.fields.now.entries in let x = c.entry_at.result.now in
    let next = ap (map entry_row) (read-step fields i x c.entry_at.ensures) ∙ map-append entry_row (take i fields) (x ∷ []) in
    grind (arith, append_assoc, appended)
