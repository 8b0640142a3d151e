use Rattle.ledger.proofs.Prelude.{[], ◌∷◌, ◌≡◌, append-nil, arith, rows_among, take}
use Rattle.ledger.proofs.Lists.{read-step}
use Rattle.book.specs.inner.Rolling.{restarted_content}
use Rattle.book.proofs.Among.{appended}
use Rattle.book.proofs.Prelude.{joined}
use Rattle.book.proofs.Rolling.{fields_more, one_more}
use Rattle.book.proofs.book.rolled.push_fields.Goals as goal

pub loop-place-preserved : goal.loop-place-preserved
loop-place-preserved c =
    let fields = c.args.fields.now.entries in let x = c.entry_at.result.now in
    let put : rows_among c.push.new.self.items
    ≡ joined (rows_among c.loop-place.changes.items) (restarted_content (x ∷ [])) =
    grind (arith, append-nil, appended) in
    one_more restarted_content (rows_among c.args.changes.now.items) (rows_among c.loop-place.changes.items) _
    (take c.loop-place.place fields) (x ∷ []) _ fields_more put c.loop-place.invariant
    (read-step fields c.loop-place.place x c.entry_at.ensures)
