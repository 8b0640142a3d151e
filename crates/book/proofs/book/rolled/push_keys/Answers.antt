use Rattle.ledger.proofs.Prelude.{[], ◌∷◌, ◌≡◌, append-nil, arith, map, nat_lt, rows_among, take}
use Rattle.book.specs.Model.{kept_of}
use Rattle.book.specs.inner.Rolling.{keys_behind, keys_content}
use Rattle.book.proofs.Among.{appended}
use Rattle.book.proofs.Prelude.{joined}
use Rattle.book.proofs.Rolling.{filter_next, keys_more, one_more}
use Rattle.book.proofs.book.rolled.push_keys.Goals.{then-gone-entry+in_ok-row+in_ok-push, else-gone-entry}
use Rattle.book.proofs.book.rolled.push_keys.Goals as goal

pub loop-place-preserved : goal.loop-place-preserved
loop-place-preserved c =
    let gone = c.args.gone in let entries = c.args.kept.now.entries in let x = c.entry_at.result.now in
    let put : rows_among c.if-gone-entry.changes.items
    ≡ joined (rows_among c.loop-place.changes.items) (keys_content gone (keys_behind gone (kept_of x ∷ []))) =
    elim c.if-gone-entry.branch [
      | then-gone-entry+in_ok-row+in_ok-push w ↦ grind (arith, append-nil, appended)
      | else-gone-entry w ↦ grind (arith, append-nil, appended)
    ] in
    one_more (keys_content gone) (rows_among c.args.changes.now.items) (rows_among c.loop-place.changes.items) _
    (keys_behind gone (map kept_of (take c.loop-place.place entries))) (keys_behind gone (kept_of x ∷ [])) _
    (keys_more gone) put c.loop-place.invariant
    (filter_next (λ k. nat_lt gone k.place) kept_of entries c.loop-place.place x c.entry_at.ensures)
