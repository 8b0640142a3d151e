use Rattle.ledger.proofs.Prelude.{[], ◌∙◌, ◌∷◌, ◌≡◌, ◌==◌, ◌||◌, ap, arith, common_steps, list_any, list_any-append, sym}
use Rattle.book.specs.Model.{kept_of}
use Rattle.book.specs.inner.Rolling.{deals_named, keys_behind}
use Rattle.book.proofs.Rolling.{deals_next, found_again}
use Rattle.book.proofs.book.rolled.recent_deals.Goals.{then-gone-entry+in_ok-number+in-Some+then-not-is_among+in_ok-push}
use Rattle.book.proofs.book.rolled.recent_deals.Goals.{then-gone-entry+in_ok-number+in-Some+else-not-is_among}
use Rattle.book.proofs.book.rolled.recent_deals.Goals.{then-gone-entry+in_ok-number+in_default, else-gone-entry}
use Rattle.book.proofs.book.rolled.recent_deals.Goals as goal

pub loop-place-preserved : goal.loop-place-preserved
loop-place-preserved c n =
    let x = c.entry_at.result.now in
    let named = list_any (λ m. m == n) (deals_named (keys_behind c.args.gone (kept_of x ∷ []))) in
    let put : list_any (λ m. m == n) c.if-gone-entry.deals.items
    ≡ (list_any (λ m. m == n) c.loop-place.deals.items || named) =
    elim c.if-gone-entry.branch [
      | then-gone-entry+in_ok-number+in-Some+then-not-is_among+in_ok-push w ↦
          grind (arith, common_steps, list_any-append)
      | then-gone-entry+in_ok-number+in-Some+else-not-is_among w ↦
          let again = found_again w.in-Some.number n c.loop-place.deals.items in grind (arith, common_steps)
      | then-gone-entry+in_ok-number+in_default w ↦ grind (arith, common_steps)
      | else-gone-entry w ↦ grind (arith, common_steps)
    ] in
    put ∙ ap (λ b. b || named) (c.loop-place.invariant n)
    ∙ sym (deals_next c.args.gone c.args.kept.now.entries c.loop-place.place x c.entry_at.ensures n)
