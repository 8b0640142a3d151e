use Rattle.std.proofs.lemmas.List.Sums.{fold-append}
use Rattle.ledger.proofs.Prelude.{[], ◌∙◌, ◌∷◌, ap, arith, insert_entry, name_cmp, sym, take}
use Rattle.book.proofs.Prelude.{with_entries}
use Rattle.ledger.proofs.Lists.{read-step}
use Rattle.book.proofs.book.adopt_fields.Goals as goal

pub put-requires : goal.put-requires
put-requires c = grind arith

pub loop-place-preserved : goal.loop-place-preserved
loop-place-preserved c =
    let i = c.loop-place.place in
    let changed = c.args.changed.now.entries in
    let x = c.entry_at.result.now in
    let room = c.loop-place.invariant.room in
    record {
      put = c.put.ensures.entries ∙ ap (λ es. insert_entry name_cmp es x.0 x.1) c.loop-place.invariant.put
          ∙ sym (ap (λ xs. with_entries xs c.args.fields.now.entries) (read-step changed i x c.entry_at.ensures)
          ∙ fold-append (λ es e. insert_entry name_cmp es e.0 e.1) c.args.fields.now.entries (take i changed)
          (x ∷ []));
      room = omega arith;
      storage = c.put.ensures.storage ∙ c.loop-place.invariant.storage;
      no_more = omega arith;
    }
