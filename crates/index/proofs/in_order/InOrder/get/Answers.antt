use Rattle.index.proofs.Prelude.{◌∙◌, ◌≡◌, same_Some, slice_get_within, sym}
use Rattle.index.proofs.KeyPlaces.{lookup_at, lookup_gap}
use Rattle.index.proofs.in_order.InOrder.get.Goals as goal

pub entry_at-requires : goal.entry_at-requires
entry_at-requires g c = slice_get_within _ _ _ c.in-Ok.ensures.found.there

pub returns-in-Ok : goal.returns-in-Ok
returns-in-Ok g c =
    let at = c.in-Ok.ensures.found in
    let read : at.entry ≡ c.entry_at.result.now = same_Some _ _ (sym at.there ∙ c.entry_at.ensures) in
    rw (← read) (sym (lookup_at g.met.K.Ord.total c.args.key.now _ _ c.place.ensures.rising at))

pub returns-in-Err : goal.returns-in-Err
returns-in-Err g c = sym (lookup_gap g.met.K.Ord.total c.args.key.now _ _ c.place.ensures.rising c.in-Err.ensures.gap)
