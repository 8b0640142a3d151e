use Rattle.index.proofs.Prelude.{◌∙◌, ap, inl, option_map, refl, slice_get-map, slice_get_within, sym}
use Rattle.index.proofs.KeyPlaces.{lookup_at, lookup_gap, set_value-at}
use Rattle.index.proofs.in_order.InOrder.get_mut.Goals as goal

pub nth_mut-requires : goal.nth_mut-requires
nth_mut-requires g c = slice_get_within _ _ _ c.in-Ok.ensures.found.there

pub returns-in-Ok : goal.returns-in-Ok
returns-in-Ok g c =
    let at = c.in-Ok.ensures.found in
    let total = g.met.K.Ord.total in
    let l = c.args.self.now.entries in
    let value = sym c.nth_mut.ensures.value ∙ slice_get-map (λ e. e.1) l c.in-Ok.place ∙ ap (option_map (λ e. e.1)) at.there in (
      λ i. inl (
        c.nth_mut.result.ghost_name,
        λ w. record {
          entries = set_value-at total c.args.key.now w l c.in-Ok.place c.place.ensures.rising at i;
          room = c.args.self.now.room;
          storage = c.args.self.now.storage;
        },
      ),
      record {
        writes = tt;
        value = value ∙ sym (lookup_at total c.args.key.now l c.in-Ok.place c.place.ensures.rising at);
        rising = c.place.ensures.rising;
      },
    )

pub returns-in-Err : goal.returns-in-Err
returns-in-Err g c = (
  refl,
  record {
    writes = tt;
    value = sym (lookup_gap g.met.K.Ord.total c.args.key.now _ _ c.place.ensures.rising c.in-Err.ensures.gap);
    rising = c.place.ensures.rising;
  },
)
