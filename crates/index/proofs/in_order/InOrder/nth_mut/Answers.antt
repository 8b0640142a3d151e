use Rattle.index.proofs.Prelude.{◌<◌, ◌∙◌, ap, arith, at_indexes, length, option_map, refl, room_left, slice_get-map}
use Rattle.index.proofs.Prelude.{slice_get_read, subst, sym, vec_capacity, vec_len}
use Rattle.index.proofs.KeyPlaces.{index_at, length_in_order, length_order, kept_written, written}
use Rattle.index.proofs.in_order.InOrder.nth_mut.Goals as goal

-- the place is within the order
pub get-requires : goal.get-requires
get-requires g c =
    let inside = c.self.inside in
    let short = subst (λ v. c.args.place < length v.entries) (sym c.self.view_is) c.requires in
    omega (
      arith,
      short,
      length_in_order inside.entries.items inside.order.items c.self.invariant.each_once,
      length_order _ inside.order.items c.self.invariant.each_once,
    )

-- and its index within the entries
pub index_mut-entry-requires : goal.index_mut-entry-requires
index_mut-entry-requires g c =
    let inside = c.self.inside in
    let short = subst (λ v. c.args.place < length v.entries) (sym c.self.view_is) c.requires in
    omega (
      arith,
      inside.entries.ok.0,
      (index_at inside.entries.items inside.order.items c.args.place c.get.result.now c.self.invariant.each_once short
          c.get.ensures).0,
    )

-- the keys stay
pub invariant_of-self-lent : goal.invariant_of-self-lent
invariant_of-self-lent g c w =
    let inside = c.self.inside in
    let short = subst (λ v. c.args.place < length v.entries) (sym c.self.view_is) c.requires in
    kept_written g.K.Ord.cmp inside.entries.items inside.order.items c.args.place c.get.result.now
    c.index_mut-entry.result.now w c.self.invariant short c.get.ensures c.index_mut-entry.ensures.value

pub returns : goal.returns
returns g c =
    let inside = c.self.inside in
    let es = inside.entries.items in
    let order = inside.order.items in
    let short = subst (λ v. c.args.place < length v.entries) (sym c.self.view_is) c.requires in
    let at = index_at es order c.args.place c.get.result.now c.self.invariant.each_once short c.get.ensures in
    let entry = slice_get_read es _ c.get.result.now c.index_mut-entry.result.now refl at.0 c.index_mut-entry.ensures.value in (
      (
        refl,
        λ w. rw (← c.self.view_is) (λ i. record {
          entries =
              written es order c.args.place c.get.result.now c.index_mut-entry.result.now w c.self.invariant.each_once
              short c.get.ensures c.index_mut-entry.ensures.value i;
          room = room_left (vec_len inside.entries) (vec_capacity inside.entries) inside.order.capacity;
          storage = record { entries = vec_capacity inside.entries; index = inside.order.storage };
        }),
      ),
      record {
        writes = tt;
        value =
            rw (← c.self.view_is) (slice_get-map (λ e. e.1) (at_indexes es order) c.args.place
            ∙ ap (option_map (λ e. e.1)) (at.1 ∙ entry));
      },
    )
