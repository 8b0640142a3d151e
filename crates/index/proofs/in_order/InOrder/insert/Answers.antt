use Rattle.index.proofs.Prelude.{◌∙◌, ◌≤◌, IsGap, ap, arith, insert_entry, none-some, room_left, subst, sym}
use Rattle.index.proofs.Prelude.{vec_capacity, vec_len}
use Rattle.index.proofs.KeyPlaces.{has_room, length_in_order, length_order, lookup_at, kept, listed}
use Rattle.index.proofs.in_order.InOrder.insert.Goals as goal

-- the key is not there
pub unreachable-requires : goal.unreachable-requires
unreachable-requires g c =
    none-some _ (sym c.requires.absent
    ∙ lookup_at g.met.K.Ord.total c.args.key _ _ c.place.ensures.rising c.in_default.ensures.found)

pub insert-requires : goal.insert-requires
insert-requires g c =
    let inside = c.self.inside in
    let gap = subst (λ v. IsGap g.K.Ord.cmp v.entries c.args.key c.in-Err.place) (sym c.self.view_is) c.in-Err.ensures.gap in
    let room = subst (λ v. 1 ≤ v.room) (sym c.self.view_is) c.requires.room in
    let same = length_order _ inside.order.items c.self.invariant.each_once in
    record {
      place = omega (arith, gap.within, length_in_order inside.entries.items inside.order.items c.self.invariant.each_once, same);
      room = omega (arith, (has_room _ _ _ room).1, inside.entries.ok.0, same);
    }

-- there is room
pub unreachable-requires-in_default-insert : goal.unreachable-requires-in_default-insert
unreachable-requires-in_default-insert g c =
    let inside = c.self.inside in
    let room = subst (λ v. 1 ≤ v.room) (sym c.self.view_is) c.requires.room in
    omega (arith, (has_room _ _ _ room).0, c.in_default-insert.ensures.full)

pub invariant_of-self : goal.invariant_of-self
invariant_of-self g c =
    let inside = c.self.inside in
    let gap = subst (λ v. IsGap g.K.Ord.cmp v.entries c.args.key c.in-Err.place) (sym c.self.view_is) c.in-Err.ensures.gap in
    rw (c.in-Ok.ensures.items, c.insert.ensures.items)
    (kept g.met.K.Ord.total c.args.key inside.entries.items inside.order.items c.self.invariant.each_once
    c.self.invariant.rising c.args.value c.in-Err.place c.len-len.result (c.len-len.ensures ∙ inside.entries.ok.0)
    gap)

pub returns-clause-entries : goal.returns-clause-entries
returns-clause-entries g c =
    let inside = c.self.inside in
    let gap = subst (λ v. IsGap g.K.Ord.cmp v.entries c.args.key c.in-Err.place) (sym c.self.view_is) c.in-Err.ensures.gap in
    rw (c.in-Ok.ensures.items, c.insert.ensures.items)
    (listed g.met.K.Ord.total c.args.key inside.entries.items inside.order.items c.self.invariant.each_once
    c.self.invariant.rising c.args.value c.in-Err.place c.len-len.result (c.len-len.ensures ∙ inside.entries.ok.0)
    gap
    ∙ ap (λ v. insert_entry g.K.Ord.cmp v.entries c.args.key c.args.value) c.self.view_is)

pub returns-clause-room : goal.returns-clause-room
returns-clause-room g c =
    let inside = c.self.inside in
    let before = ap (λ v. v.room) c.self.view_is in
    let room : 1 ≤ room_left (vec_len inside.entries) (vec_capacity inside.entries) inside.order.capacity =
    rw before c.requires.room in
    let fits = has_room _ _ _ room in
    let in_entries = (c.in-Ok.ensures.in_place fits.0).1.0 in
    rw (in_entries, c.insert.ensures.capacity, c.in-Ok.ensures.len) (omega arith)
