use Rattle.index.proofs.Prelude.{◌<◌, ◌∙◌, ap, arith, length, refl, slice_get, slice_get_read, subst, sym}
use Rattle.index.proofs.KeyPlaces.{index_at, length_in_order, length_order}
use Rattle.index.proofs.in_order.InOrder.entry_at.Goals as goal

-- the place is within the order
pub get-requires : goal.get-requires
get-requires g c =
    let inside = c.self.inside in
    let short = subst (λ v. c.args.place < length v.entries) (sym c.self.view_is) c.requires in
    omega (
      arith,
      short,
      length_in_order inside.entries.items inside.order.items c.self.invariant.each_once,
      length_order _ inside.order.items c.self.invariant.each_once,
    )

-- and its index within the entries
pub index-requires : goal.index-requires
index-requires g c =
    let inside = c.self.inside in
    let short = subst (λ v. c.args.place < length v.entries) (sym c.self.view_is) c.requires in
    omega (
      arith,
      inside.entries.ok.0,
      (index_at inside.entries.items inside.order.items c.args.place c.get.result.now c.self.invariant.each_once short
          c.get.ensures).0,
    )

pub returns : goal.returns
returns g c =
    let inside = c.self.inside in
    let short = subst (λ v. c.args.place < length v.entries) (sym c.self.view_is) c.requires in
    let at =
    index_at inside.entries.items inside.order.items c.args.place c.get.result.now c.self.invariant.each_once short
    c.get.ensures in
    ap (λ v. slice_get v.entries c.args.place) (sym c.self.view_is) ∙ at.1
    ∙ slice_get_read inside.entries.items _ c.get.result.now c.index.result.now refl at.0 c.index.ensures
