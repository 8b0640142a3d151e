use Rattle.index.proofs.Prelude.{◌<◌, ap, arith, length, rules, subst, vec_capacity, vec_len}
use Rattle.index.proofs.KeyPlaces.{length_order, no_room}
use Rattle.index.proofs.in_order.InOrder.reserve.Goals as goal

pub returns-clause-ok : goal.returns-clause-ok
returns-clause-ok g c =
    let inside = c.self.inside in
    let same = length_order _ inside.order.items c.self.invariant.each_once in
    omega (
      arith,
      same,
      inside.entries.ok.0,
      c.in_ok-reserve.ensures.ok,
      c.in_ok-reserve.ensures.small,
      ap length c.in_ok-reserve.ensures.same,
      c.in_ok-reserve-2.ensures.len,
      c.in_ok-reserve-2.ensures.ok,
    )

pub returns-in_err-reserve-clause-full : goal.returns-in_err-reserve-clause-full
returns-in_err-reserve-clause-full g c =
    let inside = c.self.inside in
    let same = length_order _ inside.order.items c.self.invariant.each_once in
    let full : c.args.self.now.room < c.args.additional =
    subst (λ v. v.room < c.args.additional) c.self.view_is
    (no_room (vec_len inside.entries) (length inside.order.items) c.args.additional (vec_capacity inside.entries)
    inside.order.capacity (omega (arith, same, inside.entries.ok.0)) c.in_err-reserve.ensures.full) in
    search rules
