use Rattle.index.proofs.Prelude.{arith}
use Rattle.index.proofs.KeyPlaces.{length_order}
use Rattle.index.proofs.in_order.InOrder.room.Goals as goal

pub overflow_sub-result : goal.overflow_sub-result
overflow_sub-result g c =
    let inside = c.self.inside in
    omega (
      arith,
      length_order _ inside.order.items c.self.invariant.each_once,
      c.capacity.ensures,
      c.capacity-2.ensures.value,
      c.capacity-2.ensures.fits,
      c.min.ensures,
      c.len.ensures,
      inside.entries.ok.0,
    )
