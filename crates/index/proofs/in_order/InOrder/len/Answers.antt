use Rattle.index.proofs.Prelude.{ap, arith, length}
use Rattle.index.proofs.KeyPlaces.{length_in_order}
use Rattle.index.proofs.in_order.InOrder.len.Goals as goal

pub returns : goal.returns
returns g c =
    let inside = c.self.inside in
    record {
      len =
          omega (
            arith,
            inside.entries.ok.0,
            length_in_order inside.entries.items inside.order.items c.self.invariant.each_once,
            ap (λ v. length v.entries) c.self.view_is,
          );
      rising = rw (← c.self.view_is) c.self.invariant.rising;
    }
