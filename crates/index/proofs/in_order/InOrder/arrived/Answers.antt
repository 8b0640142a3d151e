use Rattle.index.proofs.Prelude.{rules}
use Rattle.index.proofs.KeyPlaces.{same_entries}
use Rattle.index.proofs.in_order.InOrder.arrived.Goals as goal

pub returns : goal.returns
returns g c =
    rw (← c.self.view_is)
    (search (rules, same_entries c.self.inside.entries.items c.self.inside.order.items c.self.invariant.each_once))
