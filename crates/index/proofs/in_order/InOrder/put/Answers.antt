use Rattle.index.proofs.Prelude.{sym}
use Rattle.index.proofs.KeyPlaces.{set_value-insert}
use Rattle.index.proofs.in_order.InOrder.put.Goals as goal

pub returns-in-Some-clause-entries : goal.returns-in-Some-clause-entries
returns-in-Some-clause-entries g c =
    set_value-insert g.met.K.Ord.total c.args.key c.args.value c.args.self.now.entries c.in-Some.there.now
    c.get_mut.ensures.rising (sym c.in-Some.ensures.value)
