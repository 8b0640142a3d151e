use Rattle.std.proofs.Common.{rules}
use Rattle.std.proofs.lemmas.Fn.{always_returns_same}
use Rattle.index.proofs.Prelude.{compare_at}
use Rattle.index.proofs.KeyPlaces.{searched}
use Rattle.index.proofs.in_order.InOrder.place.Goals as goal

-- the closure compares the entry at an index with the key
pub returns : goal.returns
returns g c =
    let inside = c.self.inside in
    let facts = c.binary_search_by.ensures in
    let answers =
    facts.position (compare_at g.K.Ord.cmp inside.entries.items c.args.key.now)
    (always_returns_same _ _ _ (λ a r f' k. search rules)) in
    let ended =
    searched g.met.K.Ord.total c.args.key.now inside.entries.items inside.order.items c.self.invariant.each_once
    c.self.invariant.rising c.binary_search_by.result facts.bound answers in
    rw (← c.self.view_is) (record { found = ended.found; gap = ended.gap; rising = c.self.invariant.rising })
