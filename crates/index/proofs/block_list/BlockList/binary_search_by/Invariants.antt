use Rattle.index.proofs.Prelude.{Ordering, length, ◌-◌, ◌≤◌}
use Rattle.std.specs.Fn.{ComputesKey}
use Rattle.index.proofs.Search.{IsNarrowed}
use Rattle.index.proofs.block_list.BlockList.binary_search_by.Given as goal

abbrev pub invariant-loop-low : goal.invariant-loop-low
invariant-loop-low g l =
    (l.low ≤ l.high) × (l.high ≤ length l.self.items)
    × goal.F-IsAlwaysCallable g l.f
    × ((ord : g.row.T.Denot → Ordering) → ComputesKey g.F.FnMut ord l.initial.f
    → ComputesKey g.F.FnMut ord l.f × IsNarrowed ord l.self.items l.low l.high)

abbrev pub decreases-loop-low : goal.decreases-loop-low
decreases-loop-low g l = l.high - l.low
