use Rattle.index.proofs.Prelude.{◌≡◌, ◌≤◌, ◌^◌, range_with_len, vec_len}
use Rattle.index.proofs.in_order.InOrder.from_sorted.Given as goal

abbrev pub invariant-loop-index : goal.invariant-loop-index
invariant-loop-index g l =
    (l.order.items ≡ range_with_len 0 l.index) × (vec_len l.entries ≤ l.order.capacity) × (l.order.capacity ≤ 2 ^ 32)
