use Rattle.std.proofs.Common.{deque_capacity}
use Rattle.std.specs.List.{remove}
use Rattle.index.proofs.Prelude.{◌≡◌, map, vec_capacity, vec_len}
use Rattle.index.proofs.TakenOut.{IsClosingUp}
use Rattle.index.proofs.block_list.BlockList.remove.Given as goal

abbrev pub invariant-loop-index : goal.invariant-loop-index
invariant-loop-index g l =
    (let blocks = l.self-inside.blocks.items in
    IsClosingUp (remove l.fn.self.items l.fn.place) l.self-inside.len (map (λ b. b.items) blocks)
    (map deque_capacity blocks) l.index)
    × (l.self-inside.len ≡ l.initial.self-inside.len) × (vec_len l.self-inside.blocks ≡ vec_len l.initial.self-inside.blocks)
    × (vec_capacity l.self-inside.blocks ≡ vec_capacity l.initial.self-inside.blocks)
    × (map deque_capacity l.self-inside.blocks.items ≡ map deque_capacity l.initial.self-inside.blocks.items)
