use Rattle.std.proofs.Common.{deque_capacity}
use Rattle.index.proofs.Prelude.{◌+◌, ◌≡◌, map, vec_len}
use Rattle.index.specs.BlockList.{IsInBlocks, joined}
use Rattle.index.proofs.block_list.BlockList.reserve.Given as goal

abbrev pub invariant-loop : goal.invariant-loop
invariant-loop g l =
    IsInBlocks l.self-inside.len (map (λ b. b.items) l.self-inside.blocks.items) (map deque_capacity l.self-inside.blocks.items)
    × (l.self-inside.len ≡ l.initial.self-inside.len)
    × (joined (map (λ b. b.items) l.self-inside.blocks.items) ≡ joined (map (λ b. b.items) l.initial.self-inside.blocks.items))
    × (vec_len l.self-inside.blocks ≡ vec_len l.initial.self-inside.blocks + l.counter)
    × (l.counter ≡ 0 → l.self-inside ≡ l.initial.self-inside)
