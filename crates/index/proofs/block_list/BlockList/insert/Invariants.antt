use Rattle.std.proofs.Common.{deque_capacity}
use Rattle.index.proofs.Prelude.{◌-◌, ◌≡◌, insert, map, vec_capacity, vec_len}
use Rattle.index.proofs.Blocks.{IsOnTheWay}
use Rattle.index.proofs.block_list.BlockList.insert.Given as goal

abbrev pub invariant-loop-self : goal.invariant-loop-self
invariant-loop-self g l =
    IsOnTheWay (insert l.fn.self.items l.fn.place l.fn.item) l.self-inside.len
    (map (λ b. b.items) l.self-inside.blocks.items) (map deque_capacity l.self-inside.blocks.items) l.index l.at
    l.item
    × (l.self-inside.len ≡ l.initial.self-inside.len) × (vec_len l.self-inside.blocks ≡ vec_len l.initial.self-inside.blocks)
    × (vec_capacity l.self-inside.blocks ≡ vec_capacity l.initial.self-inside.blocks)
    × (map deque_capacity l.self-inside.blocks.items ≡ map deque_capacity l.initial.self-inside.blocks.items)

abbrev pub decreases-loop-self : goal.decreases-loop-self
decreases-loop-self g l = vec_len l.self-inside.blocks - l.index
