use Rattle.std.proofs.Common.{deque_capacity}
use Rattle.index.proofs.Prelude.{◌<◌, ◌∙◌, ap, arith, length, map, refl, set}
use Rattle.std.proofs.Common.{◌%◌}
use Rattle.std.specs.VecDeque.{deque_with_item}
use Rattle.index.specs.BlockList.{joined}
use Rattle.index.proofs.Blocks.{is_index, is_within, lie_as_before, same_sizes, set_there}
use Rattle.index.proofs.block_list.BlockList.set.Goals as goal

pub index_mut-requires : goal.index_mut-requires
index_mut-requires g c =
    let blocks = c.self.inside.blocks in
    let short : c.args.place < length (joined (map (λ b. b.items) blocks.items)) =
    rw (ap (λ v. length v.items) c.self.view_is) c.requires in
    omega (
      arith,
      is_index (λ b. b.items) deque_capacity c.self.inside.len blocks.items c.args.place c.self.invariant short,
      blocks.ok.0,
    )

pub index_mut-requires-2 : goal.index_mut-requires-2
index_mut-requires-2 g c =
    let blocks = c.self.inside.blocks in
    let short : c.args.place < length (joined (map (λ b. b.items) blocks.items)) =
    rw (ap (λ v. length v.items) c.self.view_is) c.requires in
    omega (
      arith,
      is_within (λ b. b.items) deque_capacity c.self.inside.len blocks.items c.args.place c.self.invariant short
          c.index_mut.result.now c.index_mut.ensures.value,
      c.index_mut.result.now.ok.0,
    )

pub invariant_of-self : goal.invariant_of-self
invariant_of-self g c =
    let blocks = c.self.inside.blocks in
    let short : c.args.place < length (joined (map (λ b. b.items) blocks.items)) =
    rw (ap (λ v. length v.items) c.self.view_is) c.requires in
    lie_as_before (λ b. b.items) deque_capacity c.self.inside.len blocks.items c.args.place c.self.invariant short
    c.index_mut.result.now c.index_mut.ensures.value _ c.args.item refl refl

pub returns-clause-items : goal.returns-clause-items
returns-clause-items g c =
    let blocks = c.self.inside.blocks in
    let short : c.args.place < length (joined (map (λ b. b.items) blocks.items)) =
    rw (ap (λ v. length v.items) c.self.view_is) c.requires in
    set_there (λ b. b.items) deque_capacity c.self.inside.len blocks.items c.args.place c.self.invariant short
    c.index_mut.result.now c.index_mut.ensures.value _ c.args.item refl
    ∙ ap (λ v. set v.items c.args.place c.args.item) c.self.view_is

pub returns-clause-storage : goal.returns-clause-storage
returns-clause-storage g c =
    let blocks = c.self.inside.blocks in
    let short : c.args.place < length (joined (map (λ b. b.items) blocks.items)) =
    rw (ap (λ v. length v.items) c.self.view_is) c.requires in
    rw (same_sizes deque_capacity blocks.items _ c.index_mut.result.now
    (deque_with_item c.index_mut.result.now (c.args.place % 1024) c.args.item)
    (is_index (λ b. b.items) deque_capacity c.self.inside.len blocks.items c.args.place c.self.invariant short)
    c.index_mut.ensures.value refl) (ap (λ v. v.storage) c.self.view_is)
