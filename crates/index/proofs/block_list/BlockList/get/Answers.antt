use Rattle.std.proofs.Common.{deque_capacity}
use Rattle.index.proofs.Prelude.{◌<◌, ap, arith, length, map}
use Rattle.index.specs.BlockList.{joined}
use Rattle.index.proofs.Blocks.{found, is_index, is_within}
use Rattle.index.proofs.block_list.BlockList.get.Goals as goal

pub index-requires : goal.index-requires
index-requires g c =
    let blocks = c.self.inside.blocks in
    let short : c.args.place < length (joined (map (λ b. b.items) blocks.items)) =
    rw (ap (λ v. length v.items) c.self.view_is) c.requires in
    omega (
      arith,
      is_index (λ b. b.items) deque_capacity c.self.inside.len blocks.items c.args.place c.self.invariant short,
      blocks.ok.0,
    )

pub index-requires-2 : goal.index-requires-2
index-requires-2 g c =
    let blocks = c.self.inside.blocks in
    let short : c.args.place < length (joined (map (λ b. b.items) blocks.items)) =
    rw (ap (λ v. length v.items) c.self.view_is) c.requires in
    omega (
      arith,
      is_within (λ b. b.items) deque_capacity c.self.inside.len blocks.items c.args.place c.self.invariant short
          c.index.result.now c.index.ensures,
      c.index.result.now.ok.0,
    )

pub returns : goal.returns
returns g c =
    let blocks = c.self.inside.blocks in
    let short : c.args.place < length (joined (map (λ b. b.items) blocks.items)) =
    rw (ap (λ v. length v.items) c.self.view_is) c.requires in
    rw (← c.self.view_is) (found (λ b. b.items) deque_capacity c.self.inside.len blocks.items c.args.place
    c.self.invariant short c.index.result.now c.index.ensures c.index-2.result.now c.index-2.ensures)
