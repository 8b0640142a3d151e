use Rattle.index.proofs.Prelude.{arith, map, sym}
use Rattle.std.proofs.lemmas.List.{length-map}
use Rattle.index.proofs.Blocks.{fits, length-joined}
use Rattle.index.proofs.block_list.BlockList.len.Goals as goal

pub returns-clause-value : goal.returns-clause-value
returns-clause-value g c =
    let blocks = map (λ b. b.items) c.self.inside.blocks.items in
    rw (← c.self.view_is) (sym (length-joined c.self.inside.len blocks c.self.invariant.filled))

pub returns-clause-fits : goal.returns-clause-fits
returns-clause-fits g c =
    let blocks = map (λ b. b.items) c.self.inside.blocks.items in
    let filled = c.self.invariant.filled in
    rw (← c.self.view_is) (omega (
      arith,
      length-joined c.self.inside.len blocks filled,
      fits c.self.inside.len blocks filled,
      length-map c.self.inside.blocks.items (λ b. b.items),
      c.self.inside.blocks.ok.0,
    ))

pub returns-clause-small : goal.returns-clause-small
returns-clause-small g c =
    let blocks = map (λ b. b.items) c.self.inside.blocks.items in
    let filled = c.self.invariant.filled in
    rw (← c.self.view_is) (omega (
      arith,
      length-joined c.self.inside.len blocks filled,
      fits c.self.inside.len blocks filled,
      c.self.invariant.few,
    ))
