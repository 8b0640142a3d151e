use Rattle.index.proofs.Prelude.{arith, map}
use Rattle.std.proofs.lemmas.List.{length-map}
use Rattle.index.proofs.Blocks.{fits, length-joined}
use Rattle.index.proofs.block_list.BlockList.capacity.Goals as goal

pub returns-clause-fits : goal.returns-clause-fits
returns-clause-fits g c =
    let inside = c.self.inside in
    let blocks = map (λ b. b.items) inside.blocks.items in
    let filled = c.self.invariant.filled in
    let as_many = length-map inside.blocks.items (λ b. b.items) in
    rw (← c.self.view_is) (omega (arith, length-joined _ blocks filled, fits _ blocks filled, as_many, inside.blocks.ok.0))
