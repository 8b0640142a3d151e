use Rattle.index.proofs.Prelude.{ap, arith, ◌∙◌, ◌∷◌}
use Rattle.index.proofs.Blocks.{turned_back}
use Rattle.index.proofs.block_list.put_in.Goals as goal

pub returns-clause-items : goal.returns-clause-items
returns-clause-items g c =
    c.rotate_right.ensures.items
    ∙ turned_back c.args.block.now.items c.push_front.new.self.items c.args.place _ c.args.item c.requires.place
    (omega (arith, c.in-Ok.ensures.len, c.rotate_left.ensures.len, c.args.block.now.ok.0))
    (c.in-Ok.ensures.items ∙ ap (λ l. c.args.item ∷ l) c.rotate_left.ensures.items)
