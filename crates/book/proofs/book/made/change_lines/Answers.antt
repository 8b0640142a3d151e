use Rattle.ledger.proofs.Prelude.{◌∙◌, arith}
use Rattle.ledger.proofs.Lists.{walk_end, walk_step}
use Rattle.book.proofs.book.made.change_lines.Goals as goal

pub loop-line-preserved : goal.loop-line-preserved
loop-line-preserved c = grind (arith, walk_step)

pub returns : goal.returns
returns c = c.loop-line.invariant ∙ walk_end _ c.args.lines.now c.loop-line.line-index (omega arith)
