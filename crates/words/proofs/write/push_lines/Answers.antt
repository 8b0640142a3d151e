use Rattle.words.proofs.WordRows.{lines_more}
use Rattle.words.proofs.write.push_lines.Goals as goal

pub loop-line-preserved : goal.loop-line-preserved
loop-line-preserved c =
    lines_more _ _ _ _ _ _ c.loop-line-test.true c.line-item.is c.loop-line.invariant c.in_ok-push_line.ensures
