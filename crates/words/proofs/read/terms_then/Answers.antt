use Rattle.words.proofs.OrderLines.{behind}
use Rattle.words.proofs.read.terms_then.Goals as goal

pub returns-in_default-word_then-clause-none : goal.returns-in_default-word_then-clause-none
returns-in_default-word_then-clause-none c n until word words h k e =
    c.in_default-word_then.ensures.none until word words k (behind _ c.in-Some.ensures.found e)
