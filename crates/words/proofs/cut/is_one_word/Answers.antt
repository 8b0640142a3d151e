use Rattle.words.proofs.Cuts.{parts_more}
use Rattle.words.proofs.cut.is_one_word.Goals as goal

pub returns-in-Some-clause-no : goal.returns-in-Some-clause-no
returns-in-Some-clause-no c w q = parts_more 32 c.in-Some.field-0.1.now _ w _ c.in-Some.ensures.parts q
