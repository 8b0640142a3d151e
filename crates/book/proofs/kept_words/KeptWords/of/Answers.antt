use Rattle.ledger.proofs.Prelude.{arith, spelling_one}
use Rattle.book.proofs.kept_words.KeptWords.of.Goals as goal

pub returns : goal.returns
returns c = grind (arith, spelling_one)
