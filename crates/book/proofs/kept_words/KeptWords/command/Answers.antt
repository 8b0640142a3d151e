use Rattle.ledger.proofs.Prelude.{◌∙◌, sym}
use Rattle.words.proofs.OneItem.{spelling_one}
use Rattle.book.proofs.kept_words.KeptWords.command.Goals as goal

pub returns-in-Ok : goal.returns-in-Ok
returns-in-Ok c =
    spelling_one c.in-Ok.command c.args.self.now c.in-Ok.ensures.found.0 c.as_bytes.ensures.range
    (sym c.in-Ok.ensures.found.1 ∙ c.as_bytes.ensures.value)
