use Rattle.std.proofs.Common.{◌∷◌, arith, codes, decimal}
use Rattle.words.specs.OpenLines.{line_words}
use Rattle.words.proofs.WordRows.{spaced-after}
use Rattle.words.proofs.write.push_opening.Goals as goal

pub returns-in-Open-clause-text : goal.returns-in-Open-clause-text
returns-in-Open-clause-text c =
    let e = spaced-after (codes "open") (decimal c.in-Open.number ∷ decimal c.in-Open.until ∷ line_words c.in-Open.lines) in
    grind (arith, c.push_open.ensures.text, c.in-Open.is, c.as_slice.ensures.value, e)
