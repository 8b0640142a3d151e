-- The order lines of an `open`.
use Rattle.std.specs.Prelude.{ℕ, ◌≤◌, List, [], ◌∷◌, codes, decimal, length}
use Rattle.std.specs.List.{All}
use Rattle.escrow.specs.Codes.{IsArticle, IsBranch}
use Rattle.escrow.specs.Ranges.{IsQty}
use Rattle.escrow.specs.declared.quantity.Way.{Way}
use Rattle.escrow.specs.declared.quantity.Way.TheVariants.{Add, Take}
use Rattle.words.specs.declared.open_line.OpenLine.{OpenLine}

-- the greatest number of order lines, as a number, so that the prover refuses another limit in the code
abbrev pub most_lines : ℕ
most_lines = 64

-- the codes have their forms, and the quantity is in its range
pub record IsOpenLine (line : OpenLine) : Type 0 where
  pub branch : IsBranch line.branch
  pub article : IsArticle line.article
  pub qty : IsQty line.qty

-- 1 to 64 order lines, each of them in range
pub record AreOpenLines (lines : List OpenLine) : Type 0 where
  pub some : 1 ≤ length lines
  pub fits : length lines ≤ most_lines
  pub each : All IsOpenLine lines

abbrev pub way_word : Way → List ℕ
way_word Take = codes "take"
way_word Add = codes "add"

-- the words of the order lines, four for each
abbrev pub line_words : List OpenLine → List (List ℕ)
line_words [] = []
line_words (line ∷ lines) = way_word line.way ∷ line.branch ∷ line.article ∷ decimal line.qty ∷ line_words lines
