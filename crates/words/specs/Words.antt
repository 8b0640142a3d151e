-- Bytes in parts, and words with one space between each two.
use Rattle.std.specs.Prelude.{ℕ, ◌==◌, List, [], ◌∷◌, ◌++◌}
use Rattle.std.specs.List.{join_with_byte, slice_split}

-- the parts before, between and behind all bytes of that value
abbrev pub parts_at : ℕ → List ℕ → List (List ℕ)
parts_at at bytes = slice_split (λ byte. byte == at) bytes

-- the words of a line, which stand between its spaces
abbrev pub words_of : List ℕ → List (List ℕ)
words_of line = parts_at 32 line

-- the words in a row, with one space between each two
abbrev pub spaced : List (List ℕ) → List ℕ
spaced words = join_with_byte 32 words

-- the words in a row, with a space before each
abbrev pub after_space : List (List ℕ) → List ℕ
after_space [] = []
after_space (word ∷ words) = 32 ∷ (word ++ after_space words)
