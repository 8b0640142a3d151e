-- The forms of codes: so many bytes, each of them of the code's kind. The greatest lengths stand here as numbers, so
-- that the prover refuses another limit in the code.
use Rattle.std.specs.Prelude.{ℕ, ◌<◌, ◌≤◌, ◌≢◌, Bool, ◌||◌, ◌==◌, List, length, slice_index, IsTrue}
use Rattle.std.specs.Char.{is_ascii_digit, is_ascii_lowercase, is_ascii_uppercase}
use Rattle.std.specs.List.{list_all}

-- A-Z and 0-9
abbrev pub is_branch_byte : ℕ → Bool
is_branch_byte byte = is_ascii_uppercase byte || is_ascii_digit byte

-- the bytes of a branch's code, and the hyphen
abbrev pub is_article_byte : ℕ → Bool
is_article_byte byte = is_branch_byte byte || (byte == 45)

-- the bytes of an article's code, and a-z
abbrev pub is_key_byte : ℕ → Bool
is_key_byte byte = is_article_byte byte || is_ascii_lowercase byte

-- the code of a branch
pub record IsBranch (bytes : List ℕ) : Type 0 where
  pub some : 0 < length bytes
  pub fits : length bytes ≤ 8
  pub each : IsTrue (list_all is_branch_byte bytes)

-- the code of an article, which doesn't begin with a hyphen
pub record IsArticle (bytes : List ℕ) : Type 0 where
  pub some : 0 < length bytes
  pub fits : length bytes ≤ 16
  pub first : slice_index bytes 0 ≢ 45
  pub each : IsTrue (list_all is_article_byte bytes)

-- the key of a request
pub record IsKey (bytes : List ℕ) : Type 0 where
  pub some : 0 < length bytes
  pub fits : length bytes ≤ 36
  pub each : IsTrue (list_all is_key_byte bytes)
