-- Codes and keys are in ASCII, and so they are UTF-8.
use Rattle.std.proofs.Common.{◌≡◌, ◌&&◌, ◌<◌, Bool, List, [], ◌∷◌, arith, true, ℕ}
use Rattle.std.proofs.lemmas.Bool.Decides.{nat_tests}
use Rattle.std.proofs.lemmas.Str.{IsUtf8-from_ascii}
use Rattle.std.proofs.lemmas.Str.Ascii.{IsAscii-nil}
use Rattle.std.specs.List.{list_all}
use Rattle.std.specs.Str.{IsAscii, IsUtf8}
use Rattle.escrow.specs.Codes.{IsArticle, IsBranch, IsKey, is_article_byte, is_branch_byte, is_key_byte}

both : (a b : Bool) → (a && b) ≡ true → (a ≡ true) × (b ≡ true)
both a b e = grind arith

pub ascii_cons : (b : ℕ) (bs : List ℕ) → b < 128 → IsAscii bs → IsAscii (b ∷ bs)
ascii_cons b bs h k x = grind arith

ascii_all : (p : ℕ → Bool) → ((b : ℕ) → p b ≡ true → b < 128) → (bs : List ℕ) → list_all p bs ≡ true → IsAscii bs
ascii_all p small [] h = IsAscii-nil
ascii_all p small (b ∷ bs) h =
    let k = both (p b) (list_all p bs) h in ascii_cons b bs (small b k.0) (ascii_all p small bs k.1)

branch_byte : (b : ℕ) → is_branch_byte b ≡ true → b < 128
branch_byte b h = grind (arith, nat_tests)

article_byte : (b : ℕ) → is_article_byte b ≡ true → b < 128
article_byte b h = grind (arith, nat_tests)

key_byte : (b : ℕ) → is_key_byte b ≡ true → b < 128
key_byte b h = grind (arith, nat_tests)

pub branch_ascii : (bs : List ℕ) → IsBranch bs → IsAscii bs
branch_ascii bs h = ascii_all is_branch_byte branch_byte bs h.each

pub article_ascii : (bs : List ℕ) → IsArticle bs → IsAscii bs
article_ascii bs h = ascii_all is_article_byte article_byte bs h.each

pub branch_utf8 : (bs : List ℕ) → IsBranch bs → IsUtf8 bs
branch_utf8 bs h = IsUtf8-from_ascii bs (branch_ascii bs h)

pub article_utf8 : (bs : List ℕ) → IsArticle bs → IsUtf8 bs
article_utf8 bs h = IsUtf8-from_ascii bs (article_ascii bs h)

pub key_utf8 : (bs : List ℕ) → IsKey bs → IsUtf8 bs
key_utf8 bs h = IsUtf8-from_ascii bs (ascii_all is_key_byte key_byte bs h.each)
