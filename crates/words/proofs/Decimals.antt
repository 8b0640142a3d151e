-- Numbers in decimal.
use Rattle.std.proofs.Common.{◌≡◌, ◌≢◌, ◌∙◌, ℕ, ◌<◌, ◌^◌, List, Option, Some, None, SomeIff, IfNone, decimal, ap, subst, sym}
use Rattle.std.proofs.lemmas.Fmt.{decimal_is_IsNumeral}
use Rattle.std.specs.Str.Parse.{digits_value}

-- a number has one text
pub decimal_one : (m n : ℕ) → m < 2 ^ 64 → n < 2 ^ 64 → decimal m ≡ decimal n → m ≡ n
decimal_one m n h k e = sym (decimal_is_IsNumeral m h).1 ∙ ap (digits_value 10) e ∙ (decimal_is_IsNumeral n k).1

-- the number that the bytes write is not in range, so that they write none in it
pub none_in_range : (P : ℕ → Type 0) (bytes : List ℕ) (m : ℕ) (r : Option ℕ) → ((n : ℕ) → P n → n < 2 ^ 64) → m < 2 ^ 64
    → bytes ≡ decimal m → SomeIff r (P m) m → IfNone r ((n : ℕ) → P n → bytes ≢ decimal n)
none_in_range P bytes m None small h e s = λ n k q. s (subst P (sym (decimal_one m n h (small n k) (sym e ∙ q))) k)
none_in_range P bytes m (Some x) small h e s = tt
