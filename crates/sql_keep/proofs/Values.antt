-- Values of SQL: what a column stores of them, and when one equals a number or a text.
use Rattle.std.proofs.Common.{◌≡◌, ◌∙◌, ℕ, ℤ, Bool, true, false, not, ◌&&◌, cond, List, [], ◌∷◌, Some, refl, sym, ap, ap₂}
use Rattle.std.proofs.Common.{Ordering, Less, Equal, Greater, is_eq, nat_cmp, true≢false}
use Rattle.std.specs.Ordering.{is_ne, ordering_then}
use Rattle.std.specs.Cmp.Lexicographic.{slice_cmp}
use Rattle.std.proofs.lemmas.Cmp.{ranked, int_ranked}
use Rattle.sqlite.specs.declared.types.Value.{Value}
use Rattle.sqlite.specs.declared.types.Value.TheVariants.{Null, Int, Text, Real, Blob}
use Rattle.sqlite.specs.Collation.TheVariants.{Binary}
use Rattle.sqlite.specs.Kind.TheVariants.{Integer}
use Rattle.sqlite.specs.Order.{value_cmp}
use Rattle.sqlite.specs.Ops.{unary, binary, is_true, from_truth}
use Rattle.sqlite_rules.specs.Cast.{cast}
use Rattle.sqlite_schema.specs.Rules.{differ, equal}
use Rattle.sqlite_value.proofs.OrderLemmas.{value_cmp-Int, value_cmp-Null}

either : (b : Bool) (x : Value) → cond b x x ≡ x
either true x = refl
either false x = refl

pub cast_int : (n : ℤ) → cast Integer (Int n) ≡ Int n
unfolding unary
cast_int n = either _ (Int n)

pub cast_null : cast Integer Null ≡ Null
unfolding unary
cast_null = either _ Null

as_test : (b : Bool) → is_true (from_truth (Some b)) ≡ b
as_test true = refl
as_test false = refl

-- a value equals a number where it compares as one
pub equal_int : (v : Value) (n : ℤ) → equal Binary v (Int n) ≡ is_eq (value_cmp v (Int n))
unfolding binary
equal_int Null n = ap is_eq (sym (value_cmp-Null (Int n)))
equal_int (Int k) n = as_test _
equal_int (Real x) n = as_test _
equal_int (Text t) n = as_test _
equal_int (Blob b) n = as_test _

unequal : (o : Ordering) → is_true (from_truth (Some (is_ne o))) ≡ not (is_eq o)
unequal Less = refl
unequal Equal = refl
unequal Greater = refl

-- two numbers differ where they do not compare as one
pub differ_int : (m n : ℤ) → differ (Int m) (Int n) ≡ not (is_eq (value_cmp (Int m) (Int n)))
unfolding binary
differ_int m n = unequal _

-- a value equals a text where it compares as one
pub equal_text : (v : Value) (t : List ℕ) → equal Binary v (Text t) ≡ is_eq (value_cmp v (Text t))
unfolding binary
equal_text Null t = ap is_eq (sym (value_cmp-Null (Text t)))
equal_text (Int k) t = as_test _
equal_text (Real x) t = as_test _
equal_text (Text s) t = as_test _
equal_text (Blob b) t = as_test _

pub is_equal : (o : Ordering) → is_eq o ≡ true → o ≡ Equal
is_equal Less h = absurd (true≢false (sym h))
is_equal Equal h = refl
is_equal Greater h = absurd (true≢false (sym h))

pub both_equal : (o p : Ordering) → ordering_then o p ≡ Equal → (o ≡ Equal) × (p ≡ Equal)
both_equal Less p h = absurd (let e = h in cc)
both_equal Equal p h = (refl, h)
both_equal Greater p h = absurd (let e = h in cc)

pub both_are : (a b : Ordering) → is_eq (ordering_then a b) ≡ (is_eq a && is_eq b)
both_are Less b = refl
both_are Equal b = refl
both_are Greater b = refl

pub same_text : (a b : List ℕ) → slice_cmp nat_cmp a b ≡ Equal → a ≡ b
same_text [] [] h = refl
same_text [] (y ∷ b) h = absurd (let e = h in cc)
same_text (x ∷ a) [] h = absurd (let e = h in cc)
same_text (x ∷ a) (y ∷ b) h =
    let both = both_equal (nat_cmp x y) (slice_cmp nat_cmp a b) h in
    ap₂ ◌∷◌ (ranked x y Equal (sym both.0)) (same_text a b both.1)

-- two numbers that compare as one value are one
pub same_number : (m n : ℤ) → is_eq (value_cmp (Int m) (Int n)) ≡ true → m ≡ n
same_number m n h = int_ranked m n Equal (sym (sym (value_cmp-Int m n) ∙ is_equal _ h))
