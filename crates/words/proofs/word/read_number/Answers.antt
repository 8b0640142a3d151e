use Rattle.std.proofs.Common.{◌≡◌, ◌∙◌, ℕ, List, ◌<◌, ◌^◌, arith, sym, subst, decimal, Ok, Err, true, false, ap}
use Rattle.std.specs.Str.Parse.{ParsesUnsigned}
use Rattle.std.specs.Str.{IsUtf8}
use Rattle.std.specs.Cmp.Lexicographic.{nat_list_eq_equiv, pointwise}
use Rattle.std.specs.Prelude.{nat_eq}
use Rattle.std.proofs.lemmas.Str.{IsUtf8-from_ascii}
use Rattle.std.proofs.lemmas.Fmt.{IsAscii-decimal, parse-decimal}
use Rattle.words.proofs.word.read_number.Goals as goal

-- the text of a number is no text that cannot be read
no_parse : {E : Type 0} (n : ℕ) (bs : List ℕ) (e : E) → n < 2 ^ 64 → bs ≡ decimal n → ParsesUnsigned 64 10 bs (Err e) → ⊥
no_parse n bs e h q p = let x = parse-decimal 64 n bs (Err e) h h q p in (cc)

-- and what is read of it is the number
parsed : (E : Type 0) (n m : ℕ) (bs : List ℕ) → n < 2 ^ 64 → bs ≡ decimal n → ParsesUnsigned {E = E} 64 10 bs (Ok m) → m ≡ n
parsed E n m bs h q p = let x = parse-decimal {E = E} 64 n bs (Ok m) h h q p in (cc)

same : (xs ys : List ℕ) → xs ≡ ys → pointwise nat_eq xs ys ≡ true
same xs ys e = subst (λ zs. pointwise nat_eq xs zs ≡ true) e (nat_list_eq_equiv.refl xs)

differ : (xs ys : List ℕ) → xs ≡ ys → false ≡ pointwise nat_eq xs ys → ⊥
differ xs ys e f = let g = same xs ys e in (cc)

pub returns-in_default-clause-none : goal.returns-in_default-clause-none
returns-in_default-clause-none c n h e =
    c.in_default.ensures.cases.0 (subst IsUtf8 (sym e) (IsUtf8-from_ascii (decimal n) (IsAscii-decimal n (omega arith))))

pub returns-in_default-parse-clause-none : goal.returns-in_default-parse-clause-none
returns-in_default-parse-clause-none c n h e =
    no_parse n c.in-Ok.text.now c.in_default-parse.field-0 (omega arith) (c.in-Ok.ensures.cases.0 ∙ e)
    c.in_default-parse.ensures.value.0

pub returns-then-number-gt-MAX_MOMENT-clause-none : goal.returns-then-number-gt-MAX_MOMENT-clause-none
returns-then-number-gt-MAX_MOMENT-clause-none c n h e =
    let m =
    parsed ℕ n c.in-Ok-parse.number c.in-Ok.text.now (omega arith) (c.in-Ok.ensures.cases.0 ∙ e)
    c.in-Ok-parse.ensures.value.0 in
    absurd (omega (arith, m))

pub returns-else-eq-clause-none : goal.returns-else-eq-clause-none
returns-else-eq-clause-none c n h e =
    let m =
    parsed ℕ n c.in-Ok-parse.number c.in-Ok.text.now (omega arith) (c.in-Ok.ensures.cases.0 ∙ e)
    c.in-Ok-parse.ensures.value.0 in
    differ c.as_bytes.result.now c.args.bytes.now
    (c.as_bytes.ensures.value ∙ c.format.ensures.text ∙ ap decimal m ∙ sym e) c.if-eq.ensures
