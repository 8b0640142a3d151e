-- Where bytes are cut at the first of one kind.
use Rattle.std.proofs.Common.{◌≡◌, ℕ, ◌+◌, ◌-◌, ◌<◌, Bool, true, false, cond, List, [], ◌∷◌, None, Some, length, nat_lt}
use Rattle.std.proofs.Common.{position, take, drop, refl, sym, subst, ◌∙◌, arith, inl, inr, ◌==◌}
use Rattle.std.specs.List.{onto_first, position_or_len}
use Rattle.std.proofs.lemmas.Bool.{cases_Bool}
use Rattle.std.proofs.lemmas.Grind.{common_steps}
use Rattle.std.proofs.lemmas.List.Splits.{slice_split-cons_no, slice_split-cons_yes, slice_split_first, slice_split_none}
use Rattle.std.proofs.lemmas.List.Sums.{fails_before_first}
use borrow.Author.Tests.{ltb-false, ltb-true}
use Rattle.words.specs.Words.{parts_at}

-- where no byte is the one, there is one part
pub cut_none : (at : ℕ) (bytes : List ℕ) → position (λ byte. byte == at) bytes ≡ None → parts_at at bytes ≡ bytes ∷ []
cut_none at bytes e = by (nat_lt (position_or_len is bytes) (length bytes)) refl e
  where
    is : ℕ → Bool
    is byte = byte == at

    by : (found : Bool) → nat_lt (position_or_len is bytes) (length bytes) ≡ found
        → cond found (Some (position_or_len is bytes)) None ≡ None → parts_at at bytes ≡ bytes ∷ []
    by true found e = (cc)
    by false found e =
        slice_split_none is bytes
        (λ k other below. fails_before_first is bytes k other (omega (arith, ltb-false _ _ found)))

-- the bytes before the first of them are the first part
pub cut_at : (at : ℕ) (bytes : List ℕ) (place : ℕ) → position (λ byte. byte == at) bytes ≡ Some place
    → (place < length bytes) × (parts_at at bytes ≡ take place bytes ∷ parts_at at (drop (place + 1) bytes))
cut_at at bytes place e = by (nat_lt (position_or_len is bytes) (length bytes)) refl e
  where
    is : ℕ → Bool
    is byte = byte == at

    by : (found : Bool) → nat_lt (position_or_len is bytes) (length bytes) ≡ found
        → cond found (Some (position_or_len is bytes)) None ≡ Some place
        → (place < length bytes) × (parts_at at bytes ≡ take place bytes ∷ parts_at at (drop (place + 1) bytes))
    by true found e =
        let same : position_or_len is bytes ≡ place = cc e in
        subst (λ (n : ℕ). (n < length bytes) × (parts_at at bytes ≡ take n bytes ∷ parts_at at (drop (n + 1) bytes))) same
        (ltb-true _ _ found, slice_split_first is bytes 0 (ltb-true _ _ found))
    by false found e = (cc)

-- the end of a slice, as the code takes it
pub cut_rest : (k : ℕ) (bytes : List ℕ) → take (length bytes - k) (drop k bytes) ≡ drop k bytes
cut_rest k bytes = grind (arith, common_steps)

onto_some : (x : ℕ) (parts : List (List ℕ)) → onto_first x parts ≡ [] → ⊥
onto_some x [] e = (cc)
onto_some x (p ∷ ps) e = (cc)

-- there is at least one part
pub parts_some : (at : ℕ) (xs : List ℕ) → parts_at at xs ≡ [] → ⊥
parts_some at [] e = (cc)
parts_some at (x ∷ xs) e = elim (cases_Bool (x == at)) [
  | inl is ↦ let s = slice_split-cons_yes (λ b. b == at) x xs is in (cc)
  | inr other ↦ onto_some x (parts_at at xs) (sym (slice_split-cons_no (λ b. b == at) x xs other) ∙ e)
]

-- bytes in which the one stands are more than one part
pub parts_more : (at : ℕ) (bytes v w : List ℕ) (parts : List (List ℕ)) → parts ≡ v ∷ parts_at at bytes → parts ≡ w ∷ [] → ⊥
parts_more at bytes v w parts p q = let none : parts_at at bytes ≡ [] = cc in parts_some at bytes none
