-- The fields of a record, one by one.
use Rattle.std.proofs.Common.{◌≡◌, ◌≤◌, ℕ, zero, suc, List, [], ◌∷◌, length, Option, Some, None, IfNone, arith}
use Rattle.csv.specs.Records.{field_at}

-- past the last field
pub past : (row : List (List ℕ)) (i : ℕ) → None ≡ field_at row i → length row ≤ i
unfolding field_at
past [] i e = omega arith
past (x ∷ xs) zero e = absurd (cc)
past (x ∷ xs) (suc i) e = let h = past xs i e in omega arith

pub if_none : {X : Type 0} (o : Option X) (P : Type 0) → P → IfNone o P
if_none None P h = h
if_none (Some x) P h = tt

-- four fields
pub four : (row : List (List ℕ)) (a b c d : List ℕ) → length row ≡ 4 → Some a ≡ field_at row 0 → Some b ≡ field_at row 1
    → Some c ≡ field_at row 2 → Some d ≡ field_at row 3 → row ≡ a ∷ b ∷ c ∷ d ∷ []
unfolding field_at
four (x ∷ y ∷ z ∷ w ∷ []) a b c d h p q r s = cc
four [] a b c d h p q r s = absurd (cc)
four (x ∷ []) a b c d h p q r s = absurd (cc)
four (x ∷ y ∷ []) a b c d h p q r s = absurd (cc)
four (x ∷ y ∷ z ∷ []) a b c d h p q r s = absurd (cc)
four (x ∷ y ∷ z ∷ w ∷ v ∷ more) a b c d h p q r s = absurd (omega arith)

-- five fields
pub five : (row : List (List ℕ)) (a b c d e : List ℕ) → length row ≡ 5 → Some a ≡ field_at row 0
    → Some b ≡ field_at row 1 → Some c ≡ field_at row 2 → Some d ≡ field_at row 3 → Some e ≡ field_at row 4
    → row ≡ a ∷ b ∷ c ∷ d ∷ e ∷ []
unfolding field_at
five [] a b c d e h p q r s t = absurd (cc)
five (x ∷ rest) a b c d e h p q r s t = let tail : rest ≡ b ∷ c ∷ d ∷ e ∷ [] = four rest b c d e (omega arith) q r s t in cc

-- the first field, and those behind it
front : (row : List (List ℕ)) (a : List ℕ) → Some a ≡ field_at row 0 → (rest : List (List ℕ)) × (row ≡ a ∷ rest)
unfolding field_at
front [] a e = absurd (cc)
front (x ∷ xs) a e = (xs, cc)

-- seven fields
pub seven : (row : List (List ℕ)) (a b c d e f g : List ℕ) → length row ≡ 7 → Some a ≡ field_at row 0
    → Some b ≡ field_at row 1 → Some c ≡ field_at row 2 → Some d ≡ field_at row 3
    → Some e ≡ field_at row 4 → Some f ≡ field_at row 5 → Some g ≡ field_at row 6 → row ≡ a ∷ b ∷ c ∷ d ∷ e ∷ f ∷ g ∷ []
unfolding field_at
seven [] a b c d e f g h p q r s t u v = absurd (cc)
seven (x ∷ []) a b c d e f g h p q r s t u v = absurd (cc)
seven (x ∷ y ∷ []) a b c d e f g h p q r s t u v = absurd (cc)
seven (x ∷ y ∷ z ∷ rest) a b c d e f g h p q r s t u v =
    let tail : rest ≡ d ∷ e ∷ f ∷ g ∷ [] = four rest d e f g (omega arith) s t u v in
    cc
