-- Lists of which those are taken that pass a test, each changed.
use Rattle.ledger.proofs.Prelude.{Bool, Each, IsDistinct, IsSomeAnd, is_some, IsStrictlySortedBy, Less, List, None}
use Rattle.ledger.proofs.Prelude.{Option, Ordering, Some, [], ap, arith, false, filter, find, ints, length, map, nat_eq}
use Rattle.ledger.proofs.Prelude.{option_map, pos, refl, suc, sym, total, true, true≢false, ◌+ℤ◌, ◌-◌, ◌<◌, ◌∙◌, ◌∷◌}
use Rattle.ledger.proofs.Prelude.{◌≡◌, ◌≤◌, ℕ, ℤ, cond, if◌then◌else◌, list_any, eqb}
use Rattle.ledger.proofs.Lists.{AtMostOne, each-two, each-unmap, some_is}
use Rattle.ledger.proofs.Sums.{each-map}
use Rattle.std.proofs.lemmas.Map.Steps.{length-le_from_distinct_below}

-- those that pass, each changed
abbrev pub taken : {X : Type 0} → (X → X) → (X → Bool) → List X → List X
taken h t xs = map h (filter t xs)

pub each-taken : {X : Type 0} (P Q : X → Type 0) (h : X → X) (t : X → Bool) → ((x : X) → t x ≡ true → P x → Q (h x))
    → (xs : List X) → Each P xs → Each Q (taken h t xs)
each-taken P Q h t to [] all = tt
each-taken P Q h t to (x ∷ xs) all = by (t x) refl (each-taken P Q h t to xs all.1)
  where
    by : (b : Bool) → t x ≡ b → Each Q (taken h t xs) → Each Q (map h (cond b (x ∷ filter t xs) (filter t xs)))
    by true e more = (to x e all.0, more)
    by false e more = more

pub sorted-taken : {X K : Type 0} (cmp : K → K → Ordering) (key : X → K) (h : X → X) (t : X → Bool)
    → ((x : X) → key (h x) ≡ key x) → (xs : List X) → IsStrictlySortedBy cmp (map key xs)
    → IsStrictlySortedBy cmp (map key (taken h t xs))
unfolding IsStrictlySortedBy
sorted-taken cmp key h t same [] sorted = tt
sorted-taken {K = K} cmp key h t same (x ∷ xs) sorted = by (t x) (sorted-taken cmp key h t same xs sorted.1)
  where
    above : (k : K) → k ≡ key x → Each (λ y. cmp k y ≡ Less) (map key (taken h t xs))
    above k e = each-map (λ y. cmp k y ≡ Less) key (taken h t xs)
        (each-taken (λ y. cmp (key x) (key y) ≡ Less) (λ y. cmp k (key y) ≡ Less) h t
        (λ y _ l. (λ i. cmp (e i) (same y i)) ∙ l) xs (each-unmap (λ y. cmp (key x) y ≡ Less) key xs sorted.0))

    by : (b : Bool) → IsStrictlySortedBy cmp (map key (taken h t xs))
        → IsStrictlySortedBy cmp (map key (map h (cond b (x ∷ filter t xs) (filter t xs))))
    by true more = (above (key (h x)) (same x), more)
    by false more = more

pub total-taken : {X : Type 0} (f g : X → ℤ) (h : X → X) (t : X → Bool) → (xs : List X)
    → Each (λ x. (t x ≡ true → f (h x) ≡ g x) × (t x ≡ false → g x ≡ pos 0)) xs → total f (taken h t xs) ≡ total g xs
total-taken f g h t [] all = refl
total-taken f g h t (x ∷ xs) all = by (t x) refl (total-taken f g h t xs all.1)
  where
    by : (b : Bool) → t x ≡ b → total f (taken h t xs) ≡ total g xs
        → total f (map h (cond b (x ∷ filter t xs) (filter t xs))) ≡ g x +ℤ total g xs
    by true e more = let one = all.0.0 e in omega (arith, ints)
    by false e more = let one = all.0.1 e in omega (arith, ints)

-- what is found among all is found among those taken, changed, if it passes
pub find-taken : {X : Type 0} (q : X → Bool) (h : X → X) (t : X → Bool) → ((x : X) → q (h x) ≡ q x) → (xs : List X)
    → find q (taken h t xs) ≡ None → Each (λ x. q x ≡ true → t x ≡ false) xs
find-taken q h t same [] none = tt
find-taken q h t same (x ∷ xs) none = by (t x) refl none (λ k. find-taken q h t same xs k)
  where
    by : (b : Bool) → t x ≡ b → find q (map h (cond b (x ∷ filter t xs) (filter t xs))) ≡ None
        → (find q (taken h t xs) ≡ None → Each (λ x. q x ≡ true → t x ≡ false) xs)
        → Each (λ x. q x ≡ true → t x ≡ false) (x ∷ xs)
    by true e none more = let s = same x in grind arith
    by false e none more = grind arith

pub find-map : {X : Type 0} (q : X → Bool) (h : X → X) → ((x : X) → q (h x) ≡ q x) → (xs : List X)
    → find q (map h xs) ≡ option_map h (find q xs)
find-map q h same [] = refl
find-map q h same (x ∷ xs) = let more = find-map q h same xs in let s = same x in grind arith

-- ---- how many

pub length-taken : {X : Type 0} (h : X → X) (t : X → Bool) (xs : List X) → length (taken h t xs) ≡ length (filter t xs)
length-taken h t [] = refl
length-taken h t (x ∷ xs) = by (t x) (length-taken h t xs)
  where
    by : (b : Bool) → length (taken h t xs) ≡ length (filter t xs)
        → length (map h (cond b (x ∷ filter t xs) (filter t xs))) ≡ length (cond b (x ∷ filter t xs) (filter t xs))
    by true e = ap suc e
    by false e = e

-- numbers that are apart are apart where the same is taken from each
apart-less : (d x y : ℕ) → d ≤ x → d ≤ y → nat_eq x y ≡ false → nat_eq (x - d) (y - d) ≡ false
apart-less d x y a b e = grind arith

pub distinct-taken : {X : Type 0} (key : X → ℕ) (d : ℕ) (h : X → X) (t : X → Bool) → ((x : X) → key (h x) ≡ key x - d)
    → (xs : List X) → Each (λ x. t x ≡ true → d ≤ key x) xs → IsDistinct nat_eq (map key xs)
    → IsDistinct nat_eq (map key (taken h t xs))
unfolding IsDistinct
distinct-taken key d h t is [] up apart = tt
distinct-taken key d h t is (x ∷ xs) up apart = by (t x) refl (distinct-taken key d h t is xs up.1 apart.1)
  where
    above : t x ≡ true → Each (λ k. nat_eq (key (h x)) k ≡ false) (map key (taken h t xs))
    above e = each-map (λ k. nat_eq (key (h x)) k ≡ false) key (taken h t xs)
        (each-taken (λ y. (t y ≡ true → d ≤ key y) × (nat_eq (key x) (key y) ≡ false))
        (λ y. nat_eq (key (h x)) (key y) ≡ false) h t
        (λ y p l. (λ i. nat_eq (is x i) (is y i)) ∙ apart-less d (key x) (key y) (up.0 e) (l.0 p) l.1) xs
        (each-two _ _ xs up.1 (each-unmap (λ k. nat_eq (key x) k ≡ false) key xs apart.0)))

    by : (b : Bool) → t x ≡ b → IsDistinct nat_eq (map key (taken h t xs))
        → IsDistinct nat_eq (map key (map h (cond b (x ∷ filter t xs) (filter t xs))))
    by true e more = (above e, more)
    by false e more = more

any_below : (n : ℕ) (ks : List ℕ) → Each (λ k. k < n) ks → (q : ℕ) → list_any (eqb q) ks ≡ true → q < n
any_below n [] all q e = absurd (true≢false (sym e))
any_below n (k ∷ ks) all q e = let more = any_below n ks all.1 q in grind arith

-- numbers below n that are apart are no more than n
pub few_apart : (n : ℕ) (ks : List ℕ) → IsDistinct nat_eq ks → Each (λ k. k < n) ks → length ks ≤ n
few_apart n ks apart below = length-le_from_distinct_below ks n apart (any_below n ks below)

-- ---- what is found, where at most one passes

none-taken : {X : Type 0} (q : X → Bool) (h : X → X) (t : X → Bool) → ((x : X) → q (h x) ≡ q x) → (xs : List X)
    → Each (λ x. q x ≡ false) xs → find q (taken h t xs) ≡ None
none-taken q h t same [] off = refl
none-taken q h t same (x ∷ xs) off = by (t x) (none-taken q h t same xs off.1)
  where
    by : (b : Bool) → find q (taken h t xs) ≡ None → find q (map h (cond b (x ∷ filter t xs) (filter t xs))) ≡ None
    by true more = let e = same x ∙ off.0 in rw e more
    by false more = more

pub one-taken : {X : Type 0} (q : X → Bool) (h : X → X) (t : X → Bool) → ((x : X) → q (h x) ≡ q x) → (xs : List X)
    → AtMostOne q xs → (y : X) → find q (taken h t xs) ≡ Some y
    → IsSomeAnd (find q xs) (λ x. (y ≡ h x) × (t x ≡ true))
one-taken q h t same [] one y found = absurd (true≢false (sym (ap is_some found)))
one-taken {X} q h t same (x ∷ xs) one y found =
    by (t x) refl (q x) refl (λ e. one-taken q h t same xs one.1 y e) found
  where
    none : (o : Option X) → o ≡ None → o ≡ Some y → ⊥
    none o n s = true≢false (sym (ap is_some (sym n ∙ s)))

    by : (b : Bool) → t x ≡ b → (c : Bool) → q x ≡ c
        → (find q (taken h t xs) ≡ Some y → IsSomeAnd (find q xs) (λ x. (y ≡ h x) × (t x ≡ true)))
        → find q (map h (cond b (x ∷ filter t xs) (filter t xs))) ≡ Some y
        → IsSomeAnd (if c then Some x else find q xs) (λ x. (y ≡ h x) × (t x ≡ true))
    by true e true d more found = (
      sym (some_is (h x) y (sym (ap (λ b. if b then Some (h x) else find q (taken h t xs)) (same x ∙ d)) ∙ found)),
      e,
    )
    by true e false d more found =
        more (sym (ap (λ b. if b then Some (h x) else find q (taken h t xs)) (same x ∙ d)) ∙ found)
    by false e true d more found = absurd (none _ (none-taken q h t same xs (one.0 d)) found)
    by false e false d more found = more found
