-- Whether a list is in the order of its keys, told from each two neighbours.
use Rattle.ledger.proofs.Prelude.{[], ◌+◌, ◌<◌, ◌↔◌, ◌∙◌, ◌∷◌, ◌≡◌, Bool, IsStrictlySortedBy, IsTotalOrder, IsTrue}
use Rattle.ledger.proofs.Prelude.{Less, List, Ordering, ap, arith, false, is_lt, length, map, map-map, subst, suc, sym}
use Rattle.ledger.proofs.Prelude.{true, true≢false, zero, ℕ}
use Rattle.std.specs.List.{AllAdjacentBelow, IsAllAdjacentAnswer}
use Rattle.std.specs.Prelude.{slice_index_or}
use Rattle.ledger.proofs.Sums.{each-imp}
use Rattle.ledger.proofs.TestResults.{no, yes}

less_if : (o : Ordering) → is_lt o ≡ true → o ≡ Less
less_if c e = grind arith

after : (k : ℕ) → suc k + 1 ≡ suc (k + 1)
after k = omega arith

-- The test of two neighbours, and the keys that it compares.
record Compares {X K : Type 0} (cmp : K → K → Ordering) (key : X → K) (test : X → X → Bool) : Type 0 where
  total : IsTotalOrder cmp
  same : (x y : X) → test x y ≡ is_lt (cmp (key x) (key y))

-- each before the next
rises : {X K : Type 0} (cmp : K → K → Ordering) (key : X → K) (test : X → X → Bool) → Compares cmp key test
    → (xs : List X) → AllAdjacentBelow (λ x y. true ≡ test x y) xs (length xs) → IsStrictlySortedBy cmp (map key xs)
unfolding IsStrictlySortedBy
rises cmp key test c [] all = tt
rises cmp key test c (x ∷ []) all = (tt, tt)
rises cmp key test c (x ∷ y ∷ ys) all =
    let less = less_if _ (sym (c.same x y) ∙ sym (all zero x (omega arith))) in
    let more = rises cmp key test c (y ∷ ys) (λ k d lt. subst
    (λ j. true ≡ test (slice_index_or (y ∷ ys) k d) (slice_index_or (x ∷ y ∷ ys) j d)) (after k) (all (suc k) d (omega arith))) in
    ((less, each-imp (λ k more. c.total.trans (key x) (key y) k less more) (map key ys) more.0), more)

-- one not before the next
falls : {X K : Type 0} (cmp : K → K → Ordering) (key : X → K) (test : X → X → Bool) → Compares cmp key test
    → (xs : List X) (k : ℕ) → k + 1 < length xs
    → ((d : X) → false ≡ test (slice_index_or xs k d) (slice_index_or xs (k + 1) d))
    → IsStrictlySortedBy cmp (map key xs) → ⊥
unfolding IsStrictlySortedBy
falls cmp key test c [] k lt not sorted = omega arith
falls cmp key test c (x ∷ []) k lt not sorted = omega arith
falls cmp key test c (x ∷ y ∷ ys) zero lt not sorted =
    true≢false (ap is_lt (sym sorted.0.0) ∙ sym (c.same x y) ∙ sym (not x))
falls cmp key test c (x ∷ y ∷ ys) (suc k) lt not sorted =
    falls cmp key test c (y ∷ ys) k (omega arith) (λ d. subst
    (λ j. false ≡ test (slice_index_or (y ∷ ys) k d) (slice_index_or (x ∷ y ∷ ys) j d)) (after k) (not d)) sorted.1

-- what a test of each two neighbours answers
pub neighbours : {X K : Type 0} (cmp : K → K → Ordering) → IsTotalOrder cmp → (key : X → K) (test : X → X → Bool)
    → ((x y : X) → test x y ≡ is_lt (cmp (key x) (key y))) → (xs : List X) (r : Bool)
    → IsAllAdjacentAnswer (λ x y b. b ≡ test x y) xs r
    → IsTrue r ↔ IsStrictlySortedBy cmp (map key xs)
neighbours cmp total key test same xs true all = yes (rises cmp key test (record { total = total; same = same }) xs all)
neighbours cmp total key test same xs false (k, lt, not) =
    no (λ sorted. falls cmp key test (record { total = total; same = same }) xs k lt not sorted)

-- the same, of elements that are seen through a view
pub in_order : {X Y K : Type 0} (cmp : K → K → Ordering) → IsTotalOrder cmp
    → (key : Y → K) (view : X → Y) (test : X → X → Bool)
    → ((x y : X) → test x y ≡ is_lt (cmp (key (view x)) (key (view y))))
    → (xs : List X) (r : Bool) → IsAllAdjacentAnswer (λ x y b. b ≡ test x y) xs r
    → IsTrue r ↔ IsStrictlySortedBy cmp (map key (map view xs))
in_order cmp total key view test same xs r all =
    subst (λ ks. IsTrue r ↔ IsStrictlySortedBy cmp ks) (sym (map-map key view xs))
    (neighbours cmp total (λ x. key (view x)) test same xs r all)
