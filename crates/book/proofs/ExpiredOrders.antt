-- The orders that a command changes, by their numbers.
use Rattle.ledger.proofs.Prelude.{Bool, Changes, Each, Good, IsNonDecreasingBy, IsPermutation, IsPermutation-map}
use Rattle.ledger.proofs.Prelude.{Ledger, Less, List, Order, Some, [], ap, arith, cases_lt, common_steps, count_by}
use Rattle.ledger.proofs.Prelude.{expires, false, filter, flat_map, get_or, if◌then◌else◌, inl, inr, length, map}
use Rattle.ledger.proofs.Prelude.{nat_cmp, option_map_or, order_numbered, refl, steps, suc, sym, true, ℕ, ◌&&◌, ◌++◌}
use Rattle.ledger.proofs.Prelude.{◌+◌, ◌<◌, ◌==◌, ◌∙◌, ◌∷◌, ◌≡◌, ◌≤◌, IsStrictlySortedBy, turn}
use Rattle.book.proofs.Prelude.{OrderEntry, changed_order, order_of, steps_under}
use Rattle.book.specs.declared.book.made.OrderChange.{OrderChange}
use Rattle.std.proofs.lemmas.List.Sorted.{sum_by-IsPermutation}
use Rattle.ledger.proofs.Lists.{counted, each-unmap, find_self, same_number}
use Rattle.ledger.proofs.Sums.{each-imp, each-map, less_is}

above : (m n : ℕ) → m < n → (n == m) ≡ false
above m n h = grind arith

below : (m n : ℕ) → m < n → (m == n) ≡ false
below m n h = grind arith

-- ---- numbers in their order

-- none is below one before it
abbrev Rising : List ℕ → Type 0
Rising [] = Unit {0}
Rising (x ∷ xs) = Each (λ y. x ≤ y) xs × Rising xs

abbrev count : ℕ → List ℕ → ℕ
count n xs = count_by (λ m. m == n) xs

count_first : (n : ℕ) (xs : List ℕ) → count n (n ∷ xs) ≡ 1 + count n xs
count_first n xs = counted (λ m. m == n) n xs ∙ ap (λ b. (if b then 1 else 0) + count n xs) (same_number n)

count_none : (n : ℕ) (xs : List ℕ) → Each (λ m. n < m) xs → count n xs ≡ 0
count_none n [] h = refl
count_none n (m ∷ ms) h = counted (λ m. m == n) m ms ∙ (λ i. (if above n m h.0 i then 1 else 0) + count_none n ms h.1 i)

-- below the first, and so below all
all_above : (n m : ℕ) (ms : List ℕ) → n < m → Rising (m ∷ ms) → Each (λ k. n < k) (m ∷ ms)
all_above n m ms h up = (h, each-imp (λ k le. omega arith) ms up.0)

counts_left : (n : ℕ) (xs ys : List ℕ) → ((k : ℕ) → count k (n ∷ xs) ≡ count k (n ∷ ys)) → (k : ℕ)
    → count k xs ≡ count k ys
counts_left n xs ys h k = grind (arith, (counted (λ m. m == k) n xs), (counted (λ m. m == k) n ys), (h k))

first_alike : (x y : ℕ) (xs ys : List ℕ) → Rising (x ∷ xs) → Rising (y ∷ ys)
    → ((n : ℕ) → count n (x ∷ xs) ≡ count n (y ∷ ys)) → x ≡ y
first_alike x y xs ys h k e = elim (cases_lt x y) [
  | inl lt ↦
      let here = count_first x xs in
      let none = count_none x (y ∷ ys) (all_above x y ys lt k) in
      let both = e x in
      absurd (omega arith)
  | inr ge ↦ elim (cases_lt y x) [
    | inl lt ↦
        let here = count_first y ys in
        let none = count_none y (x ∷ xs) (all_above y x xs lt h) in
        let both = e y in
        absurd (omega arith)
    | inr le ↦ omega arith
  ]
]

-- numbers in their order are told by how often each is there
alike : (xs ys : List ℕ) → Rising xs → Rising ys → ((n : ℕ) → count n xs ≡ count n ys) → xs ≡ ys
alike [] [] h k e = refl
alike [] (y ∷ ys) h k e = let here = count_first y ys in let both = e y in absurd (omega arith)
alike (x ∷ xs) [] h k e = let here = count_first x xs in let both = e x in absurd (omega arith)
alike (x ∷ xs) (y ∷ ys) h k e =
    let is = first_alike x y xs ys h k e in
    let more = alike xs ys h.1 k.1 (counts_left x xs ys (λ n. e n ∙ ap (λ z. count n (z ∷ ys)) (sym is))) in
    λ i. is i ∷ more i

each_above : (x : ℕ) (xs : List ℕ) → ((j : ℕ) → j < length xs → x ≤ get_or xs j 0) → Each (λ y. x ≤ y) xs
each_above x [] h = tt
each_above x (y ∷ ys) h = (h 0 (omega arith), each_above x ys (λ j lt. h (suc j) (omega arith)))

from_sort : (xs : List ℕ) → IsNonDecreasingBy (λ x. x) xs → Rising xs
from_sort [] h = tt
from_sort (x ∷ xs) h = (
  each_above x xs (λ j lt. h 0 (suc j) 0 (omega arith) (omega arith)),
  from_sort xs (λ i j d le lt. h (suc i) (suc j) d (omega arith) (omega arith)),
)

-- ---- those of the orders that pass a test

each-filter : {X : Type 0} (P : X → Type 0) (t : X → Bool) (xs : List X) → Each P xs → Each P (filter t xs)
each-filter P t [] h = tt
each-filter P t (x ∷ xs) h = let more = each-filter P t xs h.1 in grind arith

module _ (p : Order → Bool) where
  abbrev numbers : List Order → List ℕ
  numbers os = map (λ o. o.number) (filter p os)

  each_number : (P : ℕ → Type 0) (os : List Order) → Each P (map (λ o. o.number) os) → Each P (numbers os)
  each_number P os h =
      each-map P (λ o. o.number) (filter p os) (each-filter (λ o. P o.number) p os (each-unmap P (λ o. o.number) os h))

  numbers_rise : (os : List Order) → IsStrictlySortedBy nat_cmp (map (λ o. o.number) os) → Rising (numbers os)
  unfolding IsStrictlySortedBy
  numbers_rise [] sorted = tt
  numbers_rise (o ∷ os) sorted =
      let more = numbers_rise os sorted.1 in
      grind (arith, (each_number (λ k. nat_cmp o.number k ≡ Less) os sorted.0), each-imp, less_is)

  count_numbers : (n : ℕ) (os : List Order) → count n (numbers os) ≡ count_by (λ o. p o && (o.number == n)) os
  count_numbers n [] = refl
  count_numbers n (o ∷ os) = let more = count_numbers n os in grind (arith, common_steps, counted, o.number)

  -- the steps of the orders that pass, by their numbers
  pub numbered_steps : (A : Ledger) (change : OrderChange) → Good A
      → flat_map (steps_under A change) (numbers A.orders) ≡ steps (Changes p (changed_order change)) A.orders
  numbered_steps A change good = go A.orders (find_self A.orders good.orders_in_order)
    where
      go : (os : List Order) → Each (λ o. order_numbered A o.number ≡ Some o) os
          → flat_map (steps_under A change) (numbers os) ≡ steps (Changes p (changed_order change)) os
      go [] h = refl
      go (o ∷ os) h = by (p o) h.0 (go os h.1)
        where
          by : (b : Bool) → order_numbered A o.number ≡ Some o
              → flat_map (steps_under A change) (numbers os) ≡ steps (Changes p (changed_order change)) os
              → flat_map (steps_under A change) (map (λ o. o.number) (if b then o ∷ filter p os else filter p os))
              ≡ (if b then turn o (changed_order change o) ∷ [] else []) ++ steps (Changes p (changed_order change)) os
          by true own more = λ i. option_map_or (λ o. turn o (changed_order change o) ∷ []) (own i) [] ++ more i
          by false own more = more

-- the numbers of those that expire, found in any order of the entries and then put in theirs
pub numbers_sorted : (now : ℕ) (es lying : List (ℕ × OrderEntry)) (ns : List ℕ)
    → IsStrictlySortedBy nat_cmp (map (λ o. o.number) (map order_of es)) → IsPermutation es lying
    → IsPermutation (numbers (expires now) (map order_of lying)) ns → IsNonDecreasingBy (λ x. x) ns
    → ns ≡ numbers (expires now) (map order_of es)
numbers_sorted now es lying ns sorted moved put up =
    let p : Order → Bool = expires now in
    alike ns (numbers p (map order_of es)) (from_sort ns up) (numbers_rise p (map order_of es) sorted)
    (λ n.
    sum_by-IsPermutation (λ m. if m == n then 1 else 0) (numbers p (map order_of lying)) ns put
    ∙ count_numbers p n (map order_of lying)
    ∙ sum_by-IsPermutation (λ o. if p o && (o.number == n) then 1 else 0) (map order_of es) (map order_of lying)
    (IsPermutation-map order_of es lying moved)
    ∙ sym (count_numbers p n (map order_of es)))
