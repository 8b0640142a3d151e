-- The orders that a list shows, and their object.
use Rattle.std.proofs.Common.{◌≡◌, ◌&&◌, ◌∙◌, ◌≤◌, ◌<◌, ◌+◌, ◌++◌, ◌∷◌, [], append-nil, Bool, codes, IsSomeAnd, Less}
use Rattle.std.proofs.Common.{List, None, Option, Some, ap, append_assoc, arith, false, filter, find, inl, inr, map}
use Rattle.std.proofs.Common.{nat_cmp, nat_le, nat_lt, option_map, refl, subst, suc, sym, take, true, unwrap_or, zero}
use Rattle.std.proofs.Common.{ℕ}
use Rattle.std.proofs.lemmas.Bool.{cases_Bool}
use Rattle.std.proofs.lemmas.Bool.Decides.{nat_tests}
use Rattle.std.proofs.Math.Seq.{take-nil}
use Rattle.std.proofs.lemmas.List.{take-map}
use Rattle.std.specs.List.{AllByRecursion as Each}
use Rattle.std.specs.List.Sorted.{IsStrictlySortedBy}
use Rattle.serde_json.specs.Data.{Data, array, null}
use Rattle.serde_json.specs.View.{items_of}
use Rattle.serde_json.specs.Written.{has_float, items_have_float}
use Rattle.ledger.proofs.Lists.{each-found, each-unmap, find_self}
use Rattle.ledger.proofs.Sums.{each-imp, less_is}
use Rattle.ledger.specs.Good.{Good, IsGoodOrder}
use Rattle.ledger.specs.Ledger.{Ledger, Order, is_open, order_numbered}
use Rattle.ledger.specs.Next.{expires}
use Rattle.book.specs.Views.{ShowsOrder, open_from}
use Rattle.book.specs.declared.book.views.OrderView.{OrderView}
use Rattle.escrow.specs.Ranges.{IsOrderNo}
use Rattle.web.specs.Answers.{answer_bytes, json_answer}
use Rattle.web.specs.Objects.{listed_object, numbered_object, object_of, order_object, orders_object}
use Rattle.web.specs.Orders.{due, open_above, open_left}
use Rattle.web.proofs.OrderObject.{order_has_none}

-- ---- the open orders above a number

abbrev is_above : ℕ → Order → Bool
is_above floor o = is_open o && nat_lt floor o.number

-- none is found where none is
none_kept : {X : Type 0} (test : X → Bool) (xs : List X) → find test xs ≡ None → filter test xs ≡ []
none_kept test [] e = refl
none_kept test (x ∷ xs) e = elim (cases_Bool (test x)) [
  | inl is ↦ let some = rw is at e in cc some
  | inr is ↦ rw is (none_kept test xs (rw is at e))
]

-- none is kept of those that fail
none_passes : {X : Type 0} (test : X → Bool) (xs : List X) → Each (λ x. test x ≡ false) xs → filter test xs ≡ []
none_passes test [] h = refl
none_passes test (x ∷ xs) h = rw h.0 (none_passes test xs h.1)

not_above : (floor : ℕ) (o : Order) → o.number ≤ floor → is_above floor o ≡ false
not_above floor o le = let e : nat_lt floor o.number ≡ false = grind (arith, nat_tests) in rw e (by (is_open o))
  where
    by : (b : Bool) → (b && false) ≡ false
    by true = refl
    by false = refl

-- behind an order of those above a floor all open ones are above the floor
past : (floor : ℕ) (m : Order) (ms : List Order) → floor < m.number → Each (λ o. m.number < o.number) ms
    → filter (is_above floor) ms ≡ filter (is_above m.number) (m ∷ ms)
past floor m ms less above = by ms above ∙ sym (rw (not_above m.number m (omega arith)) refl)
  where
    by : (os : List Order) → Each (λ o. m.number < o.number) os → filter (is_above floor) os ≡ filter (is_above m.number) os
    by [] h = refl
    by (o ∷ os) h =
        let low : nat_lt floor o.number ≡ true = grind (arith, nat_tests, less, h.0) in
        let high : nat_lt m.number o.number ≡ true = grind (arith, nat_tests, h.0) in
        let more = by os h.1 in
        rw (low, high, more) refl

-- the first is above the floor, and the rest above the first
first_kept : (floor : ℕ) (o : Order) (os : List Order) → IsStrictlySortedBy nat_cmp (map (λ o. o.number) os)
    → find (is_above floor) os ≡ Some o
    → filter (is_above floor) os ≡ o ∷ filter (is_above o.number) os
unfolding IsStrictlySortedBy
first_kept floor o [] sorted e = cc e
first_kept floor o (m ∷ ms) sorted e = elim (cases_Bool (is_above floor m)) [
  | inl is ↦
      let same : m ≡ o = let found = rw is at e in cc found in
      let rest : filter (is_above floor) ms ≡ filter (is_above m.number) (m ∷ ms) = past floor m ms (low is) above in
      rw is (subst (λ (x : Order). m ∷ filter (is_above floor) ms ≡ x ∷ filter (is_above x.number) (m ∷ ms)) same
      (ap (λ (os : List Order). m ∷ os) rest))
  | inr is ↦
      let found = rw is at e in
      let less : m.number < o.number = each-found (λ o. m.number < o.number) (is_above floor) o ms above found in
      rw (is, not_above o.number m (omega (arith, less))) (first_kept floor o ms sorted.1 found)
]
  where
    above : Each (λ o. m.number < o.number) ms
    above =
        each-imp (λ o less. less_is m.number o.number less) ms
        (each-unmap (λ n. nat_cmp m.number n ≡ Less) (λ o. o.number) ms sorted.0)

    low : is_above floor m ≡ true → floor < m.number
    low is = elim (cases_Bool (nat_lt floor m.number)) [
      | inl less ↦ grind (arith, nat_tests)
      | inr not ↦ let none = rw (not_above floor m (grind (arith, nat_tests))) at is in cc none
    ]

-- from the next number on is above the number
from_next : (A : Ledger) (floor : ℕ) → open_from A (floor + 1) ≡ find (is_above floor) A.orders
from_next A floor = λ i. find (λ o. is_open o && same o.number i) A.orders
  where
    same : (n : ℕ) → nat_le (floor + 1) n ≡ nat_lt floor n
    same n = grind (arith, nat_tests)

pub none_left : (A : Ledger) (floor : ℕ) → open_from A (floor + 1) ≡ None → open_left A floor ≡ []
none_left A floor e = ap (map (λ (o : Order). o.number)) (none_kept (is_above floor) A.orders (sym (from_next A floor) ∙ e))

pub first_left : (A : Ledger) (floor : ℕ) (view : OrderView) → Good A
    → IsSomeAnd (open_from A (floor + 1)) (λ o. ShowsOrder o view)
    → open_left A floor ≡ view.number ∷ open_left A view.number
first_left A floor view good h = by (open_from A (floor + 1)) refl h
  where
    by : (found : Option Order) → open_from A (floor + 1) ≡ found → IsSomeAnd found (λ o. ShowsOrder o view)
        → open_left A floor ≡ view.number ∷ open_left A view.number
    by None e h = absurd h
    by (Some o) e h =
        let kept = first_kept floor o A.orders good.orders_in_order (sym (from_next A floor) ∙ e) in
        rw h.number (ap (map (λ (o : Order). o.number)) kept)

-- no order has a number beyond the last
pub none_beyond : (A : Ledger) (floor : ℕ) → Good A → 999999999 ≤ floor → open_left A floor ≡ []
none_beyond A floor good last =
    ap (map (λ (o : Order). o.number))
    (none_passes (is_above floor) A.orders
    (each-imp (λ o is. not_above floor o (within o is)) A.orders good.orders))
  where
    within : (o : Order) → IsGoodOrder A o → o.number ≤ floor
    within o is = omega (arith, last, is.number.1)

-- a number behind which none is an order's
pub is_last : (floor : ℕ) → (IsOrderNo (floor + 1) → ⊥) → 999999999 ≤ floor
is_last floor none = elim (cases_Bool (nat_le 999999999 floor)) [
  | inl le ↦ grind (arith, nat_tests)
  | inr lt ↦ let less : floor < 999999999 = grind (arith, nat_tests) in absurd (none (omega arith, omega (arith, less)))
]

-- what is listed so far, and as many more as there is room for
abbrev pub IsListed : Ledger → ℕ → ℕ → ℕ → List ℕ → Type 0
IsListed A floor last room numbers = take 50 (open_left A floor) ≡ numbers ++ take room (open_left A last)

listed_so : (A : Ledger) (floor : ℕ) → take 50 (open_left A floor) ≡ map (λ o. o.number) (open_above A floor)
listed_so A floor = take-map (λ (o : Order). o.number) 50 (filter (is_above floor) A.orders)

-- where none is left all are listed
pub none_more : (A : Ledger) (floor last room : ℕ) (numbers : List ℕ) → open_left A last ≡ [] → IsListed A floor last room numbers
    → numbers ≡ map (λ o. o.number) (open_above A floor)
none_more A floor last room numbers e h =
    sym (append-nil numbers) ∙ ap (λ (more : List ℕ). numbers ++ more) (sym (ap (take room) e ∙ take-nil room)) ∙ sym h
    ∙ listed_so A floor

-- and where there is no more room
pub no_room : (A : Ledger) (floor last room : ℕ) (numbers : List ℕ) → room ≡ 0 → IsListed A floor last room numbers
    → numbers ≡ map (λ o. o.number) (open_above A floor)
no_room A floor last room numbers e h =
    sym (append-nil numbers) ∙ ap (λ (n : ℕ). numbers ++ take n (open_left A last)) (sym e) ∙ sym h ∙ listed_so A floor

pub one_more : (A : Ledger) (floor last next room : ℕ) (numbers more : List ℕ)
    → open_left A last ≡ next ∷ open_left A next → more ≡ numbers ++ next ∷ []
    → IsListed A floor last (suc room) numbers → IsListed A floor next room more
one_more A floor last next room numbers more e pushed h =
    h ∙ ap (λ (left : List ℕ). numbers ++ take (suc room) left) e
    ∙ sym (append_assoc numbers (next ∷ []) (take room (open_left A next)))
    ∙ ap (λ (all : List ℕ). all ++ take room (open_left A next)) (sym pushed)

pub due_listed : (A : Ledger) (moment : ℕ)
    → take 50 (map (λ o. o.number) (filter (expires moment) A.orders)) ≡ map (λ o. o.number) (due A moment)
due_listed A moment = take-map (λ (o : Order). o.number) 50 (filter (expires moment) A.orders)

-- ---- their object

-- an order is found under its number
abbrev IsThere : Ledger → Order → Type 0
IsThere A o = order_numbered A o.number ≡ Some o

there_kept : (A : Ledger) (test : Order → Bool) (os : List Order) → Each (IsThere A) os → Each (IsThere A) (filter test os)
there_kept A test [] h = tt
there_kept A test (o ∷ os) h = elim (cases_Bool (test o)) [
  | inl e ↦ rw e (h.0, there_kept A test os h.1)
  | inr e ↦ rw e (there_kept A test os h.1)
]

there_taken : (A : Ledger) (n : ℕ) (os : List Order) → Each (IsThere A) os → Each (IsThere A) (take n os)
there_taken A zero os h = tt
there_taken A (suc n) [] h = tt
there_taken A (suc n) (o ∷ os) h = (h.0, there_taken A n os h.1)

objects_same : (A : Ledger) (os : List Order) → Each (IsThere A) os
    → map (numbered_object A) (map (λ o. o.number) os) ≡ map order_object os
objects_same A [] h = refl
objects_same A (o ∷ os) h =
    let first : numbered_object A o.number ≡ order_object o =
    ap (λ (found : Option Order). unwrap_or (option_map order_object found) null) h.0 in
    rw (first, objects_same A os h.1) refl

-- the object of the first of the orders that pass a test
pub same_object : (A : Ledger) (test : Order → Bool) → Good A
    → listed_object A (map (λ o. o.number) (take 50 (filter test A.orders))) ≡ orders_object (take 50 (filter test A.orders))
same_object A test good =
    let there = there_taken A 50 _ (there_kept A test A.orders (find_self A.orders good.orders_in_order)) in
    ap (λ (objects : List Data). object_of ((codes "orders", array (items_of objects)) ∷ [])) (objects_same A _ there)

-- what is written of those whose numbers are listed
pub list_written : (A : Ledger) (test : Order → Bool) (bytes listed numbers : List ℕ) → Good A → listed ≡ numbers
    → numbers ≡ map (λ o. o.number) (take 50 (filter test A.orders))
    → bytes ≡ answer_bytes (json_answer 200 (listed_object A listed))
    → bytes ≡ answer_bytes (json_answer 200 (orders_object (take 50 (filter test A.orders))))
list_written A test bytes listed numbers good same e h =
    h ∙ ap (λ (ns : List ℕ). answer_bytes (json_answer 200 (listed_object A ns))) (same ∙ e)
    ∙ ap (λ (object : Data). answer_bytes (json_answer 200 object)) (same_object A test good)

-- ---- no object has a float

numbered_none : (A : Ledger) (n : ℕ) → has_float (numbered_object A n) ≡ false
numbered_none A n = by (order_numbered A n)
  where
    by : (found : Option Order) → has_float (unwrap_or (option_map order_object found) null) ≡ false
    by None = refl
    by (Some o) = order_has_none o

orders_have_none : (A : Ledger) (numbers : List ℕ) → items_have_float (items_of (map (numbered_object A) numbers)) ≡ false
orders_have_none A [] = refl
orders_have_none A (n ∷ ns) = rw (numbered_none A n) (orders_have_none A ns)

listed_has_none : (A : Ledger) (numbers : List ℕ) → has_float (listed_object A numbers) ≡ false
listed_has_none A numbers = rw (orders_have_none A numbers)

pub listed_has_no_float : (A : Ledger) (numbers : List ℕ) (value : Data) → value ≡ listed_object A numbers
    → has_float value ≡ false
listed_has_no_float A numbers value e = ap has_float e ∙ listed_has_none A numbers
