-- The numbers of open orders, in order.
use Rattle.ledger.proofs.Prelude.{[], ◌&&◌, ◌+◌, ◌<◌, ◌∙◌, ◌∷◌, ◌≡◌, ◌≤◌, ◌⊎◌, ◌++◌, Bool, Each, Equal, Greater, IsSome}
use Rattle.ledger.proofs.Prelude.{IsStrictlySortedBy, Less, List, MatchOrdering, None, Option, Ordering, Some, ap}
use Rattle.ledger.proofs.Prelude.{arith, cond, count_by, false, filter, find, get_or, get_or_from_slice_get}
use Rattle.ledger.proofs.Prelude.{if◌then◌else◌, inl, inr, insert_entry, is_at, is_eq, is_open, length, lookup, map}
use Rattle.ledger.proofs.Prelude.{match_ordering, nat_cmp, nat_le, open_state, option_map, refl, slice_get}
use Rattle.ledger.proofs.Prelude.{slice_get_within, subst, suc, sym, true, zero, ℕ}
use Rattle.book.proofs.Prelude.{OrderEntry, order_of}
use Rattle.std.specs.Prelude.{Result, MatchResult}
use Rattle.std.specs.List.{insert, remove}
use Rattle.std.specs.List.Sorted.{IsBinarySearchResult}
use Rattle.std.specs.Map.{keys_of}
use Rattle.std.specs.Cmp.{nat_cmp_is, ranks}
use Rattle.std.proofs.lemmas.List.Sorted.{searched}
use Rattle.std.proofs.lemmas.Map.Keys.{below_from_sorted}
use Rattle.std.proofs.lemmas.List.Sums.{length-filter}
use Rattle.ledger.proofs.Lists.{each-found, each-unmap, length-of-map}
use Rattle.book.proofs.NextRows.{viewed}
use Rattle.ledger.proofs.Sums.{each-imp}
use Rattle.book.specs.inner.OpenOrders.{IsFirstFrom, IsPlaceFor, IsPlaceOf, is_open_from, marked, open_numbers, room_for}

-- ---- how two numbers compare

pub is_less : (n m : ℕ) → n < m → nat_cmp n m ≡ Less
is_less n m h = sym (nat_cmp_is n m Less h)

is_greater : (n m : ℕ) → m < n → nat_cmp n m ≡ Greater
is_greater n m h = sym (nat_cmp_is n m Greater h)

is_equal : (n m : ℕ) → m ≡ n → nat_cmp n m ≡ Equal
is_equal n m h = sym (nat_cmp_is n m Equal (sym h))

less_than : (n m : ℕ) → nat_cmp n m ≡ Less → n < m
less_than n m is = subst (λ o. MatchOrdering o (n < m) (n ≡ m) (m < n)) is (ranks n m)

equal_to : (n m : ℕ) → nat_cmp n m ≡ Equal → n ≡ m
equal_to n m is = subst (λ o. MatchOrdering o (n < m) (n ≡ m) (m < n)) is (ranks n m)

-- what is above one number is above what is below that
on_from : (n k : ℕ) (ms : List ℕ) → n ≤ k → Each (λ m. nat_cmp k m ≡ Less) ms → Each (λ m. nat_cmp n m ≡ Less) ms
on_from n k ms le h = each-imp (λ m less. is_less n m (omega (arith, le, less_than k m less))) ms h

-- ---- one number more or less

-- below all others it goes to the front
marked_first : (b : Bool) (n : ℕ) (ms : List ℕ) → Each (λ m. nat_cmp n m ≡ Less) ms → marked b n ms ≡ (if b then n ∷ ms else ms)
marked_first b n [] h = refl
marked_first b n (m ∷ ms) h =
    ap (λ o. match_ordering o (if b then n ∷ m ∷ ms else m ∷ ms) (if b then m ∷ ms else ms) (m ∷ marked b n ms)) h.0

-- where it stands
marked_there : (b : Bool) (n m : ℕ) (ms : List ℕ) → m ≡ n → marked b n (m ∷ ms) ≡ (if b then m ∷ ms else ms)
marked_there b n m ms same =
    ap (λ o. match_ordering o (if b then n ∷ m ∷ ms else m ∷ ms) (if b then m ∷ ms else ms) (m ∷ marked b n ms))
    (is_equal n m same)

-- further on
marked_later : (b : Bool) (n m : ℕ) (ms : List ℕ) → m < n → marked b n (m ∷ ms) ≡ m ∷ marked b n ms
marked_later b n m ms h =
    ap (λ o. match_ordering o (if b then n ∷ m ∷ ms else m ∷ ms) (if b then m ∷ ms else ms) (m ∷ marked b n ms))
    (is_greater n m h)

-- taken out where it stands
pub taken_out : (n : ℕ) (ms : List ℕ) (place : ℕ) → IsStrictlySortedBy nat_cmp ms → IsPlaceOf n ms place
    → remove ms place ≡ marked false n ms
unfolding IsStrictlySortedBy
taken_out n [] place sorted (within, is) = absurd (omega (arith, within))
taken_out n (m ∷ ms) zero sorted (within, is) = sym (marked_there false n m ms is)
taken_out n (m ∷ ms) (suc p) sorted (within, is) =
    let less = below_from_sorted (m ∷ ms) 0 (suc p) 0 sorted (omega arith) within in
    ap (λ l. m ∷ l) (taken_out n ms p sorted.1 (omega (arith, within), is))
    ∙ sym (marked_later false n m ms (omega (arith, less, is)))

-- left where it stands
pub left_in : (n : ℕ) (ms : List ℕ) (place : ℕ) → IsStrictlySortedBy nat_cmp ms → IsPlaceOf n ms place → ms ≡ marked true n ms
unfolding IsStrictlySortedBy
left_in n [] place sorted (within, is) = absurd (omega (arith, within))
left_in n (m ∷ ms) zero sorted (within, is) = sym (marked_there true n m ms is)
left_in n (m ∷ ms) (suc p) sorted (within, is) =
    let less = below_from_sorted (m ∷ ms) 0 (suc p) 0 sorted (omega arith) within in
    ap (λ l. m ∷ l) (left_in n ms p sorted.1 (omega (arith, within), is))
    ∙ sym (marked_later true n m ms (omega (arith, less, is)))

-- the rest of the places, where the first is below
rest_for : (n m : ℕ) (ms : List ℕ) (p : ℕ) → IsPlaceFor n (m ∷ ms) (suc p) → IsPlaceFor n ms p
rest_for n m ms p (within, below, above) = (
  omega (arith, within),
  λ k lt. below (suc k) (omega (arith, lt)),
  λ k le lt. above (suc k) (omega (arith, le)) (omega (arith, lt)),
)

-- put in where it would go
pub put_in : (n : ℕ) (ms : List ℕ) (place : ℕ) → IsPlaceFor n ms place → insert ms place n ≡ marked true n ms
put_in n [] zero h = refl
put_in n [] (suc p) h = absurd (omega (arith, h.0))
put_in n (m ∷ ms) zero h =
    ap (λ o. match_ordering o (n ∷ m ∷ ms) (m ∷ ms) (m ∷ marked true n ms))
    (sym (is_less n m (h.2 0 (omega arith) (omega arith))))
put_in n (m ∷ ms) (suc p) h =
    ap (λ l. m ∷ l) (put_in n ms p (rest_for n m ms p h)) ∙ sym (marked_later true n m ms (h.1 0 (omega arith)))

-- left out where it would go
pub left_out : (n : ℕ) (ms : List ℕ) (place : ℕ) → IsPlaceFor n ms place → ms ≡ marked false n ms
left_out n [] zero h = refl
left_out n [] (suc p) h = absurd (omega (arith, h.0))
left_out n (m ∷ ms) zero h =
    ap (λ o. match_ordering o (m ∷ ms) ms (m ∷ marked false n ms))
    (sym (is_less n m (h.2 0 (omega arith) (omega arith))))
left_out n (m ∷ ms) (suc p) h =
    ap (λ l. m ∷ l) (left_out n ms p (rest_for n m ms p h)) ∙ sym (marked_later false n m ms (h.1 0 (omega arith)))

-- where a search by halving finds it, or its gap
pub searched_at : (n : ℕ) (ms : List ℕ) (r : Result ℕ ℕ) → IsStrictlySortedBy nat_cmp ms
    → IsBinarySearchResult (λ m. nat_cmp m n) ms r
    → MatchResult r (IsPlaceOf n ms) (IsPlaceFor n ms)
searched_at n ms r sorted h = searched ms n r h rises
  where
    rises : (i j : ℕ) → i ≤ j → j < length ms → get_or ms i 0 ≤ get_or ms j 0
    rises i j le lt = by (nat_cmp i j) (ranks i j)
      where
        by : (o : Ordering) → MatchOrdering o (i < j) (i ≡ j) (j < i) → get_or ms i 0 ≤ get_or ms j 0
        by Less less = omega (arith, below_from_sorted ms i j 0 sorted less lt)
        by Equal same = subst (λ k. get_or ms i 0 ≤ get_or ms k 0) same (omega arith)
        by Greater more = absurd (omega (arith, le, more))

-- put in, there is one more
pub one_longer : (n : ℕ) (ms : List ℕ) (place : ℕ) → IsPlaceFor n ms place → length (marked true n ms) ≡ length ms + 1
one_longer n [] zero h = refl
one_longer n [] (suc p) h = absurd (omega (arith, h.0))
one_longer n (m ∷ ms) zero h = ap length (sym (put_in n (m ∷ ms) zero h)) ∙ omega arith
one_longer n (m ∷ ms) (suc p) h =
    ap length (marked_later true n m ms (h.1 0 (omega arith))) ∙ omega (arith, one_longer n ms p (rest_for n m ms p h))

-- ---- the open ones among orders

-- of numbers above another, the open ones are above it
open_above : (n : ℕ) (es : List (ℕ × OrderEntry)) → Each (λ m. nat_cmp n m ≡ Less) (keys_of es)
    → Each (λ m. nat_cmp n m ≡ Less) (open_numbers es)
open_above n [] h = tt
open_above n (e ∷ es) h = by (open_state e.1.state) (open_above n es h.1)
  where
    by : (b : Bool) → Each (λ m. nat_cmp n m ≡ Less) (open_numbers es)
        → Each (λ m. nat_cmp n m ≡ Less)
        (keys_of (cond b (e ∷ filter (λ x. open_state x.1.state) es) (filter (λ x. open_state x.1.state) es)))
    by true more = (h.0, more)
    by false more = more

-- an order is put in, open or not
pub open_put : (n : ℕ) (v : OrderEntry) (es : List (ℕ × OrderEntry)) → IsStrictlySortedBy nat_cmp (keys_of es)
    → open_numbers (insert_entry nat_cmp es n v) ≡ marked (open_state v.state) n (open_numbers es)
unfolding IsStrictlySortedBy
open_put n v [] sorted = by (open_state v.state)
  where
    by : (b : Bool) → keys_of (cond b ((n, v) ∷ []) []) ≡ marked b n []
    by true = refl
    by false = refl
open_put n v (e ∷ es) sorted = by (nat_cmp n e.0) refl (open_put n v es sorted.1)
  where
    rest : List (ℕ × OrderEntry)
    rest = filter (λ x. open_state x.1.state) es

    front : (b : Bool) (xs : List (ℕ × OrderEntry))
        → keys_of (cond b ((n, v) ∷ xs) xs) ≡ (if b then n ∷ keys_of xs else keys_of xs)
    front true xs = refl
    front false xs = refl

    in_place : (b c : Bool) → n ≡ e.0 → keys_of (cond b ((e.0, v) ∷ rest) rest) ≡ marked b n (keys_of (cond c (e ∷ rest) rest))
    in_place true true same = sym (marked_there true n e.0 (keys_of rest) (sym same))
    in_place false true same = sym (marked_there false n e.0 (keys_of rest) (sym same))
    in_place true false same =
        ap (λ k. k ∷ keys_of rest) (sym same)
        ∙ sym (marked_first true n (keys_of rest)
        (open_above n es (on_from n e.0 (keys_of es) (omega (arith, same)) sorted.0)))
    in_place false false same =
        sym (marked_first false n (keys_of rest)
        (open_above n es (on_from n e.0 (keys_of es) (omega (arith, same)) sorted.0)))

    later : (c : Bool) (xs : List (ℕ × OrderEntry)) (b : Bool) → e.0 < n → keys_of xs ≡ marked b n (keys_of rest)
        → keys_of (cond c (e ∷ xs) xs) ≡ marked b n (keys_of (cond c (e ∷ rest) rest))
    later true xs b less is = ap (λ l. e.0 ∷ l) is ∙ sym (marked_later b n e.0 (keys_of rest) less)
    later false xs b less is = is

    by : (o : Ordering) → nat_cmp n e.0 ≡ o
        → open_numbers (insert_entry nat_cmp es n v) ≡ marked (open_state v.state) n (open_numbers es)
        → open_numbers (match_ordering o ((n, v) ∷ e ∷ es) ((e.0, v) ∷ es) (e ∷ insert_entry nat_cmp es n v))
        ≡ marked (open_state v.state) n (open_numbers (e ∷ es))
    by Less is more =
        front (open_state v.state) (filter (λ x. open_state x.1.state) (e ∷ es))
        ∙ sym (marked_first (open_state v.state) n (open_numbers (e ∷ es))
        (open_above n (e ∷ es) (is, on_from n e.0 (keys_of es) (omega (arith, less_than n e.0 is)) sorted.0)))
    by Equal is more = in_place (open_state v.state) (open_state e.1.state) (equal_to n e.0 is)
    by Greater is more = later (open_state e.1.state) (filter (λ x. open_state x.1.state) (insert_entry nat_cmp es n v))
        (open_state v.state)
        (subst (λ o. MatchOrdering o (n < e.0) (n ≡ e.0) (e.0 < n)) is (ranks n e.0)) more

pub open_sorted : (es : List (ℕ × OrderEntry)) → IsStrictlySortedBy nat_cmp (keys_of es)
    → IsStrictlySortedBy nat_cmp (open_numbers es)
unfolding IsStrictlySortedBy
open_sorted [] sorted = tt
open_sorted (e ∷ es) sorted = by (open_state e.1.state) (open_sorted es sorted.1)
  where
    by : (b : Bool) → IsStrictlySortedBy nat_cmp (open_numbers es)
        → IsStrictlySortedBy nat_cmp
        (keys_of (cond b (e ∷ filter (λ x. open_state x.1.state) es) (filter (λ x. open_state x.1.state) es)))
    by true more = (open_above e.0 es sorted.0, more)
    by false more = more

-- one order more at the end
pub open_pushed : (es : List (ℕ × OrderEntry)) (e : ℕ × OrderEntry)
    → open_numbers (es ++ e ∷ []) ≡ (if open_state e.1.state then open_numbers es ++ e.0 ∷ [] else open_numbers es)
open_pushed [] e = by (open_state e.1.state)
  where
    by : (b : Bool) → keys_of (cond b (e ∷ []) []) ≡ (if b then e.0 ∷ [] else [])
    by true = refl
    by false = refl
open_pushed (x ∷ es) e = by (open_state x.1.state) (open_state e.1.state) (open_pushed es e)
  where
    by : (b c : Bool) → open_numbers (es ++ e ∷ []) ≡ (if c then open_numbers es ++ e.0 ∷ [] else open_numbers es)
        → keys_of (cond b (x ∷ filter (λ y. open_state y.1.state) (es ++ e ∷ []))
        (filter (λ y. open_state y.1.state) (es ++ e ∷ [])))
        ≡ (if c
        then keys_of (cond b (x ∷ filter (λ y. open_state y.1.state) es) (filter (λ y. open_state y.1.state) es))
        ++ e.0 ∷ []
        else keys_of (cond b (x ∷ filter (λ y. open_state y.1.state) es) (filter (λ y. open_state y.1.state) es)))
    by true true more = ap (λ l. x.0 ∷ l) more
    by true false more = ap (λ l. x.0 ∷ l) more
    by false true more = more
    by false false more = more

-- how many they are
pub open_counted : (es : List (ℕ × OrderEntry)) → length (open_numbers es) ≡ count_by is_open (map order_of es)
open_counted es =
    length-of-map (λ e. e.0) (filter (λ e. open_state e.1.state) es) ∙ length-filter (λ e. open_state e.1.state) es
    ∙ sym (viewed order_of is_open es)

pub few_open : (es : List (ℕ × OrderEntry)) → length (open_numbers es) ≤ length es
few_open [] = omega arith
few_open (e ∷ es) = by (open_state e.1.state) (few_open es)
  where
    by : (b : Bool) → length (open_numbers es) ≤ length es
        → length (keys_of (cond b (e ∷ filter (λ x. open_state x.1.state) es) (filter (λ x. open_state x.1.state) es)))
        ≤ suc (length es)
    by true more = omega (arith, more)
    by false more = omega (arith, more)

-- ---- how many orders there are then

none_above : (n : ℕ) (es : List (ℕ × OrderEntry)) → Each (λ m. nat_cmp n m ≡ Less) (keys_of es)
    → lookup (is_at (nat_cmp n)) es ≡ None
none_above n [] h = refl
none_above n (e ∷ es) h = let more = none_above n es h.1 in let first = h.0 in grind arith

-- one more, or as many where it was there
pub put_sizes : (n : ℕ) (v : OrderEntry) (es : List (ℕ × OrderEntry)) → IsStrictlySortedBy nat_cmp (keys_of es)
    → ((lookup (is_at (nat_cmp n)) es ≡ None) × (length (insert_entry nat_cmp es n v) ≡ length es + 1))
    ⊎ (IsSome (lookup (is_at (nat_cmp n)) es) × (length (insert_entry nat_cmp es n v) ≡ length es))
unfolding IsStrictlySortedBy
put_sizes n v [] sorted = inl (refl, refl)
put_sizes n v (e ∷ es) sorted = by (nat_cmp n e.0) refl (put_sizes n v es sorted.1)
  where
    by : (o : Ordering) → nat_cmp n e.0 ≡ o
        → ((lookup (is_at (nat_cmp n)) es ≡ None) × (length (insert_entry nat_cmp es n v) ≡ length es + 1))
        ⊎ (IsSome (lookup (is_at (nat_cmp n)) es) × (length (insert_entry nat_cmp es n v) ≡ length es))
        → ((cond (is_eq o) (Some e.1) (lookup (is_at (nat_cmp n)) es) ≡ None)
        × (length (match_ordering o ((n, v) ∷ e ∷ es) ((e.0, v) ∷ es) (e ∷ insert_entry nat_cmp es n v))
        ≡ length (e ∷ es) + 1))
        ⊎ (IsSome (cond (is_eq o) (Some e.1) (lookup (is_at (nat_cmp n)) es))
        × (length (match_ordering o ((n, v) ∷ e ∷ es) ((e.0, v) ∷ es) (e ∷ insert_entry nat_cmp es n v))
        ≡ length (e ∷ es)))
    by Less is more = inl (none_above n es (on_from n e.0 (keys_of es) (omega (arith, less_than n e.0 is)) sorted.0), omega arith)
    by Equal is more = inr (refl, refl)
    by Greater is (inl (none, size)) = inl (none, omega (arith, size))
    by Greater is (inr (there, size)) = inr (there, omega (arith, size))

-- ---- an order is put in where there is room

pub fits_put : (n : ℕ) (v : OrderEntry) (es : List (ℕ × OrderEntry)) (room capacity : ℕ)
    → IsStrictlySortedBy nat_cmp (keys_of es) → length es ≤ capacity
    → (lookup (is_at (nat_cmp n)) es ≡ None → 1 ≤ room_for room capacity (length es))
    → length (insert_entry nat_cmp es n v) ≤ capacity
fits_put n v es room capacity sorted within has_room = by (put_sizes n v es sorted)
  where
    by : ((lookup (is_at (nat_cmp n)) es ≡ None) × (length (insert_entry nat_cmp es n v) ≡ length es + 1))
        ⊎ (IsSome (lookup (is_at (nat_cmp n)) es) × (length (insert_entry nat_cmp es n v) ≡ length es))
        → length (insert_entry nat_cmp es n v) ≤ capacity
    by (inl (none, size)) = omega (arith, size, within, has_room none)
    by (inr (there, size)) = omega (arith, size, within)

pub fits_marked : (n : ℕ) (v : OrderEntry) (es : List (ℕ × OrderEntry)) (ms : List ℕ) (b : Bool) (room capacity : ℕ)
    → IsStrictlySortedBy nat_cmp (keys_of es)
    → ms ≡ open_numbers es → b ≡ open_state v.state → length es ≤ capacity
    → (lookup (is_at (nat_cmp n)) es ≡ None → 1 ≤ room_for room capacity (length es)) → length (marked b n ms) ≤ capacity
fits_marked n v es ms b room capacity sorted are is within has_room =
    let same : length (marked b n ms) ≡ length (open_numbers (insert_entry nat_cmp es n v)) =
    (λ i. length (marked (is i) n (are i))) ∙ ap length (sym (open_put n v es sorted)) in
    omega (arith, same, few_open (insert_entry nat_cmp es n v), fits_put n v es room capacity sorted within has_room)

pub no_more_room : (n : ℕ) (v : OrderEntry) (es : List (ℕ × OrderEntry)) (room new capacity : ℕ)
    → IsStrictlySortedBy nat_cmp (keys_of es) → new ≤ room
    → room_for new capacity (length (insert_entry nat_cmp es n v)) ≤ room_for room capacity (length es)
no_more_room n v es room new capacity sorted le = by (put_sizes n v es sorted)
  where
    by : ((lookup (is_at (nat_cmp n)) es ≡ None) × (length (insert_entry nat_cmp es n v) ≡ length es + 1))
        ⊎ (IsSome (lookup (is_at (nat_cmp n)) es) × (length (insert_entry nat_cmp es n v) ≡ length es))
        → room_for new capacity (length (insert_entry nat_cmp es n v)) ≤ room_for room capacity (length es)
    by (inl (none, size)) = omega (arith, size, le)
    by (inr (there, size)) = omega (arith, size, le)

-- ---- the first open order from a number on

-- it is the first open number from there on
first_number : (n : ℕ) (es : List (ℕ × OrderEntry))
    → option_map (λ e. e.0) (find (is_open_from n) es) ≡ find (nat_le n) (open_numbers es)
first_number n [] = refl
first_number n (e ∷ es) = by (open_state e.1.state) (first_number n es)
  where
    at_front : (c : Bool) → option_map (λ e. e.0) (find (is_open_from n) es) ≡ find (nat_le n) (open_numbers es)
        → option_map (λ x. x.0) (if c then Some e else find (is_open_from n) es)
        ≡ (if c then Some e.0 else find (nat_le n) (open_numbers es))
    at_front true more = refl
    at_front false more = more

    by : (b : Bool) → option_map (λ e. e.0) (find (is_open_from n) es) ≡ find (nat_le n) (open_numbers es)
        → option_map (λ x. x.0) (if b && nat_le n e.0 then Some e else find (is_open_from n) es)
        ≡ find (nat_le n) (keys_of (cond b (e ∷ filter (λ x. open_state x.1.state) es) (filter (λ x. open_state x.1.state) es)))
    by true more = at_front (nat_le n e.0) more
    by false more = more

-- who is found stands under its number
found_under : (n : ℕ) (es : List (ℕ × OrderEntry)) (e : ℕ × OrderEntry) → IsStrictlySortedBy nat_cmp (keys_of es)
    → find (is_open_from n) es ≡ Some e
    → lookup (is_at (nat_cmp e.0)) es ≡ Some e.1
unfolding IsStrictlySortedBy
found_under n [] e sorted found = absurd (cc)
found_under n (x ∷ es) e sorted found = by (is_open_from n x) found (λ later. found_under n es e sorted.1 later)
  where
    by : (b : Bool) → (if b then Some x else find (is_open_from n) es) ≡ Some e
        → (find (is_open_from n) es ≡ Some e → lookup (is_at (nat_cmp e.0)) es ≡ Some e.1)
        → cond (is_eq (nat_cmp e.0 x.0)) (Some x.1) (lookup (is_at (nat_cmp e.0)) es) ≡ Some e.1
    by true found more =
        let same : x ≡ e = cc in
        subst (λ (y : ℕ × OrderEntry).
        cond (is_eq (nat_cmp y.0 x.0)) (Some x.1) (lookup (is_at (nat_cmp y.0)) es) ≡ Some y.1) same
        (ap (λ o. cond (is_eq o) (Some x.1) (lookup (is_at (nat_cmp x.0)) es)) (is_equal x.0 x.0 refl))
    by false found more =
        let above =
        each-found (λ (y : ℕ × OrderEntry). nat_cmp x.0 y.0 ≡ Less) (is_open_from n) e es
        (each-unmap (λ k. nat_cmp x.0 k ≡ Less) (λ (y : ℕ × OrderEntry). y.0) es sorted.0) found in
        ap (λ o. cond (is_eq o) (Some x.1) (lookup (is_at (nat_cmp e.0)) es))
        (is_greater e.0 x.0 (less_than x.0 e.0 above)) ∙ more found

pub place_is_first : (n : ℕ) (ms : List ℕ) (place : ℕ) → IsStrictlySortedBy nat_cmp ms → IsPlaceOf n ms place
    → IsFirstFrom n ms place
place_is_first n ms place sorted (within, is) =
    (omega (arith, within), λ k lt. omega (arith, below_from_sorted ms k place 0 sorted lt within, is), λ lt. omega (arith, is))

pub gap_is_first : (n : ℕ) (ms : List ℕ) (place : ℕ) → IsPlaceFor n ms place → IsFirstFrom n ms place
gap_is_first n ms place (within, below, above) = (within, below, λ lt. omega (arith, above place (omega arith) lt))

-- nothing is there, or the number at the place
none_from : (n : ℕ) (ms : List ℕ) (place : ℕ) → IsFirstFrom n ms place → length ms ≤ place → find (nat_le n) ms ≡ None
none_from n [] place h le = refl
none_from n (m ∷ ms) zero h le = absurd (omega (arith, le))
none_from n (m ∷ ms) (suc p) (within, below, first) le =
    let less = below 0 (omega arith) in
    let more =
    none_from n ms p
    (omega (arith, within), λ k lt. below (suc k) (omega (arith, lt)), λ lt. first (omega (arith, lt)))
    (omega (arith, le)) in
    grind arith

there_from : (n : ℕ) (ms : List ℕ) (place : ℕ) → IsFirstFrom n ms place → place < length ms
    → find (nat_le n) ms ≡ Some (get_or ms place 0)
there_from n [] place h lt = absurd (omega (arith, lt))
there_from n (m ∷ ms) zero (within, below, first) lt = let le = first lt in grind arith
there_from n (m ∷ ms) (suc p) (within, below, first) lt =
    let less = below 0 (omega arith) in
    let more =
    there_from n ms p
    (omega (arith, within), λ k lt. below (suc k) (omega (arith, lt)), λ lt. first (omega (arith, lt)))
    (omega (arith, lt)) in
    grind arith

no_number : (x : Option (ℕ × OrderEntry)) → option_map (λ e. e.0) x ≡ None → x ≡ None
no_number None h = refl
no_number (Some e) h = absurd (cc)

a_number : (x : Option (ℕ × OrderEntry)) (m : ℕ) → option_map (λ e. e.0) x ≡ Some m
    → (e : ℕ × OrderEntry) × (x ≡ Some e) × (e.0 ≡ m)
a_number None m h = absurd (cc)
a_number (Some e) m h = (e, refl, cc)

pub none_open : (n : ℕ) (es : List (ℕ × OrderEntry)) (place : ℕ) → IsFirstFrom n (open_numbers es) place
    → length (open_numbers es) ≤ place
    → find (is_open_from n) es ≡ None
none_open n es place h le = no_number (find (is_open_from n) es) (first_number n es ∙ none_from n (open_numbers es) place h le)

pub first_open : (n : ℕ) (es : List (ℕ × OrderEntry)) (place m : ℕ) → IsStrictlySortedBy nat_cmp (keys_of es)
    → IsFirstFrom n (open_numbers es) place
    → slice_get (open_numbers es) place ≡ Some m
    → (v : OrderEntry) × (lookup (is_at (nat_cmp m)) es ≡ Some v) × (find (is_open_from n) es ≡ Some (m, v))
first_open n es place m sorted h there =
    let within = slice_get_within (open_numbers es) place m there in
    let is : get_or (open_numbers es) place 0 ≡ m = get_or_from_slice_get (open_numbers es) place m 0 there in
    let (e, found, same) =
    a_number (find (is_open_from n) es) m
    (first_number n es ∙ there_from n (open_numbers es) place h within ∙ ap Some is) in (
      e.1,
      subst (λ k. lookup (is_at (nat_cmp k)) es ≡ Some e.1) same (found_under n es e sorted found),
      found ∙ ap (λ k. Some (k, e.1)) same,
    )

-- among orders as among their entries
pub open_viewed : (n : ℕ) (es : List (ℕ × OrderEntry))
    → find (λ o. is_open o && nat_le n o.number) (map order_of es) ≡ option_map order_of (find (is_open_from n) es)
open_viewed n [] = refl
open_viewed n (e ∷ es) = by (is_open_from n e) (open_viewed n es)
  where
    by : (b : Bool)
        → find (λ o. is_open o && nat_le n o.number) (map order_of es) ≡ option_map order_of (find (is_open_from n) es)
        → (if b then Some (order_of e) else find (λ o. is_open o && nat_le n o.number) (map order_of es))
        ≡ option_map order_of (if b then Some e else find (is_open_from n) es)
    by true more = refl
    by false more = more
