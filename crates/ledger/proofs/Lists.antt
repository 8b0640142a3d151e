-- Lists: in order, changed, filtered, and walked element by element.
use Rattle.ledger.proofs.Prelude.{AllZip, Bool, Bor, Each, Equal, IsDistinct, IsSome, IsSomeAnd, IsStrictlySortedBy}
use Rattle.ledger.proofs.Prelude.{IsTotalOrder, IsTrue, Ledger, Less, List, MatchOption, Move, None, Option, Order}
use Rattle.ledger.proofs.Prelude.{Ordering, Some, [], ap, arith, common_steps, count_by, drop, false, filter, find}
use Rattle.ledger.proofs.Prelude.{flat_map, get_or, get_or_from_slice_get, if◌then◌else◌, insert_in_order, ints, is_lt}
use Rattle.ledger.proofs.Prelude.{is_some, length, list_any, list_any-append, map, nat_cmp, nat_eq, nat_lt, not}
use Rattle.ledger.proofs.Prelude.{numbered, pos, recursion_from_All, refl, set, slice_get, slice_get_within, subst, suc}
use Rattle.ledger.proofs.Prelude.{sym, take, take-append-drop, take_all, total, true, true≢false, zero, ℕ, ℤ, ◌++◌}
use Rattle.ledger.proofs.Prelude.{◌+ℤ◌, ◌+◌, ◌<◌, ◌==◌, ◌||◌, ◌↔◌, ◌∙◌, ◌∷◌, ◌≡◌, ◌≤ℤ◌, ◌≤◌}
use Rattle.std.proofs.lemmas.List.Sums.{sum_by-cons}
use Rattle.ledger.proofs.Sums.{each, each-both, each-imp, each-insert, each-map, each-of-push, less_is}
use Rattle.ledger.proofs.Sums.{total-not_negative, total-push, total-zero}
use Rattle.std.proofs.lemmas.Grind.{take_at_read}
use Rattle.std.proofs.lemmas.List.{get_or-set_other, get_or-set_same}
use Rattle.ledger.proofs.TestResults.{no, yes}
use Rattle.std.specs.Bool.{MatchBool}
use Rattle.std.specs.List.{AllWithin, HoldsAt}

-- ---- lists in order, what a change leaves of them, and which elements pass a test

-- ---- lists in order, and what an insertion, an end and a change in place leave of them

pub each-unmap : {X Y : Type 0} (P : Y → Type 0) (h : X → Y) (xs : List X) → Each P (map h xs) → Each (λ x. P (h x)) xs
each-unmap P h [] e = tt
each-unmap P h (x ∷ xs) e = (e.0, each-unmap P h xs e.1)

pub each-two : {X : Type 0} (P Q : X → Type 0) (xs : List X) → Each P xs → Each Q xs → Each (λ x. P x × Q x) xs
each-two P Q [] h k = tt
each-two P Q (x ∷ xs) h k = ((h.0, k.0), each-two P Q xs h.1 k.1)

-- one fact for each value of a parameter
pub each-all : {X Y : Type 0} (P : Y → X → Type 0) (xs : List X) → ((y : Y) → Each (P y) xs)
    → Each (λ x. (y : Y) → P y x) xs
each-all P [] h = tt
each-all P (x ∷ xs) h = ((λ y. (h y).0), each-all P xs (λ y. (h y).1))

-- order

pub sorted-insert : {X K : Type 0} (cmp : K → K → Ordering) → IsTotalOrder cmp → (key : X → K) (p : X → X → Bool)
    → ((a b : X) → p a b ≡ is_lt (cmp (key a) (key b))) → (x : X) (xs : List X)
    → Each (λ y. cmp (key x) (key y) ≡ Equal → ⊥) xs → IsStrictlySortedBy cmp (map key xs)
    → IsStrictlySortedBy cmp (map key (insert_in_order p x xs))
unfolding IsStrictlySortedBy
sorted-insert cmp o key p is x [] none sorted = (tt, tt)
sorted-insert cmp o key p is x (y ∷ ys) none sorted =
    let more = sorted-insert cmp o key p is x ys none.1 sorted.1 in
    grind (arith, (each-unmap (λ k. cmp (key y) k ≡ Less) key ys sorted.0), each-imp, each-insert, each-map)

pub sorted-push : {X K : Type 0} (cmp : K → K → Ordering) (key : X → K) (xs : List X) (x : X)
    → Each (λ y. cmp (key y) (key x) ≡ Less) xs → IsStrictlySortedBy cmp (map key xs)
    → IsStrictlySortedBy cmp (map key (xs ++ x ∷ []))
unfolding IsStrictlySortedBy
sorted-push cmp key [] x less sorted = (tt, tt)
sorted-push cmp key (y ∷ ys) x less sorted = (
  each-map (λ k. cmp (key y) k ≡ Less) key (ys ++ x ∷ [])
      (each-of-push (λ z. cmp (key y) (key z) ≡ Less) ys x (each-unmap (λ k. cmp (key y) k ≡ Less) key ys sorted.0)
      less.0),
  sorted-push cmp key ys x less.1 sorted.1,
)

other_number : (a b : ℕ) → a < b → nat_eq a b ≡ false
other_number a b h = grind arith

other_number' : (a b : ℕ) → a < b → nat_eq b a ≡ false
other_number' a b h = grind arith

pub distinct-insert : {X : Type 0} (key : X → ℕ) (p : X → X → Bool) (x : X) (xs : List X)
    → Each (λ y. key y < key x) xs → IsDistinct nat_eq (map key xs)
    → IsDistinct nat_eq (map key (insert_in_order p x xs))
unfolding IsDistinct
distinct-insert key p x [] less d = (tt, tt)
distinct-insert key p x (y ∷ ys) less d = step (p x y) (distinct-insert key p x ys less.1 d.1)
  where
    step : (b : Bool) → IsDistinct nat_eq (map key (insert_in_order p x ys))
        → IsDistinct nat_eq (map key (if b then x ∷ y ∷ ys else y ∷ insert_in_order p x ys))
    step true more = (
      each-map (λ k. nat_eq (key x) k ≡ false) key (y ∷ ys)
          (each-imp (λ z h. other_number' (key z) (key x) h) (y ∷ ys) less),
      d,
    )
    step false more = (
      each-map (λ k. nat_eq (key y) k ≡ false) key (insert_in_order p x ys)
          (each-insert (λ z. nat_eq (key y) (key z) ≡ false) p x ys (other_number (key y) (key x) less.0)
          (each-unmap (λ k. nat_eq (key y) k ≡ false) key ys d.0)),
      more,
    )

-- lengths and counts

pub length-insert : {X : Type 0} (p : X → X → Bool) (x : X) (xs : List X)
    → length (insert_in_order p x xs) ≡ length xs + 1
length-insert p x [] = refl
length-insert p x (y ∷ ys) = let more = length-insert p x ys in grind arith

pub length-of-map : {X Y : Type 0} (h : X → Y) (xs : List X) → length (map h xs) ≡ length xs
length-of-map h [] = refl
length-of-map h (x ∷ xs) = let e = length-of-map h xs in omega arith

pub length-of-push : {X : Type 0} (xs : List X) (x : X) → length (xs ++ x ∷ []) ≡ length xs + 1
length-of-push [] x = refl
length-of-push (y ∷ ys) x = let e = length-of-push ys x in omega arith

at_most : (b : Bool) → (if b then 1 else 0) ≤ 1
at_most b = grind arith

pub counted : {X : Type 0} (q : X → Bool) (x : X) (xs : List X)
    → count_by q (x ∷ xs) ≡ (if q x then 1 else 0) + count_by q xs
counted q x xs = sum_by-cons (λ x. if q x then 1 else 0) x xs

pub count-insert : {X : Type 0} (q : X → Bool) (p : X → X → Bool) (x : X) (xs : List X)
    → count_by q (insert_in_order p x xs) ≤ count_by q xs + 1
count-insert q p x [] = grind (arith, ints, common_steps, at_most, counted)
count-insert q p x (y ∷ ys) = grind (arith, ints, common_steps, (count-insert q p x ys), at_most, counted)

implied : (b c : Bool) → (b ≡ true → c ≡ true) → (if b then 1 else 0) ≤ (if c then 1 else 0)
implied b c h = grind arith

pub count-map : {X : Type 0} (q : X → Bool) (h : X → X) (xs : List X) → Each (λ x. q (h x) ≡ true → q x ≡ true) xs
    → count_by q (map h xs) ≤ count_by q xs
count-map q h [] e = omega arith
count-map q h (x ∷ xs) e = grind (arith, ints, common_steps, (count-map q h xs e.1), implied, counted)

-- one that is counted is there, and counts no more
pub count-fewer : {X : Type 0} (q t : X → Bool) (new : X → X) (xs : List X) → ((x : X) → q (new x) ≡ false)
    → IsSomeAnd (find t xs) (λ x. q x ≡ true)
    → count_by q (map (λ x. if t x then new x else x) xs) + 1 ≤ count_by q xs
count-fewer q t new [] none h = absurd h
count-fewer q t new (x ∷ xs) none h =
    rw (counted q x xs, counted q (if t x then new x else x) (map (λ x. if t x then new x else x) xs))
    (step (t x) h (count-map q (λ x. if t x then new x else x) xs (each (λ x. stays x (t x)) xs))
    (λ k. count-fewer q t new xs none k))
  where
    stays : (x : _) (b : Bool) → q (if b then new x else x) ≡ true → q x ≡ true
    stays x b e = grind arith

    step : (b : Bool) → IsSomeAnd (if b then Some x else find t xs) (λ x. q x ≡ true)
        → count_by q (map (λ x. if t x then new x else x) xs) ≤ count_by q xs
        → (IsSomeAnd (find t xs) (λ x. q x ≡ true) → count_by q (map (λ x. if t x then new x else x) xs) + 1 ≤ count_by q xs)
        → ((if q (if b then new x else x) then 1 else 0) + count_by q (map (λ x. if t x then new x else x) xs)) + 1
        ≤ (if q x then 1 else 0) + count_by q xs
    step b k all more = grind arith

-- what was found is still found

pub find-insert : {X : Type 0} (q : X → Bool) (p : X → X → Bool) (x : X) (xs : List X) → IsSome (find q xs)
    → IsSome (find q (insert_in_order p x xs))
find-insert q p x [] h = absurd (true≢false (sym h))
find-insert q p x (y ∷ ys) h = step (p x y) (λ k. find-insert q p x ys k)
  where
    by : (b : Bool) → (IsSome (find q ys) → IsSome (find q (insert_in_order p x ys)))
        → IsSome (if b then Some y else find q ys) → IsSome (if b then Some y else find q (insert_in_order p x ys))
    by b more h = grind arith

    step : (b : Bool) → (IsSome (find q ys) → IsSome (find q (insert_in_order p x ys)))
        → IsSome (find q (if b then x ∷ y ∷ ys else y ∷ insert_in_order p x ys))
    step b more = grind arith

pub total-has : {X : Type 0} (g : X → ℤ) → ((x : X) → pos 0 ≤ℤ g x) → (xs : List X) → Each (λ x. g x ≤ℤ total g xs) xs
total-has g h [] = tt
total-has g h (x ∷ xs) = let more = total-has g h xs in grind (arith, (total-not_negative g h xs), each-imp)

-- ---- which of the rows of a list pass a test

-- the rows that pass, one element at a time
pub filter-each : {X R : Type 0} (t : R → Bool) (row made : X → R) (s : X → Bool) (xs : List X)
    → Each (λ x. t (row x) ≡ s x) xs → Each (λ x. s x ≡ true → made x ≡ row x) xs
    → flat_map (λ x. if s x then made x ∷ [] else []) xs ≡ filter t (map row xs)
filter-each t row made s [] h k = refl
filter-each {R = R} t row made s (x ∷ xs) h k = let more = filter-each t row made s xs h.1 k.1 in grind arith

pub some_is : {X : Type 0} (x y : X) → Some x ≡ Some y → x ≡ y
some_is x y e = cc

-- tests over lists

pub or_false : (a b : Bool) → (a || b) ≡ false → (a ≡ false) × (b ≡ false)
or_false x b e = grind arith

pub any_none : {X : Type 0} (t : X → Bool) (xs : List X) → list_any t xs ≡ false → Each (λ x. t x ≡ false) xs
any_none t [] e = tt
any_none t (x ∷ xs) e = let p = or_false (t x) (list_any t xs) e in (p.0, any_none t xs p.1)

pub or_nothing : (b : Bool) → (b || false) ≡ b
or_nothing b = grind arith

pub or_right : (a b : Bool) → b ≡ true → (a || b) ≡ true
or_right x b e = grind arith

pub any-map : {X Y : Type 0} (t : Y → Bool) (h : X → Y) (xs : List X)
    → list_any t (map h xs) ≡ list_any (λ x. t (h x)) xs
any-map t h [] = refl
any-map t h (x ∷ xs) = ap (λ b. t (h x) || b) (any-map t h xs)

pub any_same : {X : Type 0} (s t : X → Bool) (xs : List X) → Each (λ x. s x ≡ t x) xs → list_any s xs ≡ list_any t xs
any_same s t [] h = refl
any_same s t (x ∷ xs) h = λ i. h.0 i || any_same s t xs h.1 i

-- what is found passes
pub found_passes : {X : Type 0} (t : X → Bool) (x : X) (xs : List X) → find t xs ≡ Some x → t x ≡ true
found_passes t x [] there = absurd (true≢false (sym (ap is_some there)))
found_passes {X = X} t x (y ∷ ys) there = grind (arith, (found_passes t x ys))

-- what holds of each holds of the one that is found
pub each-found : {X : Type 0} (P : X → Type 0) (t : X → Bool) (x : X) (xs : List X) → Each P xs → find t xs ≡ Some x
    → P x
each-found P t x [] h e = absurd (true≢false (sym (ap is_some e)))
each-found P t x (y ∷ ys) h e = by (t y) e (λ k. each-found P t x ys h.1 k)
  where
    by : (b : Bool) → (if b then Some y else find t ys) ≡ Some x → (find t ys ≡ Some x → P x) → P x
    by b k more = grind arith

-- ---- the order under a number

pub same_number : (n : ℕ) → (n == n) ≡ true
same_number n = grind arith

pub number_is : (a b : ℕ) → (a == b) ≡ true → a ≡ b
number_is a b e = grind arith

other : (m n k : ℕ) → (m == n) ≡ true → m < k → (k == n) ≡ false
other m n k e h = grind arith

pub not_equal : (n m : ℕ) → (m == n) ≡ false → nat_cmp n m ≡ Equal → ⊥
not_equal n m e h = grind arith

pub lt_is : (a b : ℕ) → nat_lt a b ≡ is_lt (nat_cmp a b)
lt_is a b = grind arith

-- those after the one that has it do not
pub none_after : (n : ℕ) (m : Order) (ms : List Order) → (m.number == n) ≡ true
    → Each (λ y. nat_cmp m.number y ≡ Less) (map (λ o. o.number) ms) → Each (λ k. (k.number == n) ≡ false) ms
none_after n m ms e h = grind (arith, ints, common_steps, each-imp, other, less_is, each-unmap)

-- what is found beside an insertion
pub find-beside : {X : Type 0} (t : X → Bool) (p : X → X → Bool) (x : X) (xs : List X) → t x ≡ false
    → find t (insert_in_order p x xs) ≡ find t xs
find-beside t p x [] e = grind arith
find-beside t p x (y ∷ ys) e = let more = find-beside t p x ys e in grind arith

-- what is found of an insertion, where it was not there
pub find-new : {X : Type 0} (t : X → Bool) (p : X → X → Bool) (x : X) (xs : List X) → t x ≡ true
    → Each (λ y. t y ≡ false) xs → find t (insert_in_order p x xs) ≡ Some x
find-new t p x [] e h = rw e refl
find-new t p x (y ∷ ys) e h = let more = find-new t p x ys e h.1 in grind arith

-- ---- a walk over a list, one element at a time

pub take-step : {X : Type 0} (xs : List X) (i : ℕ) (x : X) → i < length xs → x ≡ get_or xs i x
    → take (i + 1) xs ≡ take i xs ++ x ∷ []
take-step xs i x h e = (take_at_read xs i x h).1 ∙ ap (λ y. take i xs ++ y ∷ []) (sym e)

-- the same, of an element that is read
pub read-step : {X : Type 0} (xs : List X) (i : ℕ) (x : X) → slice_get xs i ≡ Some x
    → take (i + 1) xs ≡ take i xs ++ x ∷ []
read-step xs i x read = take-step xs i x (slice_get_within xs i x read) (sym (get_or_from_slice_get xs i x x read))

pub cut_at : {X : Type 0} (xs : List X) (i : ℕ) (x : X) → i < length xs → x ≡ get_or xs i x
    → xs ≡ (take i xs ++ x ∷ []) ++ drop (i + 1) xs
cut_at xs i x h e = sym (take-append-drop (i + 1) xs) ∙ ap (λ t. t ++ drop (i + 1) xs) (take-step xs i x h e)

-- one element more of a sum
pub total-step : {X : Type 0} (g : X → ℤ) (xs : List X) (i : ℕ) (x : X) → i < length xs → x ≡ get_or xs i x
    → total g (take (i + 1) xs) ≡ total g (take i xs) +ℤ g x
total-step g xs i x h e = ap (total g) (take-step xs i x h e) ∙ total-push g (take i xs) x

pub each-left : {X : Type 0} (P : X → Type 0) (xs ys : List X) → Each P (xs ++ ys) → Each P xs
each-left P [] ys k = tt
each-left P (x ∷ xs) ys k = (k.0, each-left P xs ys k.1)

pub each-right : {X : Type 0} (P : X → Type 0) (xs ys : List X) → Each P (xs ++ ys) → Each P ys
each-right P [] ys k = k
each-right P (x ∷ xs) ys k = each-right P xs ys k.1

each-last : {X : Type 0} (P : X → Type 0) (xs : List X) (x : X) → Each P (xs ++ x ∷ []) → P x
each-last P [] x k = k.0
each-last P (y ∷ ys) x k = each-last P ys x k.1

-- what holds of each holds of the one that the walk is at
pub each-at : {X : Type 0} (P : X → Type 0) (xs : List X) (i : ℕ) (x : X) → i < length xs → x ≡ get_or xs i x
    → Each P xs → P x
each-at P xs i x h e k = grind (arith, ints, common_steps, each-last, each-left, cut_at)

-- what holds of each so far holds of one more
pub each-next : {X : Type 0} (P : X → Type 0) (xs : List X) (i : ℕ) (x : X) → i < length xs → x ≡ get_or xs i x
    → Each P (take i xs) → P x → Each P (take (i + 1) xs)
each-next P xs i x h e all p = subst (Each P) (sym (take-step xs i x h e)) (each-of-push P (take i xs) x all p)

pub each-end : {X : Type 0} (P : X → Type 0) (xs : List X) (i : ℕ) → length xs ≤ i → Each P (take i xs) → Each P xs
each-end P xs i past all = subst (Each P) (take_all i xs past) all

-- ---- the entries of a good ledger

pub few_sorted : (first last : ℕ) (ms : List Move) → first ≤ last → Each (λ m. first < m.place) ms
    → Each (λ m. m.place ≤ last) ms → IsStrictlySortedBy nat_cmp (map (λ m. m.place) ms) → length ms + first ≤ last
unfolding IsStrictlySortedBy
few_sorted first last [] h a b s = omega arith
few_sorted first last (m ∷ ms) h a b s =
    let more = few_sorted m.place last ms b.0 (each-imp (λ x e. less_is m.place x.place e) ms
    (each-unmap (λ k. nat_cmp m.place k ≡ Less) (λ x. x.place) ms s.0)) b.1 s.1 in
    grind arith

-- ---- two lists whose elements go together

pub zip-push : {X Y : Type 0} (P : X → Y → Type 0) (xs : List X) (ys : List Y) (x : X) (y : Y) → AllZip P xs ys
    → P x y → AllZip P (xs ++ x ∷ []) (ys ++ y ∷ [])
zip-push P [] [] x y h p = (p, tt)
zip-push P [] (b ∷ ys) x y h p = absurd h
zip-push P (a ∷ xs) [] x y h p = absurd h
zip-push P (a ∷ xs) (b ∷ ys) x y h p = (h.0, zip-push P xs ys x y h.1 p)

pub zip-length : {X Y : Type 0} (P : X → Y → Type 0) (xs : List X) (ys : List Y) → AllZip P xs ys
    → length xs ≡ length ys
zip-length P [] [] h = omega arith
zip-length P [] (y ∷ ys) h = absurd h
zip-length P (x ∷ xs) [] h = absurd h
zip-length P (x ∷ xs) (y ∷ ys) h = let e = zip-length P xs ys h.1 in omega arith

pub zip-map : {X Y U V : Type 0} (P : X → Y → Type 0) (Q : U → V → Type 0) (f : X → U) (g : Y → V)
    → ((x : X) (y : Y) → P x y → Q (f x) (g y)) → (xs : List X) (ys : List Y) → AllZip P xs ys
    → AllZip Q (map f xs) (map g ys)
zip-map P Q f g to [] [] h = tt
zip-map P Q f g to [] (y ∷ ys) h = absurd h
zip-map P Q f g to (x ∷ xs) [] h = absurd h
zip-map P Q f g to (x ∷ xs) (y ∷ ys) h = (to x y h.0, zip-map P Q f g to xs ys h.1)

pub zip-take : {X Y : Type 0} (P : X → Y → Type 0) (i : ℕ) (xs : List X) (ys : List Y) → AllZip P xs ys
    → AllZip P (take i xs) (take i ys)
zip-take P zero xs ys h = tt
zip-take P (suc i) [] [] h = tt
zip-take P (suc i) [] (y ∷ ys) h = absurd h
zip-take P (suc i) (x ∷ xs) [] h = absurd h
zip-take P (suc i) (x ∷ xs) (y ∷ ys) h = (h.0, zip-take P i xs ys h.1)

pub zip-drop : {X Y : Type 0} (P : X → Y → Type 0) (i : ℕ) (xs : List X) (ys : List Y) → AllZip P xs ys
    → AllZip P (drop i xs) (drop i ys)
zip-drop P zero xs ys h = h
zip-drop P (suc i) [] [] h = tt
zip-drop P (suc i) [] (y ∷ ys) h = absurd h
zip-drop P (suc i) (x ∷ xs) [] h = absurd h
zip-drop P (suc i) (x ∷ xs) (y ∷ ys) h = zip-drop P i xs ys h.1

pub get-of-map : {X Y : Type 0} (f : X → Y) (xs : List X) (i : ℕ) (d : X) (e : Y) → i < length xs
    → get_or (map f xs) i e ≡ f (get_or xs i d)
get-of-map f [] i d e lt = absurd (omega arith)
get-of-map f (x ∷ xs) zero d e lt = refl
get-of-map f (x ∷ xs) (suc i) d e lt = get-of-map f xs i d e (omega arith)

-- ---- a walk that changes each element in place

-- the elements so far are changed, and the rest is as it was
abbrev pub walked : {X : Type 0} → (X → X) → ℕ → List X → List X
walked f i xs = map f (take i xs) ++ drop i xs

pub walk_item : {X : Type 0} (f : X → X) (xs : List X) (i : ℕ) (d : X) → get_or (walked f i xs) i d ≡ get_or xs i d
walk_item f [] zero d = refl
walk_item f [] (suc i) d = refl
walk_item f (x ∷ xs) zero d = refl
walk_item f (x ∷ xs) (suc i) d = walk_item f xs i d

walk_next : {X : Type 0} (f : X → X) (xs : List X) (i : ℕ) (d new : X) → i < length xs → new ≡ f (get_or xs i d)
    → set (walked f i xs) i new ≡ walked f (suc i) xs
walk_next f [] i d new lt e = absurd (omega arith)
walk_next f (x ∷ xs) zero d new lt e = ap (λ y. y ∷ xs) e
walk_next f (x ∷ xs) (suc i) d new lt e = ap (λ ys. f x ∷ ys) (walk_next f xs i d new (omega arith) e)

-- one element more is changed
pub walk_step : {X : Type 0} (f : X → X) (xs ys : List X) (i : ℕ) (d new : X) → i < length xs → ys ≡ walked f i xs
    → new ≡ f (get_or ys i d) → set ys i new ≡ walked f (i + 1) xs
walk_step f xs ys i d new lt w e = grind (arith, walk_next, walk_item, walked)

pub walk_end : {X : Type 0} (f : X → X) (xs : List X) (i : ℕ) → length xs ≤ i → walked f i xs ≡ map f xs
walk_end f [] zero h = refl
walk_end f [] (suc i) h = refl
walk_end f (x ∷ xs) zero h = absurd (omega arith)
walk_end f (x ∷ xs) (suc i) h = ap (λ ys. f x ∷ ys) (walk_end f xs i (omega arith))

-- ---- a walk whose elements are seen through a view

-- ---- a walk that leaves what is seen

-- an element is replaced by one of which the same holds
pub each_get : {X : Type 0} (P : X → Type 0) (xs : List X) (i : ℕ) (d : X) → i < length xs → Each P xs
    → P (get_or xs i d)
each_get P [] i d lt each = absurd (omega arith)
each_get P (x ∷ xs) zero d lt each = each.0
each_get P (x ∷ xs) (suc i) d lt each = each_get P xs i d (omega arith) each.1

pub each_set : {X : Type 0} (P : X → Type 0) (xs : List X) (i : ℕ) (d x : X) → i < length xs → Each P xs
    → (P (get_or xs i d) → P x) → Each P (set xs i x)
each_set P [] i d x lt h p = absurd (omega arith)
each_set P (y ∷ ys) zero d x lt h p = (p h.0, h.1)
each_set P (y ∷ ys) (suc i) d x lt h p = (h.0, each_set P ys i d x (omega arith) h.1 p)

-- ---- the first element that passes a test, found by a walk

-- what a walk answers that looks for the first
pub find-first : {X : Type 0} (p : X → Bool) (r : Option (Bor X)) (xs : List X)
    → MatchOption r (AllWithin (λ x. p x ≡ false) xs 0 (length xs))
    (λ x. (p x.now ≡ true) × (i : ℕ) × (i < length xs) × HoldsAt (λ y. y ≡ x.now) xs i × AllWithin (λ x. p x ≡ false) xs 0 i)
    → MatchOption r (find p xs ≡ None) (λ x. find p xs ≡ Some x.now)
find-first p None [] all = refl
find-first p None (x ∷ xs) all =
    rw (all 0 x (omega arith) (omega arith)) (find-first p None xs (λ k d low lt. all (suc k) d (omega arith) (omega arith)))
find-first p (Some x) [] (is, i, lt, at, all) = absurd (omega arith)
find-first p (Some x) (y ∷ ys) (is, zero, lt, at, all) = rw (at y, is) refl
find-first p (Some x) (y ∷ ys) (is, suc i, lt, at, all) =
    rw (all 0 y (omega arith) (omega arith))
    (find-first p (Some x) ys (is, i, omega arith, at, λ k d low below. all (suc k) d (omega arith) (omega arith)))

-- the same, of a walk that tells whether there is one, among what the elements are mapped to
pub find-any : {X Y : Type 0} (p : Y → Bool) (h : X → Y) (r : Bool) (xs : List X)
    → MatchBool r ((k : ℕ) × (k < length xs) × HoldsAt (λ x. p (h x) ≡ true) xs k)
    (AllWithin (λ x. p (h x) ≡ false) xs 0 (length xs))
    → r ≡ is_some (find p (map h xs))
find-any p h false [] all = refl
find-any p h false (x ∷ xs) all =
    rw (all 0 x (omega arith) (omega arith)) (find-any p h false xs (λ k d low lt. all (suc k) d (omega arith) (omega arith)))
find-any p h true [] (k, lt, at) = absurd (omega arith)
find-any p h true (x ∷ xs) (zero, lt, at) = rw (at x) refl
find-any p h true (x ∷ xs) (suc k, lt, at) = let more = find-any p h true xs (k, omega arith, at) in grind arith

-- the element, or else d
abbrev pub from_some : {X : Type 0} → X → Option X → X
from_some d None = d
from_some d (Some x) = x

-- ---- which numbers are among the places so far

-- the place of one is not among those before it
pub not_before : {X : Type 0} (key : X → ℕ) (xs : List X) (i : ℕ) (d : X) → i < length xs
    → IsDistinct nat_eq (map key xs) → list_any (λ x. nat_eq (key x) (key (get_or xs i d))) (take i xs) ≡ false
unfolding IsDistinct
not_before key [] i d lt apart = absurd (omega arith)
not_before key (x ∷ xs) zero d lt apart = refl
not_before key (x ∷ xs) (suc i) d lt apart =
    let away =
    each_get (λ y. nat_eq (key x) (key y) ≡ false) xs i d (omega arith)
    (each-unmap (λ k. nat_eq (key x) k ≡ false) key xs apart.0) in
    rw away (not_before key xs i d (omega arith) apart.1)

push_apart : {X : Type 0} (key : X → ℕ) (xs : List X) (x : X) → IsDistinct nat_eq (map key xs)
    → Each (λ y. nat_eq (key y) (key x) ≡ false) xs → IsDistinct nat_eq (map key (xs ++ x ∷ []))
unfolding IsDistinct
push_apart key [] x apart off = (tt, tt)
push_apart key (y ∷ ys) x apart off = grind (arith, ints, common_steps, (push_apart key ys x apart.1 off.1))

-- one more, whose place is not among them
pub apart_next : {X : Type 0} (key : X → ℕ) (xs : List X) (i : ℕ) (x : X) → i < length xs → x ≡ get_or xs i x
    → IsDistinct nat_eq (map key (take i xs)) → list_any (λ y. nat_eq (key y) (key x)) (take i xs) ≡ false
    → IsDistinct nat_eq (map key (take (i + 1) xs))
apart_next key xs i x lt is apart off =
    subst (λ ys. IsDistinct nat_eq (map key ys)) (sym (take-step xs i x lt is))
    (push_apart key (take i xs) x apart (any_none (λ y. nat_eq (key y) (key x)) (take i xs) off))

-- its mark is set
pub marks_next : {X : Type 0} (key : X → ℕ) (xs : List X) (i : ℕ) (x : X) (marks : List Bool) (p : ℕ) → i < length xs
    → x ≡ get_or xs i x → key x < length marks
    → get_or marks p true ≡ list_any (λ y. nat_eq (key y) p) (take i xs)
    → get_or (set marks (key x) true) p true ≡ list_any (λ y. nat_eq (key y) p) (take (i + 1) xs)
marks_next key xs i x marks p lt is within h =
    grind (arith, (take-step xs i x lt is), get_or-set_other, get_or-set_same, list_any-append)

-- what a walk answers that tests each element
pub tested : {X : Type 0} (P : X → Type 0) (r : Bool) (xs : List X)
    → MatchBool r (AllWithin P xs 0 (length xs)) ((k : ℕ) × (k < length xs) × HoldsAt (λ x. P x → ⊥) xs k)
    → IsTrue r ↔ Each P xs
tested P true xs all = yes (recursion_from_All P xs (λ k d lt. all k d (omega arith) lt))
tested {X} P false xs (k, lt, not) = no (λ each. at xs k lt not each)
  where
    at : (ys : List X) (k : ℕ) → k < length ys → HoldsAt (λ x. P x → ⊥) ys k → Each P ys → ⊥
    at [] k lt not each = omega arith
    at (y ∷ ys) k lt not each = not y (each_get P (y ∷ ys) k y lt each)

pub each-tested : {X Y : Type 0} (P : Y → Type 0) (view : X → Y) (r : Bool) (xs : List X)
    → MatchBool r (AllWithin (λ x. P (view x)) xs 0 (length xs)) ((k : ℕ) × (k < length xs) × HoldsAt (λ x. P (view x) → ⊥) xs k)
    → IsTrue r ↔ Each P (map view xs)
each-tested P view r xs found =
    let each = tested (λ x. P (view x)) r xs found in
    ((λ t. each-map P view xs (each.0 t)), λ all. each.1 (each-unmap P view xs all))

-- the orders stand in the order of their numbers
abbrev pub NumbersInOrder : Ledger → Type 0
NumbersInOrder A = IsStrictlySortedBy nat_cmp (map (λ o. o.number) A.orders)

-- at most one element passes the test
abbrev pub AtMostOne : {X : Type 0} → (X → Bool) → List X → Type 0
AtMostOne t [] = Unit {0}
AtMostOne t (x ∷ xs) = (t x ≡ true → Each (λ y. t y ≡ false) xs) × AtMostOne t xs

-- what holds of the one that is found holds of each that passes
pub at_one : {X : Type 0} (t : X → Bool) (P : X → Type 0) (xs : List X) → AtMostOne t xs
    → ((x : X) → find t xs ≡ Some x → P x) → Each (λ x. t x ≡ true → P x) xs
at_one t P [] one h = tt
at_one {X} t P (x ∷ xs) one h = (λ e. h x (rw e refl), by (t x) refl (λ k. at_one t P xs one.1 k))
  where
    by : (b : Bool) → t x ≡ b → (((y : X) → find t xs ≡ Some y → P y) → Each (λ y. t y ≡ true → P y) xs)
        → Each (λ y. t y ≡ true → P y) xs
    by true e more = each-imp (λ y off yes. absurd (true≢false (sym yes ∙ off))) xs (one.0 e)
    by false e more = more (λ y k. h y (rw e k))

-- a sum to which the one that passes gives z, and the others nothing
pub total-one : {X : Type 0} (t : X → Bool) (g : X → ℤ) (z : ℤ) (xs : List X) → AtMostOne t xs
    → ((x : X) → t x ≡ true → g x ≡ z) → ((x : X) → t x ≡ false → g x ≡ pos 0) → IsSome (find t xs) → total g xs ≡ z
total-one t g z [] one at off some = absurd (true≢false (sym some))
total-one t g z (x ∷ xs) one at off some = by (t x) refl some (λ k. total-one t g z xs one.1 at off k)
  where
    by : (b : Bool) → t x ≡ b → IsSome (if b then Some x else find t xs) → (IsSome (find t xs) → total g xs ≡ z)
        → g x +ℤ total g xs ≡ z
    by true e some more =
        let here = at x e in let rest = total-zero g xs (each-imp off xs (one.0 e)) in omega (arith, ints)
    by false e some more = let here = off x e in let rest = more some in omega (arith, ints)

-- what holds of the order under the number holds of each that has it
one_number : (n : ℕ) (os : List Order) → IsStrictlySortedBy nat_cmp (map (λ o. o.number) os) → AtMostOne (numbered n) os
unfolding IsStrictlySortedBy
one_number n [] sorted = tt
one_number n (o ∷ os) sorted = ((λ e. none_after n o os e sorted.0), one_number n os sorted.1)

pub at_number : (P : Order → Type 0) (n : ℕ) (os : List Order) → IsStrictlySortedBy nat_cmp (map (λ o. o.number) os)
    → IsSomeAnd (find (λ o. o.number == n) os) P → Each (λ o. (o.number == n) ≡ true → P o) os
at_number P n os sorted there =
    at_one (numbered n) P os (one_number n os sorted) (λ o e. subst (λ x. IsSomeAnd x P) e there)

-- what holds of each, and what holds of the one that is found
pub found_both : {X : Type 0} {P Q R : X → Type 0} (t : X → Bool) (xs : List X)
    → ((x : X) → P x → Q x → R x) → Each P xs → IsSomeAnd (find t xs) Q → IsSomeAnd (find t xs) R
found_both t [] both h found = absurd found
found_both {X} {P} {Q} {R} t (x ∷ xs) both h found = grind (arith, ints, common_steps, (found_both t xs both h.1))

-- an order is found under its number
pub find_self : (os : List Order) → IsStrictlySortedBy nat_cmp (map (λ o. o.number) os)
    → Each (λ o. find (λ e. e.number == o.number) os ≡ Some o) os
unfolding IsStrictlySortedBy
find_self [] sorted = tt
find_self (o ∷ os) sorted = (here, each-both (λ m a e. step m a e) os (unmap os sorted.0) (find_self os sorted.1))
  where
    here : find (λ e. e.number == o.number) (o ∷ os) ≡ Some o
    here = let e : (o.number == o.number) ≡ true = grind arith in rw e refl

    unmap : (ms : List Order) → Each (λ y. nat_cmp o.number y ≡ Less) (map (λ o. o.number) ms)
        → Each (λ m. o.number < m.number) ms
    unmap [] h = tt
    unmap (m ∷ ms) h = (less_is o.number m.number h.0, unmap ms h.1)

    step : (m : Order) → o.number < m.number → find (λ e. e.number == m.number) os ≡ Some m
        → find (λ e. e.number == m.number) (o ∷ os) ≡ Some m
    step m a e = let d : (o.number == m.number) ≡ false = grind arith in rw d e
