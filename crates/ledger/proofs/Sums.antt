-- Sums of whole numbers over lists, term by term.
use Rattle.ledger.proofs.Prelude.{Bool, Each, Ledger, Less, List, MatchOrdering, Name, None, Order, Some, [], ap, arith}
use Rattle.ledger.proofs.Prelude.{common_steps, false, find, flat_map, if◌then◌else◌, insert_in_order, ints, map}
use Rattle.ledger.proofs.Prelude.{nat_cmp, places, pos, ranks, refl, subst, total, ℕ, ℤ, ◌++◌, ◌+ℤ◌, ◌+◌, ◌<◌, ◌==◌}
use Rattle.ledger.proofs.Prelude.{◌∷◌, ◌≡◌, ◌≤ℤ◌}

pub total-le : {X : Type 0} (f g : X → ℤ) (xs : List X) → Each (λ x. f x ≤ℤ g x) xs → total f xs ≤ℤ total g xs
total-le f g [] h = omega (arith, ints)
total-le f g (x ∷ xs) h = grind (arith, ints, common_steps, (total-le f g xs h.1))

pub total-eq : {X : Type 0} (f g : X → ℤ) (xs : List X) → Each (λ x. f x ≡ g x) xs → total f xs ≡ total g xs
total-eq f g [] h = refl
total-eq f g (x ∷ xs) h = grind (arith, ints, common_steps, (total-eq f g xs h.1))

pub total-sum : {X : Type 0} (f g : X → ℤ) (xs : List X) → total (λ x. f x +ℤ g x) xs ≡ total f xs +ℤ total g xs
total-sum f g [] = refl
total-sum f g (x ∷ xs) = grind (arith, ints, common_steps, (total-sum f g xs))

pub total-map : {X Y : Type 0} (f : Y → ℤ) (h : X → Y) (xs : List X) → total f (map h xs) ≡ total (λ x. f (h x)) xs
total-map f h [] = refl
total-map f h (x ∷ xs) = ap (λ z. f (h x) +ℤ z) (total-map f h xs)

pub total-zero : {X : Type 0} (f : X → ℤ) (xs : List X) → Each (λ x. f x ≡ pos 0) xs → total f xs ≡ pos 0
total-zero f [] h = refl
total-zero f (x ∷ xs) h = grind (arith, ints, common_steps, (total-zero f xs h.1))

-- what each element gives, one at a time
pub each : {X : Type 0} {P : X → Type 0} → ((x : X) → P x) → (xs : List X) → Each P xs
each p [] = tt
each p (x ∷ xs) = (p x, each p xs)

pub each-imp : {X : Type 0} {P Q : X → Type 0} → ((x : X) → P x → Q x) → (xs : List X) → Each P xs → Each Q xs
each-imp p [] h = tt
each-imp p (x ∷ xs) h = (p x h.0, each-imp p xs h.1)

pub each-both : {X : Type 0} {P Q R : X → Type 0} → ((x : X) → P x → Q x → R x) → (xs : List X) → Each P xs
    → Each Q xs → Each R xs
each-both p [] h k = tt
each-both p (x ∷ xs) h k = (p x h.0 k.0, each-both p xs h.1 k.1)

pub each-map : {X Y : Type 0} (P : Y → Type 0) (h : X → Y) (xs : List X) → Each (λ x. P (h x)) xs → Each P (map h xs)
each-map P h [] e = tt
each-map P h (x ∷ xs) e = (e.0, each-map P h xs e.1)

pub each-of-push : {X : Type 0} (P : X → Type 0) (xs : List X) (x : X) → Each P xs → P x → Each P (xs ++ x ∷ [])
each-of-push P [] x h k = (k, tt)
each-of-push P (y ∷ ys) x h k = (h.0, each-of-push P ys x h.1 k)

pub least_if : (b : Bool) (z : ℤ) → pos 0 ≤ℤ z → pos 0 ≤ℤ (if b then z else pos 0)
least_if b z h = grind arith

pub total-insert : {X : Type 0} (g : X → ℤ) (p : X → X → Bool) (x : X) (xs : List X)
    → total g (insert_in_order p x xs) ≡ g x +ℤ total g xs
total-insert g p x [] = refl
total-insert g p x (y ∷ ys) = grind (arith, ints, common_steps, (total-insert g p x ys))

pub total-push : {X : Type 0} (g : X → ℤ) (xs : List X) (x : X) → total g (xs ++ x ∷ []) ≡ total g xs +ℤ g x
total-push g [] x = omega (arith, ints)
total-push g (y ∷ ys) x = grind (arith, ints, common_steps, (total-push g ys x))

pub each-insert : {X : Type 0} (P : X → Type 0) (p : X → X → Bool) (x : X) (xs : List X) → P x → Each P xs
    → Each P (insert_in_order p x xs)
each-insert P p x [] h k = (h, tt)
each-insert P p x (y ∷ ys) h k = let more = each-insert P p x ys h k.1 in grind arith

-- no element passes the test
pub none_found : {X : Type 0} (p : X → Bool) (xs : List X) → find p xs ≡ None → Each (λ x. p x ≡ false) xs
none_found p [] e = tt
none_found p (x ∷ xs) e = step (p x) refl e (λ k. none_found p xs k)
  where
    step : (b : Bool) → p x ≡ b → (if b then Some x else find p xs) ≡ None
        → (find p xs ≡ None → Each (λ x. p x ≡ false) xs) → Each (λ x. p x ≡ false) (x ∷ xs)
    step b t e k = grind arith

pub total-append : {X : Type 0} (g : X → ℤ) (xs ys : List X) → total g (xs ++ ys) ≡ total g xs +ℤ total g ys
total-append g [] ys = omega (arith, ints)
total-append g (x ∷ xs) ys = let more = total-append g xs ys in omega (arith, ints)

pub each-append : {X : Type 0} (P : X → Type 0) (xs ys : List X) → Each P xs → Each P ys → Each P (xs ++ ys)
each-append P [] ys h k = k
each-append P (x ∷ xs) ys h k = (h.0, each-append P xs ys h.1 k)

pub less_is : (a b : ℕ) → nat_cmp a b ≡ Less → a < b
less_is a b e = subst (λ r. MatchOrdering r (a < b) (a ≡ b) (b < a)) e (ranks a b)

pub each-flat : {X Y : Type 0} (P : Y → Type 0) (f : X → List Y) (xs : List X) → Each (λ x. Each P (f x)) xs
    → Each P (flat_map f xs)
each-flat P f [] h = tt
each-flat P f (x ∷ xs) h = each-append P (f x) (flat_map f xs) h.0 (each-flat P f xs h.1)

pub total-flat : {X Y : Type 0} (g : Y → ℤ) (f : X → List Y) (xs : List X)
    → total g (flat_map f xs) ≡ total (λ x. total g (f x)) xs
total-flat g f [] = refl
total-flat g f (x ∷ xs) = grind (arith, ints, common_steps, (total-flat g f xs), total-append)

-- ---- ledgers with one entry changed

-- the order under the number changed
abbrev pub change_order : ℕ → (Order → Order) → Ledger → Ledger
change_order n change A = record A { orders = map (λ o. if o.number == n then change o else o) A.orders }

-- one move more, at the next place
abbrev pub with_move : Name → ℤ → Ledger → Ledger
with_move f amount A = record A { moves = A.moves ++ record { place = places A + 1; field = f; amount = amount } ∷ [] }

-- an element of a sum of what is not negative is at most the sum
pub total-not_negative : {X : Type 0} (g : X → ℤ) → ((x : X) → pos 0 ≤ℤ g x) → (xs : List X) → pos 0 ≤ℤ total g xs
total-not_negative g h [] = omega (arith, ints)
total-not_negative g h (x ∷ xs) = grind (arith, ints, common_steps, (total-not_negative g h xs))
