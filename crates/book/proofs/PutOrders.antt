-- Orders put in by their numbers.
use Rattle.ledger.proofs.Prelude.{Bool, Changes, Command, Each, Effect, FirstFailure, Good, IsSome, IsStrictlySortedBy}
use Rattle.ledger.proofs.Prelude.{IsTotalOrder, Ledger, Less, List, None, Nothing, Opens, Option, Order, Some, Step, []}
use Rattle.ledger.proofs.Prelude.{ap, arith, checks, effect, false, find, flat_map, if◌then◌else◌, inl, inr, is_at}
use Rattle.ledger.proofs.Prelude.{length, lookup, map, nat_cmp, nat_cmp_total, next, on_total, option_map}
use Rattle.ledger.proofs.Prelude.{order_numbered, orders_made, put_rows, refl, steps, steps_of, subst, sym, tied_itself}
use Rattle.ledger.proofs.Prelude.{true, true≢false, ℕ, ◌++◌, ◌==◌, ◌∙◌, ◌∷◌, ◌≡◌, ◌≤◌, turn}
use Rattle.book.proofs.Prelude.{OrderEntry, number_cmp, order_of}
use Rattle.ledger.proofs.Sums.{each-imp}
use Rattle.ledger.proofs.Puts.{Follows, follows-new, follows-one, steps_put}
use Rattle.ledger.proofs.Lists.{each-unmap, find_self, length-of-map}
use Rattle.ledger.proofs.Steps.{EffectGoes, Goes, effect_goes}
use Rattle.book.specs.inner.StepsSeen.{MayBePut}
use Rattle.book.proofs.KeyPlaces.{order_found}
use Rattle.ledger.proofs.NextContent.{flat-one}

number_cmp_total : IsTotalOrder number_cmp
number_cmp_total = on_total (λ o. o.number) nat_cmp_total

map-id : {X : Type 0} (xs : List X) → map (λ x. x) xs ≡ xs
map-id [] = refl
map-id (x ∷ xs) = ap (λ ys. x ∷ ys) (map-id xs)

-- ---- orders, and their rows

order_follows : (b a : Order) → Goes b a → Follows number_cmp (a ∷ []) (b ∷ []) (a ∷ [])
order_follows b a goes =
    follows-one number_cmp true b a (ap (λ n. nat_cmp n b.number) goes.number ∙ tied_itself nat_cmp_total b.number)
    (λ e. absurd (true≢false e))

numbers_sorted : (os : List Order) → IsStrictlySortedBy nat_cmp (map (λ o. o.number) os)
    → IsStrictlySortedBy number_cmp os
unfolding IsStrictlySortedBy
numbers_sorted [] s = tt
numbers_sorted (o ∷ os) s = (each-unmap (λ n. nat_cmp o.number n ≡ Less) (λ o. o.number) os s.0, numbers_sorted os s.1)

-- an order that a command changes is there, and it makes one at most
pub may_be_put : (A : Ledger) (c : Command) (room : ℕ) (made entries : List (ℕ × OrderEntry)) → 1 ≤ room → Good A
    → FirstFailure (checks A c) None → map order_of entries ≡ A.orders → map order_of made ≡ orders_made A c
    → MayBePut room made entries
may_be_put A c room made entries some good passed is makes =
    by (effect c) makes (effect_goes A c good.orders_in_order passed)
  where
    mapped : {X Y : Type 0} (h : X → Y) (x : Option X) → IsSome (option_map h x) → IsSome x
    mapped h None some = some
    mapped h (Some x) some = refl

    has : (e : ℕ × OrderEntry) → IsSome (order_numbered A e.0) → IsSome (lookup (is_at (nat_cmp e.0)) entries)
    has e there =
        mapped (λ v. order_of (e.0, v)) (lookup (is_at (nat_cmp e.0)) entries)
        (subst IsSome (sym (ap (find (λ o. o.number == e.0)) is) ∙ order_found e.0 entries) there)

    changed : (names : Order → Bool) (change : Order → Order) (os : List Order)
        → Each (λ o. order_numbered A o.number ≡ Some o) os → Each (λ o. names o ≡ true → Goes o (change o)) os
        → Each (λ o. IsSome (order_numbered A o.number)) (map (λ s. s.after) (steps (Changes names change) os))
    changed names change [] found goes = tt
    changed names change (o ∷ os) found goes = by (names o) goes.0 (changed names change os found.1 goes.1)
      where
        by : (b : Bool) → (b ≡ true → Goes o (change o))
            → Each (λ o. IsSome (order_numbered A o.number)) (map (λ s. s.after) (steps (Changes names change) os))
            → Each (λ o. IsSome (order_numbered A o.number))
            (map (λ s. s.after) ((if b then turn o (change o) ∷ [] else []) ++ steps (Changes names change) os))
        by true go more =
            (subst (λ n. IsSome (order_numbered A n)) (sym (go refl).number) (subst IsSome (sym found.0) refl), more)
        by false go more = more

    by : (e : Effect) → map order_of made ≡ map (λ s. s.after) (steps e A.orders) → EffectGoes e A.orders
        → MayBePut room made entries
    by Nothing m goes =
        inl ((let same = length-of-map order_of made in let none = ap (λ os. length os) m in omega arith), some)
    by (Opens o) m goes =
        inl ((let same = length-of-map order_of made in let one = ap (λ os. length os) m in omega arith), some)
    by (Changes names change) m goes =
        inr (each-imp has made (each-unmap (λ o. IsSome (order_numbered A o.number)) order_of made
        (subst (Each (λ o. IsSome (order_numbered A o.number))) (sym m)
        (changed names change A.orders (find_self A.orders good.orders_in_order) goes))))

-- the orders that a command makes, put in by their numbers
pub orders_put : (A : Ledger) (c : Command) → Good A
    → IsStrictlySortedBy nat_cmp (map (λ o. o.number) (next A c).orders) → FirstFailure (checks A c) None
    → put_rows number_cmp (orders_made A c) A.orders ≡ (next A c).orders
orders_put A c good sorted passed =
    (λ i. put_rows number_cmp (sym (flat-one (λ (s : Step). s.after) (steps_of A c)) i)
    (sym (flat-one (λ (o : Order). o) A.orders ∙ map-id A.orders) i))
    ∙ steps_put Order number_cmp (λ o. o ∷ []) (λ s. s.after ∷ []) (λ o. follows-new number_cmp (o ∷ []))
    order_follows number_cmp_total (effect c) A.orders
    (subst (IsStrictlySortedBy number_cmp) (sym same) (numbers_sorted (next A c).orders sorted))
    (effect_goes A c good.orders_in_order passed)
    ∙ same
  where
    same : flat_map (λ o. o ∷ []) (next A c).orders ≡ (next A c).orders
    same = flat-one (λ (o : Order). o) (next A c).orders ∙ map-id (next A c).orders
