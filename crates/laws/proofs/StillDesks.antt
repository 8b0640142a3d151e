-- Where no place is free and every open order is firm, nothing moves any more.
use Rattle.ledger.proofs.Prelude.{Bool, Command, Each, Field, FirstFailure, Good, IsSomeAnd, IsStrictlySortedBy, IsTrue}
use Rattle.ledger.proofs.Prelude.{Kept, Ledger, List, None, Option, Order, Reply, Request, Runs, Some, [], accept, ap}
use Rattle.ledger.proofs.Prelude.{arith, checks, count_by, effect, false, if◌then◌else◌, ints, is_lt, is_open}
use Rattle.ledger.proofs.Prelude.{is_settled, map, nat_cmp, new_key, numbered, on, open_orders, order_numbered}
use Rattle.ledger.proofs.Prelude.{orders_after, part_of, places, pos, refl, set_state, settled, settled_part, signed}
use Rattle.ledger.proofs.Prelude.{slice_cmp, sym, total, true, true≢false, ℕ, ℤ, ◌+ℤ◌, ◌+◌, ◌<◌, ◌==◌, ◌∙◌, ◌∷◌, ◌≡◌}
use Rattle.ledger.proofs.Prelude.{◌≤◌}
use Rattle.words.specs.declared.command.Command.TheVariants as command
use Rattle.ledger.specs.declared.limits.TheConstants.{MAX_PLACES}
use Rattle.ledger.specs.declared.order.State.TheVariants.{Committed}
use Rattle.ledger.proofs.Passing.{AllPass, all_pass, along_any, answered, loose_there, open_there}
use Rattle.ledger.proofs.Lists.{counted, each-found, length-insert}
use Rattle.ledger.proofs.Steps.{EffectGoes, effect_goes, numbers_after, one_changes}
use Rattle.ledger.proofs.Sums.{each-imp, each-map}
use Rattle.laws.specs.Still.{IsStill}
use Rattle.laws.proofs.AllOrNothing.{under}

-- one for an order that is open
abbrev counts : Order → ℤ
counts o = if is_open o then pos 1 else pos 0

counted_open : (os : List Order) → pos (count_by is_open os) ≡ total counts os
counted_open [] = refl
counted_open (o ∷ os) = let a = counted is_open o os in let b = counted_open os in grind (arith, ints)

settles : (o : Order) → is_open o ≡ true → o.firm ≡ true → is_settled o ≡ true
settles o live firm = grind arith

-- a firm order has moved what its commit would
firm_moved : (f : Field) (o : Order) → is_open o ≡ true → o.firm ≡ true
    → part_of settled_part f.name (set_state Committed o) ≡ part_of settled_part f.name o
firm_moved f o live firm = ap
    (λ b. total (λ l. if on f.name l then signed l.way (if b then l.used else 0) else pos 0) o.lines)
    (sym (settles o live firm))

-- what is kept along a run
pub record Stays (A : Ledger) : Type 0 where
  pub still : IsStill A
  pub numbers : IsStrictlySortedBy nat_cmp (map (λ o. o.number) A.orders)

abbrev Same : Ledger → Ledger → Type 0
Same A M = Stays M × ((f : Field) → settled M f ≡ settled A f)

no_room : (A : Ledger) (k : ℕ) → Stays A → 1 ≤ k → (MAX_PLACES < places A + open_orders A + k → ⊥) → ⊥
no_room A k now some room = let full = now.still.full in room (omega arith)

module _ (A : Ledger) (key : List ℕ) (now : Stays A) where
  committing : (m : ℕ) (o : Order) → order_numbered A m ≡ Some o → is_open o ≡ true
      → FirstFailure (checks A (command.Commit m)) None → Same A (accept A (under key (command.Commit m)))
  committing m o is live passed = (
    record { still = record { full = full; firm = firm }; numbers = numbers_after (effect c) A.orders goes now.numbers },
    λ f. let e = sums (part_of settled_part f.name) in
        let moved = firm_moved f o live (each-found _ (numbered m) o A.orders now.still.firm is live) in omega (arith, ints),
  )
    where
      c : Command
      c = command.Commit m

      goes : EffectGoes (effect c) A.orders
      goes = effect_goes A c now.numbers passed

      sums : (g : Order → ℤ) → total g (orders_after (effect c) A.orders) +ℤ g o ≡ total g A.orders +ℤ g (set_state Committed o)
      sums g = one_changes g (set_state Committed) m o A.orders now.numbers is

      full : MAX_PLACES ≤ places (accept A (under key c)) + count_by is_open (orders_after (effect c) A.orders)
      full =
          let a = length-insert (λ (a b : Kept). is_lt (slice_cmp nat_cmp a.key b.key)) (new_key A (under key c)) A.kept in
          let b = counted_open A.orders in let d = counted_open (orders_after (effect c) A.orders) in
          let e = sums counts in let one = ap (λ b. if b then pos 1 else pos 0) live in
          let full = now.still.full in omega (arith, ints)

      stays : (o : Order) (b : Bool) → (IsTrue (is_open o) → IsTrue o.firm)
          → IsTrue (is_open (if b then set_state Committed o else o)) → IsTrue (if b then set_state Committed o else o).firm
      stays o true k e = absurd (true≢false (sym e))
      stays o false k e = k e

      firm : Each (λ o. IsTrue (is_open o) → IsTrue o.firm) (orders_after (effect c) A.orders)
      firm = each-map (λ o. IsTrue (is_open o) → IsTrue o.firm) _ A.orders
          (each-imp (λ o k. stays o (o.number == m) k) A.orders now.still.firm)

  not_aborted : (m : ℕ) (x : Option Order) → order_numbered A m ≡ x → IsSomeAnd x (λ o. (is_open o ≡ true) × (o.firm ≡ false)) → ⊥
  not_aborted m None is loose = loose
  not_aborted m (Some o) is loose =
      true≢false (sym (each-found _ (numbered m) o A.orders now.still.firm is loose.0) ∙ loose.1)

  accepted : (c : Command) → FirstFailure (checks A c) None → Same A (accept A (under key c))
  accepted c passed = by c passed (all_pass (checks A c) passed)
    where
      found : (m : ℕ) (x : Option Order) → order_numbered A m ≡ x → IsSomeAnd x (λ o. is_open o ≡ true)
          → FirstFailure (checks A (command.Commit m)) None → Same A (accept A (under key (command.Commit m)))
      found m None is live passed = absurd live
      found m (Some o) is live passed = committing m o is live passed

      by : (c : Command) → FirstFailure (checks A c) None → AllPass (checks A c) → Same A (accept A (under key c))
      by (command.Commit m) passed p = found m (order_numbered A m) refl (open_there _ p.0 p.1.0) passed
      by (command.Abort m) passed p = absurd (not_aborted m (order_numbered A m) refl (loose_there _ p.0 p.1.0 p.1.1.0))
      by (command.Open m v ls) passed p = absurd (no_room A 2 now (omega arith) p.0)
      by (command.Transfer m v a from to q) passed p = absurd (no_room A 2 now (omega arith) p.0)
      by c passed p = absurd (no_room A 1 now (omega arith) p.0)

pub still_desks_stand : (A : Ledger) (rs : List Request) (replies : List Reply) (B : Ledger) → Good A → IsStill A
    → Runs A rs replies B → IsStill B × ((f : Field) → settled B f ≡ settled A f)
still_desks_stand A rs replies B good still run =
    let first : Same A A = (record { still = still; numbers = good.orders_in_order }, λ f. refl) in
    let k = along_any (Same A) (λ M r p N h now. answered M r p N (Same A) h now
    (λ passed. let next = accepted M r.key now.0 r.command passed in (next.0, λ f. next.1 f ∙ now.1 f)))
    A rs replies B run first in
    (k.0.still, k.1)
