-- What stays of a ledger that is rolled up with its last K keys: the orders of recent deals.
use Rattle.ledger.proofs.Prelude.{Bool, Command, Each, Good, IsSome, IsSomeAnd, IsStrictlySortedBy, IsTrue, Kept}
use Rattle.ledger.proofs.Prelude.{Ledger, Less, List, MatchOption, None, Option, Order, Request, Some, [], ap, arith}
use Rattle.ledger.proofs.Prelude.{bytes_decides, bytes_eq, cond, count_by, false, filter, find, if◌then◌else◌, is_eq}
use Rattle.ledger.proofs.Prelude.{is_eq-slice_cmp, is_open, is_some, kept_under, length, list_any, map, nat_cmp, nat_le}
use Rattle.ledger.proofs.Prelude.{nat_lt, numbered, open_orders, option_map_or, order_numbered, refl, slice_cmp}
use Rattle.ledger.proofs.Prelude.{subst, sym, true, true≢false, ◌&&◌, ◌+◌, ◌<◌, ◌==◌, ◌||◌, ◌↔◌, ◌∙◌, ◌∷◌, ◌≡◌}
use Rattle.ledger.proofs.Prelude.{◌≤◌, ℕ}
use Rattle.words.specs.declared.command.Command.TheVariants as command
use Rattle.ledger.specs.Rolled.{first_of_deals, gone, is_recent, is_recent_deal, last_keys, lowered, named_order}
use Rattle.ledger.specs.Rolled.{names_order, rolled, rolled_order, stays}
use Rattle.ledger.proofs.Lists.{counted, each-found, each-two, each-unmap, found_passes, length-of-map, some_is}
use Rattle.ledger.proofs.Sums.{each-both, each-imp, less_is}
use Rattle.laws.specs.Deals.{Names}
use Rattle.laws.specs.Roll.{NamesNothingGone, KeptStands, KeyStands, Knows, OrderStands, StandsFor}
use Rattle.laws.proofs.Filtered.{find-taken}
use Rattle.laws.proofs.Rolled.{few_left, places_left, stands_left}

-- ---- the order that a command names

some_iff : (m n : ℕ) → (Some m ≡ Some n) ↔ (m ≡ n)
some_iff m n = (some_is m n, λ e. ap Some e)

none_iff : (n : ℕ) → (None ≡ Some n) ↔ ⊥
none_iff n = (λ e. absurd (true≢false (sym (ap is_some e))), λ e. absurd e)

pub named_iff : (c : Command) (n : ℕ) → (named_order c ≡ Some n) ↔ Names c n
named_iff (command.Field b a lo hi start) n = none_iff n
named_iff (command.Deliver b a q) n = none_iff n
named_iff (command.Writeoff b a q) n = none_iff n
named_iff (command.Rebound b a lo hi) n = none_iff n
named_iff (command.Open m until lines) n = some_iff m n
named_iff (command.Transfer m until a from to q) n = some_iff m n
named_iff (command.More m way b a q) n = some_iff m n
named_iff (command.Use m b a q) n = some_iff m n
named_iff (command.Release m b a q) n = some_iff m n
named_iff (command.Commit m) n = some_iff m n
named_iff (command.Abort m) n = some_iff m n
named_iff (command.Firm m) n = some_iff m n
named_iff (command.Expire now) n = none_iff n

-- ---- how many orders of recent deals there are

none_counted : (os : List Order) → count_by (λ o. false) os ≤ 0
none_counted [] = omega arith
none_counted (o ∷ os) = let more = none_counted os in let c = counted (λ o. false) o os in omega arith

counted_within : (s t : Order → Bool) (os : List Order) → count_by (λ o. s o && t o) os ≤ count_by t os
counted_within s t [] = omega arith
counted_within s t (o ∷ os) =
    let more = counted_within s t os in
    let c = counted (λ o. s o && t o) o os in let d = counted t o os in by (s o) (t o) c d more
  where
    by : (b c : Bool)
        → count_by (λ o. s o && t o) (o ∷ os) ≡ (if b && c then 1 else 0) + count_by (λ o. s o && t o) os
        → count_by t (o ∷ os) ≡ (if c then 1 else 0) + count_by t os
        → count_by (λ o. s o && t o) os ≤ count_by t os → count_by (λ o. s o && t o) (o ∷ os) ≤ count_by t (o ∷ os)
    by true true x y more = omega arith
    by true false x y more = omega arith
    by false true x y more = omega arith
    by false false x y more = omega arith

counted_either : (s t : Order → Bool) (os : List Order)
    → count_by (λ o. s o || t o) os ≤ count_by s os + count_by t os
counted_either s t [] = omega arith
counted_either s t (o ∷ os) =
    let more = counted_either s t os in
    let x = counted (λ o. s o || t o) o os in let y = counted s o os in let z = counted t o os in
    by (s o) (t o) x y z more
  where
    by : (b c : Bool)
        → count_by (λ o. s o || t o) (o ∷ os) ≡ (if b || c then 1 else 0) + count_by (λ o. s o || t o) os
        → count_by s (o ∷ os) ≡ (if b then 1 else 0) + count_by s os
        → count_by t (o ∷ os) ≡ (if c then 1 else 0) + count_by t os
        → count_by (λ o. s o || t o) os ≤ count_by s os + count_by t os
        → count_by (λ o. s o || t o) (o ∷ os) ≤ count_by s (o ∷ os) + count_by t (o ∷ os)
    by true true x y z more = omega arith
    by true false x y z more = omega arith
    by false true x y z more = omega arith
    by false false x y z more = omega arith

none_above : (m : ℕ) (os : List Order) → Each (λ o. m < o.number) os → count_by (λ o. m == o.number) os ≤ 0
none_above m [] above = omega arith
none_above m (o ∷ os) above =
    let more = none_above m os above.1 in let c = counted (λ o. m == o.number) o os in let l = above.0 in
    let e : (m == o.number) ≡ false = grind arith in by (m == o.number) e c more
  where
    by : (b : Bool) → b ≡ false
        → count_by (λ o. m == o.number) (o ∷ os) ≡ (if b then 1 else 0) + count_by (λ o. m == o.number) os
        → count_by (λ o. m == o.number) os ≤ 0 → count_by (λ o. m == o.number) (o ∷ os) ≤ 0
    by true e c more = absurd (true≢false e)
    by false e c more = omega arith

abbrev InOrder : List Order → Type 0
InOrder os = IsStrictlySortedBy nat_cmp (map (λ o. o.number) os)

one_numbered : (m : ℕ) (os : List Order) → InOrder os → count_by (λ o. m == o.number) os ≤ 1
unfolding IsStrictlySortedBy
one_numbered m [] sorted = omega arith
one_numbered m (o ∷ os) sorted =
    by (m == o.number) refl (counted (λ o. m == o.number) o os) (one_numbered m os sorted.1)
  where
    above : Each (λ p. o.number < p.number) os
    above = each-imp (λ p e. less_is o.number p.number e) os
        (each-unmap (λ y. nat_cmp o.number y ≡ Less) (λ p. p.number) os sorted.0)

    is : (m == o.number) ≡ true → m ≡ o.number
    is e = grind arith

    by : (b : Bool) → (m == o.number) ≡ b
        → count_by (λ o. m == o.number) (o ∷ os) ≡ (if b then 1 else 0) + count_by (λ o. m == o.number) os
        → count_by (λ o. m == o.number) os ≤ 1 → count_by (λ o. m == o.number) (o ∷ os) ≤ 1
    by true e c more =
        let none = none_above m os (subst (λ n. Each (λ p. n < p.number) os) (sym (is e)) above) in omega arith
    by false e c more = omega arith

-- a command names one order at the most
one_named : (c : Command) (os : List Order) → InOrder os → count_by (λ o. names_order o.number c) os ≤ 1
one_named c os sorted = by (named_order c)
  where
    by : (x : Option ℕ) → count_by (λ o. option_map_or (λ m. m == o.number) x false) os ≤ 1
    by None = let none = none_counted os in omega arith
    by (Some m) = one_numbered m os sorted

few_named : (ks : List Kept) (os : List Order) → InOrder os
    → count_by (λ o. list_any (λ k. names_order o.number k.command) ks) os ≤ length ks
few_named [] os sorted = none_counted os
few_named (k ∷ ks) os sorted =
    let one = one_named k.command os sorted in let more = few_named ks os sorted in
    let both = counted_either (λ o. names_order o.number k.command)
    (λ o. list_any (λ k. names_order o.number k.command) ks) os in
    omega arith

-- ---- what a ledger rolled up knows

module _ (K : ℕ) (A : Ledger) (good : Good A) where
  abbrev recent : Order → Bool
  recent = is_recent_deal K A

  pub orders_few : length (rolled K A).orders ≤ open_orders A + K
  orders_few =
      let left = few_left recent K A in
      let within = counted_within (λ o. nat_le first_of_deals o.number) (λ o. is_recent K A o.number) A.orders in
      let named = few_named (last_keys K A) A.orders good.orders_in_order in
      let keys = length-of-map (lowered (gone K A)) (last_keys K A) in
      let places = places_left recent K A good in
      omega arith

  -- an order that stays is found
  stays_found : (n : ℕ) (x : Option Order) → order_numbered A n ≡ x
      → MatchOption x (Unit {0}) (λ o. IsTrue (stays recent o)) → IsSome x → IsSome (order_numbered (rolled K A) n)
  stays_found n None e stay some = absurd (true≢false (sym some))
  stays_found n (Some o) e stay some = by (order_numbered (rolled K A) n) refl
    where
      goes : order_numbered (rolled K A) n ≡ None → Each (λ o. numbered n o ≡ true → stays recent o ≡ false) A.orders
      goes = find-taken (numbered n) rolled_order (stays recent) (λ o. refl) A.orders

      by : (y : Option Order) → order_numbered (rolled K A) n ≡ y → IsSome y
      by (Some p) there = refl
      by None there = absurd (true≢false (sym stay
          ∙ each-found (λ o. numbered n o ≡ true → stays recent o ≡ false) (numbered n) o A.orders (goes there) e
          (found_passes (numbered n) o A.orders e)))

  -- the order of a deal that one of the last K commands names
  pub recent_found : (n : ℕ) → first_of_deals ≤ n → IsTrue (is_recent K A n) → IsSome (order_numbered A n)
      → IsSome (order_numbered (rolled K A) n)
  recent_found n le named some = stays_found n (order_numbered A n) refl (stay (order_numbered A n) refl) some
    where
      is : (o : Order) → (o.number == n) ≡ true → n ≡ o.number
      is o e = grind arith

      of_deal : (b : Bool) (m : ℕ) → n ≡ m → (b || (nat_le first_of_deals m && is_recent K A m)) ≡ true
      of_deal b m e = subst (λ m. (b || (nat_le first_of_deals m && is_recent K A m)) ≡ true) e
          (or_both b (nat_le first_of_deals n) (is_recent K A n) (grind arith) named)
        where
          or_both : (b c d : Bool) → c ≡ true → d ≡ true → (b || (c && d)) ≡ true
          or_both b c d x y = grind arith

      stay : (x : Option Order) → order_numbered A n ≡ x → MatchOption x (Unit {0}) (λ o. IsTrue (stays recent o))
      stay None e = tt
      stay (Some o) e = of_deal (is_open o) o.number (is o (found_passes (numbered n) o A.orders e))

  pub knows_last : (r : Request) → NamesNothingGone K A r → Knows A (rolled K A) r
  knows_last r asks = record {
    key = key_by (kept_under A r.key) (kept_under (rolled K A) r.key) ((stands_left recent K A good).kept r.key)
        asks.key;
    order = λ n named some. stays_found n (order_numbered A n) refl (asks.order n named) some;
  }
    where
      key_by : (x y : Option Kept) → KeyStands (gone K A) x y → MatchOption x (Unit {0}) (λ k. gone K A < k.place)
          → IsSome x → IsSome y
      key_by None y t last some = absurd (true≢false (sym some))
      key_by (Some k) None t last some = absurd (omega arith)
      key_by (Some k) (Some j) t last some = refl

-- ---- where one ledger stands for another, what is recent in it is recent in the other

pub kept_self : (ks : List Kept) → IsStrictlySortedBy (slice_cmp nat_cmp) (map (λ k. k.key) ks)
    → Each (λ k. find (λ j. bytes_eq j.key k.key) ks ≡ Some k) ks
unfolding IsStrictlySortedBy
kept_self [] sorted = tt
kept_self (k ∷ ks) sorted = (
  here,
  each-both (λ m less e. step m less e) ks
      (each-unmap (λ y. slice_cmp nat_cmp k.key y ≡ Less) (λ k. k.key) ks sorted.0) (kept_self ks sorted.1),
)
  where
    here : find (λ j. bytes_eq j.key k.key) (k ∷ ks) ≡ Some k
    here = let e : bytes_eq k.key k.key ≡ true = (bytes_decides k.key k.key).1 refl in rw e refl

    step : (m : Kept) → slice_cmp nat_cmp k.key m.key ≡ Less → find (λ j. bytes_eq j.key m.key) ks ≡ Some m
        → find (λ j. bytes_eq j.key m.key) (k ∷ ks) ≡ Some m
    step m less e =
        let d : bytes_eq k.key m.key ≡ false = sym (is_eq-slice_cmp k.key m.key) ∙ ap is_eq less in rw d e

-- what is found among all, and passes both tests
any_found : (q u t : Kept → Bool) (k : Kept) (ks : List Kept) → find q ks ≡ Some k → u k ≡ true → t k ≡ true
    → list_any t (filter u ks) ≡ true
any_found q u t k [] found x y = absurd (true≢false (sym (ap is_some found)))
any_found q u t k (j ∷ ks) found x y = by (q j) refl found (λ e. any_found q u t k ks e x y)
  where
    either : (b c : Bool) → b ≡ true → (b || c) ≡ true
    either b c e = grind arith

    or_more : (b c : Bool) → c ≡ true → (b || c) ≡ true
    or_more b c e = grind arith

    more_too : (b : Bool) → list_any t (filter u ks) ≡ true → list_any t (cond b (j ∷ filter u ks) (filter u ks)) ≡ true
    more_too true e = or_more (t j) (list_any t (filter u ks)) e
    more_too false e = e

    here : (b : Bool) → b ≡ true → t j ≡ true → list_any t (cond b (j ∷ filter u ks) (filter u ks)) ≡ true
    here true e p = either (t j) (list_any t (filter u ks)) p
    here false e p = absurd (true≢false (sym e))

    by : (b : Bool) → q j ≡ b → (if b then Some j else find q ks) ≡ Some k
        → (find q ks ≡ Some k → list_any t (filter u ks) ≡ true)
        → list_any t (cond (u j) (j ∷ filter u ks) (filter u ks)) ≡ true
    by true e found more =
        let is : k ≡ j = sym (some_is j k found) in
        here (u j) (subst (λ k. u k ≡ true) is x) (subst (λ k. t k ≡ true) is y)
    by false e found more = more_too (u j) (more found)

-- if some pass both tests, what follows from one of these holds
any_then : (Q : Type 0) (u t : Kept → Bool) (ks : List Kept) → list_any t (filter u ks) ≡ true
    → Each (λ k. u k ≡ true → t k ≡ true → Q) ks → Q
any_then Q u t [] any all = absurd (true≢false (sym any))
any_then Q u t (k ∷ ks) any all = by (u k) refl (t k) refl any (λ e. any_then Q u t ks e all.1)
  where
    by : (b : Bool) → u k ≡ b → (c : Bool) → t k ≡ c → list_any t (cond b (k ∷ filter u ks) (filter u ks)) ≡ true
        → (list_any t (filter u ks) ≡ true → Q) → Q
    by true e true f any more = all.0 e f
    by true e false f any more = more (sym (ap (λ b. b || list_any t (filter u ks)) f) ∙ any)
    by false e c f any more = more any

module _ (K d : ℕ) (A C : Ledger) (gc : Good C) (s : StandsFor d A C) where
  above_both : (k j : Kept) → k.place ≡ j.place + d → 1 ≤ j.place → nat_lt (gone K C) j.place ≡ true
      → nat_lt (gone K A) k.place ≡ true
  above_both k j at first e = let p = s.places in grind arith

  one_recent : (n : ℕ) (j : Kept) → (kept_under C j.key ≡ Some j) × (1 ≤ j.place) → nat_lt (gone K C) j.place ≡ true
      → names_order n j.command ≡ true → is_recent K A n ≡ true
  one_recent n j there above named =
      by (kept_under A j.key) refl (subst (λ y. KeyStands d (kept_under A j.key) y) there.0 (s.kept j.key))
    where
      by : (x : Option Kept) → kept_under A j.key ≡ x → IsSomeAnd x (λ k. KeptStands d k j) → is_recent K A n ≡ true
      by None e h = absurd h
      by (Some k) e h = any_found (λ i. bytes_eq i.key j.key) (λ i. nat_lt (gone K A) i.place)
          (λ i. names_order n i.command) k A.kept e (above_both k j h.place there.1 above)
          (subst (λ c. names_order n c ≡ true) h.command named)

  recent_too : (n : ℕ) → is_recent K C n ≡ true → is_recent K A n ≡ true
  recent_too n any = any_then (is_recent K A n ≡ true) (λ k. nat_lt (gone K C) k.place) (λ k. names_order n k.command)
      C.kept any (each-imp (λ j there. one_recent n j there) C.kept
      (each-two _ _ C.kept (kept_self C.kept gc.kept_in_order)
      (each-imp (λ k r. r.0) C.kept gc.places_in_range)))

  pub recent_both : (o p : Order) → OrderStands o p → is_recent_deal K C p ≡ true → is_recent_deal K A o ≡ true
  recent_both o p t named = subst (λ n. (nat_le first_of_deals n && is_recent K A n) ≡ true) t.number
      (and_then (nat_le first_of_deals p.number) (is_recent K C p.number) (is_recent K A p.number) (recent_too p.number)
      named)
    where
      and_then : (a b c : Bool) → (b ≡ true → c ≡ true) → (a && b) ≡ true → (a && c) ≡ true
      and_then true b c to e = to e
      and_then false b c to e = e
