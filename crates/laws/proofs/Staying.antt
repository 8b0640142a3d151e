-- A ledger that stands for another still does after each request, and so after a run.
use Rattle.ledger.proofs.Prelude.{Answers, Bool, Changes, Command, Each, Effect, Field, FirstFailure, Good, IsInRange}
use Rattle.ledger.proofs.Prelude.{IsKey, IsNone, IsSome, IsSomeAnd, IsStrictlySortedBy, Kept, Ledger, Less, List, Name}
use Rattle.ledger.proofs.Prelude.{None, Nothing, Opens, Option, Order, Refused, Reply, Request, Runs, Some, [], accept}
use Rattle.ledger.proofs.Prelude.{ap, arith, bytes_decides, bytes_eq, checks, common_steps, effect, expires, false}
use Rattle.ledger.proofs.Prelude.{field_named, find, if◌then◌else◌, inl, inr, insert_in_order, ints, is_lt, is_settled}
use Rattle.ledger.proofs.Prelude.{kept_under, line_name, lower_held, map, moved_by_command, name_cmp, name_of, nat_cmp}
use Rattle.ledger.proofs.Prelude.{nat_le, nat_lt, new_key, next, not, numbered, on, open_state, option_map}
use Rattle.ledger.proofs.Prelude.{order_numbered, orders_after, part_of, pos, raise_used, refl, same_name, settled_part}
use Rattle.ledger.proofs.Prelude.{slice_cmp, subst, sym, total, true, true≢false, ◌&&◌, ◌+ℤ◌, ◌<◌, ◌==◌, ◌∙◌, ◌∷◌, ◌≡◌}
use Rattle.ledger.proofs.Prelude.{◌≢◌, ◌⊎◌, ℕ, ℤ}
use Rattle.std.specs.List.{AllZip}
use Rattle.words.specs.declared.command.Command.TheVariants as command
use Rattle.words.specs.declared.reply.Refusal.TheVariants as refusal
use Rattle.ledger.specs.Next.{clock_after, fields_after, insert_order, with_bounds}
use Rattle.ledger.proofs.Falls.{Fine, fit_from_good}
use Rattle.ledger.proofs.FieldNames.{name_is}
use Rattle.ledger.proofs.Goodness.{good_answer}
use Rattle.ledger.proofs.Lists.{at_number, each-unmap, find-beside, find-new, length-insert, zip-map}
use Rattle.ledger.proofs.Passing.{AllPass, Usable, all_pass, loose_there, open_there, usable_there}
use Rattle.ledger.proofs.Steps.{EffectGoes, effect_goes, expired, found_changed, found_opened, keeps_numbers}
use Rattle.ledger.proofs.Sums.{each, each-both, each-imp, less_is, none_found, total-insert, total-push, total-zero}
use Rattle.laws.specs.Deals.{Names}
use Rattle.ledger.specs.Rolled.{is_recent_deal, rolled, gone}
use Rattle.laws.specs.Roll.{KeyStands, NamesNothingGone, FieldStands, Knows, OrderStands, OrdersStand, StandsFor}
use Rattle.laws.specs.Roll.{raise_reply}
use Rattle.laws.proofs.AnsweredAlike.{answered_alike}
use Rattle.laws.proofs.Recent.{knows_last}
use Rattle.laws.proofs.Rolled.{good_left, stands_left}
use Rattle.laws.proofs.Standing.{skip}
use Rattle.laws.proofs.Turning.{NamesAlike, Turns, changed_settle, aborts_alike, changed_stand, commits_alike}
use Rattle.laws.proofs.Turning.{firms_alike, hold_turns, lines_new, part_turns, release_alike, use_alike, used_on}

-- ---- the orders

abbrev pub EffectAlike : Effect → List Order → Type 0
EffectAlike Nothing os = Unit {0}
EffectAlike (Opens o) os = Unit {0}
EffectAlike (Changes names change) os = NamesAlike names × Each (Turns names change) os

numbered_alike : (n : ℕ) → NamesAlike (numbered n)
numbered_alike n o p s = ap (λ m. m == n) s.number

expires_alike : (now : ℕ) → NamesAlike (expires now)
expires_alike now o p s = λ i. open_state (s.state i) && not (s.firm i) && nat_le (s.until i) now

one_turns : (A : Ledger) (n : ℕ) (change : Order → Order) (P : Order → Type 0) → Good A
    → ((o : Order) → Fine o → P o → (p : Order) → OrderStands o p → OrderStands (change o) (change p)
    × ((f : Name) → used_on f (change o) +ℤ used_on f p ≡ used_on f (change p) +ℤ used_on f o))
    → IsSomeAnd (order_numbered A n) P → EffectAlike (Changes (numbered n) change) A.orders
one_turns A n change P good turn there = (
  numbered_alike n,
  each-both (λ o fine x e p s. turn o fine (x e) p s) A.orders (fit_from_good A good).orders
      (at_number P n A.orders good.orders_in_order there),
)

pub effect_alike : (A : Ledger) (c : Command) → Good A → FirstFailure (checks A c) None
    → EffectAlike (effect c) A.orders
effect_alike A c good passed = by c (all_pass (checks A c) passed)
  where
    by : (c : Command) → AllPass (checks A c) → EffectAlike (effect c) A.orders
    by (command.Open n until lines) p = tt
    by (command.Transfer n until a from to q) p = tt
    by (command.More n way b a q) p = one_turns A n _ _ good
        (λ o fine x p s. hold_turns (record { way = way; branch = b; article = a; qty = q }) o p s)
        (open_there _ p.1.0 p.1.1.0)
    by (command.Use n b a q) p = one_turns A n _ (Usable (name_of b a) q) good
        (λ o fine u p s. part_turns q (raise_used q) (use_alike q) (name_of b a) o p fine u s)
        (usable_there (name_of b a) q (order_numbered A n) p.1.0 p.1.1.0 p.1.1.1.0 p.1.1.1.1.0)
    by (command.Release n b a q) p = one_turns A n _ (Usable (name_of b a) q) good
        (λ o fine u p s. part_turns q (lower_held q) (release_alike q) (name_of b a) o p fine u s)
        (usable_there (name_of b a) q (order_numbered A n) p.1.0 p.1.1.0 p.1.1.1.0 p.1.1.1.1.0)
    by (command.Commit n) p = one_turns A n _ _ good (λ o fine x p s. commits_alike o p s) (open_there _ p.0 p.1.0)
    by (command.Abort n) p = one_turns A n _ _ good (λ o fine x p s. aborts_alike o p x s)
        (loose_there _ p.0 p.1.0 p.1.1.0)
    by (command.Firm n) p = one_turns A n _ _ good (λ o fine x p s. firms_alike o p x s) (open_there _ p.1.0 p.1.1.0)
    by (command.Expire now) p = (expires_alike now, each (λ o e p s. aborts_alike o p (expired now o e) s) A.orders)
    by c p = tt

-- a new order

above_stand : (k : ℕ) (os ps : List Order) → OrdersStand os ps → Each (λ m. k < m.number) os
    → Each (λ m. k < m.number) ps
above_stand k [] [] s above = tt
above_stand k [] (p ∷ ps) s above = absurd s
above_stand k (o ∷ os) [] s above = tt
above_stand k (o ∷ os) (p ∷ ps) (inl s) above =
    (subst (λ m. k < m) (sym s.0.number) above.0, above_stand k os ps s.1 above.1)
above_stand k (o ∷ os) (p ∷ ps) (inr s) above = above_stand k os (p ∷ ps) s.1 above.1

pub order_new : (o : Order) → OrderStands o o
order_new o = record {
  number = refl;
  kind = refl;
  until = refl;
  state = refl;
  firm = refl;
  lines = lines_new (is_settled o) o.lines;
}

opened_stand : (o : Order) (os ps : List Order) → OrdersStand os ps
    → IsStrictlySortedBy nat_cmp (map (λ o. o.number) os) → OrdersStand (insert_order o os) (insert_order o ps)
unfolding IsStrictlySortedBy
opened_stand o [] [] s sorted = inl (order_new o, tt)
opened_stand o [] (p ∷ ps) s sorted = absurd s
opened_stand o (x ∷ os) [] s sorted = by (nat_lt o.number x.number) (opened_stand o os [] s.1 sorted.1)
  where
    by : (b : Bool) → OrdersStand (insert_order o os) (o ∷ [])
        → OrdersStand (if b then o ∷ x ∷ os else x ∷ insert_order o os) (o ∷ [])
    by true more = inl (order_new o, s)
    by false more = inr (s.0, more)
opened_stand o (x ∷ os) (p ∷ ps) (inl s) sorted =
    by (nat_lt o.number x.number) (nat_lt o.number p.number) (ap (nat_lt o.number) s.0.number)
    (opened_stand o os ps s.1 sorted.1)
  where
    by : (b c : Bool) → c ≡ b → OrdersStand (insert_order o os) (insert_order o ps)
        → OrdersStand (if b then o ∷ x ∷ os else x ∷ insert_order o os)
        (if c then o ∷ p ∷ ps else p ∷ insert_order o ps)
    by true true e more = inl (order_new o, inl s)
    by true false e more = absurd (true≢false (sym e))
    by false true e more = absurd (true≢false e)
    by false false e more = inl (s.0, more)
opened_stand o (x ∷ os) (p ∷ ps) (inr s) sorted =
    by (nat_lt o.number x.number) refl (nat_lt o.number p.number) refl (opened_stand o os (p ∷ ps) s.1 sorted.1)
  where
    above : Each (λ m. x.number < m.number) (p ∷ ps)
    above = above_stand x.number os (p ∷ ps) s.1 (each-imp (λ m e. less_is x.number m.number e) os
        (each-unmap (λ y. nat_cmp x.number y ≡ Less) (λ o. o.number) os sorted.0))

    before : nat_lt o.number x.number ≡ true → nat_lt o.number p.number ≡ true
    before e = let l = above.0 in grind arith

    by : (b : Bool) → nat_lt o.number x.number ≡ b → (c : Bool) → nat_lt o.number p.number ≡ c
        → OrdersStand (insert_order o os) (if c then o ∷ p ∷ ps else p ∷ insert_order o ps)
        → OrdersStand (if b then o ∷ x ∷ os else x ∷ insert_order o os)
        (if c then o ∷ p ∷ ps else p ∷ insert_order o ps)
    by true e true d more = inl (order_new o, inr s)
    by true e false d more = absurd (true≢false (sym (before e) ∙ d))
    by false e c d more = skip x _ _ s.0 more

orders_stand : (e : Effect) (os ps : List Order) → OrdersStand os ps
    → IsStrictlySortedBy nat_cmp (map (λ o. o.number) os) → EffectGoes e os → EffectAlike e os
    → OrdersStand (orders_after e os) (orders_after e ps)
orders_stand Nothing os ps s sorted go turns = s
orders_stand (Opens o) os ps s sorted go turns = opened_stand o os ps s sorted
orders_stand (Changes names change) os ps s sorted go turns = changed_stand names change turns.0 os ps s go turns.1

orders_settle : (f : Name) (e : Effect) (os ps : List Order) → OrdersStand os ps → EffectGoes e os → EffectAlike e os
    → total (part_of settled_part f) (orders_after e os) +ℤ total (part_of settled_part f) ps
    ≡ total (part_of settled_part f) (orders_after e ps) +ℤ total (part_of settled_part f) os
orders_settle f Nothing os ps s go turns = omega (arith, ints)
orders_settle f (Opens o) os ps s go turns =
    let a = total-insert (part_of settled_part f) (λ a b. nat_lt a.number b.number) o os in
    let b = total-insert (part_of settled_part f) (λ a b. nat_lt a.number b.number) o ps in
    omega (arith, ints)
orders_settle f (Changes names change) os ps s go turns =
    changed_settle names change turns.0 f os ps s go turns.1

-- ---- the fields

zip-imp : {X Y : Type 0} (P Q : X → Y → Type 0) → ((x : X) (y : Y) → P x y → Q x y) → (xs : List X) (ys : List Y)
    → AllZip P xs ys → AllZip Q xs ys
zip-imp P Q to [] [] h = tt
zip-imp P Q to [] (y ∷ ys) h = absurd h
zip-imp P Q to (x ∷ xs) [] h = absurd h
zip-imp P Q to (x ∷ xs) (y ∷ ys) h = (to x y h.0, zip-imp P Q to xs ys h.1)

zip-insert : {X Y : Type 0} (P : X → Y → Type 0) (p : X → X → Bool) (q : Y → Y → Bool) (x : X) (y : Y) → P x y
    → ((a : X) (b : Y) → P a b → q y b ≡ p x a) → (xs : List X) (ys : List Y) → AllZip P xs ys
    → AllZip P (insert_in_order p x xs) (insert_in_order q y ys)
zip-insert P p q x y new same [] [] h = (new, tt)
zip-insert P p q x y new same [] (b ∷ ys) h = absurd h
zip-insert P p q x y new same (a ∷ xs) [] h = absurd h
zip-insert P p q x y new same (a ∷ xs) (b ∷ ys) h =
    by (p x a) (q y b) (same a b h.0) (zip-insert P p q x y new same xs ys h.1)
  where
    by : (c e : Bool) → e ≡ c → AllZip P (insert_in_order p x xs) (insert_in_order q y ys)
        → AllZip P (if c then x ∷ a ∷ xs else a ∷ insert_in_order p x xs)
        (if e then y ∷ b ∷ ys else b ∷ insert_in_order q y ys)
    by true true e more = (new, h)
    by true false e more = absurd (true≢false (sym e))
    by false true e more = absurd (true≢false e)
    by false false e more = (h.0, more)

abbrev moved_on : Ledger → Name → ℤ
moved_on A n = total (λ m. if same_name n m.field then m.amount else pos 0) A.moves

abbrev settled_on : Ledger → Name → ℤ
settled_on A n = total (part_of settled_part n) A.orders

-- on a field that is not there nothing is moved or settled
nothing_on : (A : Ledger) → Good A → (n : Name) → (IsSome (field_named A n) → ⊥)
    → (moved_on A n ≡ pos 0) × (settled_on A n ≡ pos 0)
nothing_on A good n none = (
  total-zero _ A.moves (each-imp (λ m x. if_off (same_name n m.field) m.amount (off m.field x.field)) A.moves
      good.moves),
  total-zero _ A.orders (each-imp (λ o x. total-zero _ o.lines
      (each-imp (λ l y. if_off (on n l) _ (off (line_name l) y.field)) o.lines x.lines)) A.orders good.orders),
)
  where
    off : (m : Name) → IsSome (field_named A m) → same_name n m ≡ false
    off m some = by (same_name n m) refl
      where
        by : (b : Bool) → same_name n m ≡ b → b ≡ false
        by true e = absurd (none (subst (λ k. IsSome (field_named A k)) (sym (name_is n m e)) some))
        by false e = refl

    if_off : (b : Bool) (z : ℤ) → b ≡ false → (if b then z else pos 0) ≡ pos 0
    if_off true z e = absurd (true≢false e)
    if_off false z e = refl

moves_next : (A : Ledger) (c : Command) (f : Name) → moved_on (next A c) f ≡ moved_on A f +ℤ moved_by_command f c
moves_next A c f = grind (arith, ints, common_steps, total-push)

numbers_next : (x y : ℕ) (ma mb mc md mv sa sb sc sd : ℤ) → (pos y +ℤ mb) +ℤ sb ≡ (pos x +ℤ ma) +ℤ sa → mc ≡ ma +ℤ mv
    → md ≡ mb +ℤ mv → sc +ℤ sb ≡ sd +ℤ sa → (pos y +ℤ md) +ℤ sd ≡ (pos x +ℤ mc) +ℤ sc
numbers_next x y ma mb mc md mv sa sb sc sd e c d s = omega (arith, ints)

-- ---- the next ledgers

kept_next : (A : Ledger) (r : Request) (key : List ℕ) → IsNone (kept_under A r.key)
    → kept_under (accept A r) key ≡ (if bytes_eq r.key key then Some (new_key A r) else kept_under A key)
kept_next A r key none = by (bytes_eq r.key key) refl
  where
    p : Kept → Kept → Bool
    p a b = is_lt (slice_cmp nat_cmp a.key b.key)

    no_other : (x : Option Kept) → IsNone x → x ≡ None
    no_other None e = refl
    no_other (Some k) e = absurd (true≢false e)

    by : (b : Bool) → bytes_eq r.key key ≡ b
        → kept_under (accept A r) key ≡ (if b then Some (new_key A r) else kept_under A key)
    by true e = find-new (λ k. bytes_eq k.key key) p (new_key A r) A.kept e
        (subst (λ x. Each (λ k. bytes_eq k.key x ≡ false) A.kept) ((bytes_decides r.key key).0 e)
        (none_found (λ k. bytes_eq k.key r.key) A.kept (no_other _ none)))
    by false e = find-beside (λ k. bytes_eq k.key key) p (new_key A r) A.kept e

some_after : (n : ℕ) (e : Effect) (os ps : List Order) → EffectGoes e os → EffectGoes e ps
    → (IsSome (find (numbered n) os) → IsSome (find (numbered n) ps))
    → IsSome (find (numbered n) (orders_after e os)) → IsSome (find (numbered n) (orders_after e ps))
some_after n Nothing os ps go goes there some = there some
some_after n (Opens o) os ps go goes there some =
    subst (λ x. IsSome x) (sym (found_opened n o ps goes))
    (by (o.number == n) (subst (λ x. IsSome x) (found_opened n o os go) some))
  where
    by : (b : Bool) → IsSome (if b then Some o else find (numbered n) os)
        → IsSome (if b then Some o else find (numbered n) ps)
    by true some = refl
    by false some = there some
some_after n (Changes names change) os ps go goes there some =
    subst (λ x. IsSome x) (sym (found_changed n names change ps (keeps_numbers names change ps goes)))
    (mapped _ (there (was _ (subst (λ x. IsSome x)
    (found_changed n names change os (keeps_numbers names change os go)) some))))
  where
    mapped : (x : Option Order) → IsSome x → IsSome (option_map (λ o. if names o then change o else o) x)
    mapped None e = absurd (true≢false (sym e))
    mapped (Some o) e = refl

    was : (x : Option Order) → IsSome (option_map (λ o. if names o then change o else o) x) → IsSome x
    was None e = e
    was (Some o) e = refl

module _ (d : ℕ) (A B : Ledger) (good : Good A) (gb : Good B) (s : StandsFor d A B) (r : Request)
    (pa : FirstFailure (checks A r.command) None) (pb : FirstFailure (checks B r.command) None)
    (ka : IsNone (kept_under A r.key)) (kb : IsNone (kept_under B r.key)) where
  abbrev C : Ledger
  C = accept A r

  abbrev D : Ledger
  D = accept B r

  goes : EffectGoes (effect r.command) A.orders
  goes = effect_goes A r.command good.orders_in_order pa

  stand_then : OrdersStand C.orders D.orders
  stand_then = orders_stand (effect r.command) A.orders B.orders s.orders good.orders_in_order goes
      (effect_alike A r.command good pa)

  settle_then : (f : Name) → settled_on C f +ℤ settled_on B f ≡ settled_on D f +ℤ settled_on A f
  settle_then f = orders_settle f (effect r.command) A.orders B.orders s.orders goes (effect_alike A r.command good pa)

  field_then : (f g : Field) → FieldStands A B f g → FieldStands C D f g
  field_then f g t = record {
    name = t.name;
    lo = t.lo;
    hi = t.hi;
    settled = numbers_next f.start g.start (moved_on A f.name) (moved_on B g.name) (moved_on C f.name)
        (moved_on D g.name)
        (moved_by_command f.name r.command) (settled_on A f.name) (settled_on B g.name) (settled_on C f.name)
        (settled_on D g.name) t.settled (moves_next A r.command f.name)
        (moves_next B r.command g.name ∙ ap (λ n. moved_on B g.name +ℤ moved_by_command n r.command) t.name)
        (subst (λ n. settled_on C f.name +ℤ settled_on B n ≡ settled_on D n +ℤ settled_on A f.name) (sym t.name)
        (settle_then f.name));
  }

  fields_then : (c : Command) → AllPass (checks A c) → AllPass (checks B c)
      → AllZip (FieldStands C D) (fields_after c A.fields) (fields_after c B.fields)
  fields_then (command.Field b a lo hi start) p q =
      let f : Field = record { name = name_of b a; lo = lo; hi = hi; start = start } in
      let x = nothing_on A good (name_of b a) p.1.1.0 in let y = nothing_on B gb (name_of b a) q.1.1.0 in
      zip-insert (FieldStands C D) (λ f g. is_lt (name_cmp f.name g.name)) (λ f g. is_lt (name_cmp f.name g.name)) f f
      (field_then f f (record {
        name = refl;
        lo = refl;
        hi = refl;
        settled = (let u = x.0 in let v = x.1 in let w = y.0 in let z = y.1 in omega (arith, ints));
      }))
      (λ g h t. ap (λ n. is_lt (name_cmp (name_of b a) n)) t.name) A.fields B.fields
      (zip-imp (FieldStands A B) (FieldStands C D) field_then A.fields B.fields s.fields)
  fields_then (command.Rebound b a lo hi) p q =
      zip-map (FieldStands A B) (FieldStands C D) _ _ bounded A.fields B.fields s.fields
    where
      bounded : (f g : Field) → FieldStands A B f g
          → FieldStands C D (if same_name (name_of b a) f.name then with_bounds lo hi f else f)
          (if same_name (name_of b a) g.name then with_bounds lo hi g else g)
      bounded f g t =
          by (same_name (name_of b a) f.name) (same_name (name_of b a) g.name) (ap (same_name (name_of b a)) t.name)
        where
          by : (x y : Bool) → y ≡ x
              → FieldStands C D (if x then with_bounds lo hi f else f) (if y then with_bounds lo hi g else g)
          by true true e = record { name = t.name; lo = refl; hi = refl; settled = (field_then f g t).settled }
          by true false e = absurd (true≢false (sym e))
          by false true e = absurd (true≢false e)
          by false false e = field_then f g t
  fields_then (command.Deliver b a q') p q = zip-imp _ (FieldStands C D) field_then A.fields B.fields s.fields
  fields_then (command.Writeoff b a q') p q = zip-imp _ (FieldStands C D) field_then A.fields B.fields s.fields
  fields_then (command.Open n until lines) p q = zip-imp _ (FieldStands C D) field_then A.fields B.fields s.fields
  fields_then (command.Transfer n until a from to q') p q =
      zip-imp _ (FieldStands C D) field_then A.fields B.fields s.fields
  fields_then (command.More n way b a q') p q = zip-imp _ (FieldStands C D) field_then A.fields B.fields s.fields
  fields_then (command.Use n b a q') p q = zip-imp _ (FieldStands C D) field_then A.fields B.fields s.fields
  fields_then (command.Release n b a q') p q = zip-imp _ (FieldStands C D) field_then A.fields B.fields s.fields
  fields_then (command.Commit n) p q = zip-imp _ (FieldStands C D) field_then A.fields B.fields s.fields
  fields_then (command.Abort n) p q = zip-imp _ (FieldStands C D) field_then A.fields B.fields s.fields
  fields_then (command.Firm n) p q = zip-imp _ (FieldStands C D) field_then A.fields B.fields s.fields
  fields_then (command.Expire now) p q = zip-imp _ (FieldStands C D) field_then A.fields B.fields s.fields

  keys_then : (key : List ℕ) → KeyStands d (kept_under C key) (kept_under D key)
  keys_then key = subst (λ x. KeyStands d x (kept_under D key)) (sym (kept_next A r key ka))
      (subst (λ y. KeyStands d (if bytes_eq r.key key then Some (new_key A r) else kept_under A key) y)
      (sym (kept_next B r key kb)) (by (bytes_eq r.key key)))
    where
      by : (b : Bool) → KeyStands d (if b then Some (new_key A r) else kept_under A key)
          (if b then Some (new_key B r) else kept_under B key)
      by true = record { place = (let p = s.places in omega arith); command = refl }
      by false = s.kept key

  pub accept_stands : StandsFor d C D
  accept_stands = record {
    clock = ap (clock_after r.command) s.clock;
    fields = fields_then r.command (all_pass _ pa) (all_pass _ pb);
    orders = stand_then;
    places = (
        let p = s.places in
        let a = length-insert (λ a b. is_lt (slice_cmp nat_cmp a.key b.key)) (new_key A r) A.kept in
        let b = length-insert (λ a b. is_lt (slice_cmp nat_cmp a.key b.key)) (new_key B r) B.kept in
        omega arith
        );
    kept = keys_then;
  }

  pub accept_knows : (q : Request) → Knows A B q → Knows C D q
  accept_knows q knows = record { key = key; order = order }
    where
      by : (b : Bool) → IsSome (if b then Some (new_key A r) else kept_under A q.key)
          → IsSome (if b then Some (new_key B r) else kept_under B q.key)
      by true some = refl
      by false some = knows.key some

      key : IsSome (kept_under C q.key) → IsSome (kept_under D q.key)
      key some = subst (λ x. IsSome x) (sym (kept_next B r q.key kb))
          (by (bytes_eq r.key q.key) (subst (λ x. IsSome x) (kept_next A r q.key ka) some))

      order : (n : ℕ) → Names q.command n → IsSome (order_numbered C n) → IsSome (order_numbered D n)
      order n named some = some_after n (effect r.command) A.orders B.orders goes
          (effect_goes B r.command gb.orders_in_order pb) (knows.order n named) some

-- ---- one answer

-- What the other answers to a request that this one answers with the reply. Then it still stands for this one, and
-- knows the requests that it knew.
pub record AnswerStays (d : ℕ) (A B : Ledger) (r : Request) (told : Reply) (M : Ledger) : Type 0 where
  pub reply : Reply
  pub next : Ledger
  pub answers : Answers B r reply next
  pub raised : told ≡ raise_reply d reply
  pub stands : StandsFor d M next
  pub knows : (q : Request) → Knows A B q → Knows M next q

pub answer_stays : (d : ℕ) (A B : Ledger) (r : Request) (told : Reply) (M : Ledger) → Good A → Good B → StandsFor d A B
    → Knows A B r → Answers A r told M → told ≢ Refused refusal.Full 0 → AnswerStays d A B r told M
answer_stays d A B r told M good gb s knows h room =
    let a = answered_alike d A B good gb s r told M knows h room in let now = then_stands a.1 a.4 in
    record { reply = a.0; next = a.1; answers = a.2; raised = a.3; stands = now.0; knows = now.1 }
  where
    then_stands : (N : Ledger)
        → ((M ≡ accept A r) × (N ≡ accept B r) × IsNone (kept_under A r.key) × IsNone (kept_under B r.key)
        × FirstFailure (checks A r.command) None × FirstFailure (checks B r.command) None)
        ⊎ ((M ≡ A) × (N ≡ B))
        → StandsFor d M N × ((q : Request) → Knows A B q → Knows M N q)
    then_stands N (inl h) = (
      subst (λ X. StandsFor d X N) (sym h.0) (subst (λ Y. StandsFor d (accept A r) Y) (sym h.1)
          (accept_stands d A B good gb s r h.4 h.5 h.2 h.3)),
      λ q k. subst (λ X. Knows X N q) (sym h.0) (subst (λ Y. Knows (accept A r) Y q) (sym h.1)
          (accept_knows d A B good gb s r h.4 h.5 h.2 h.3 q k)),
    )
    then_stands N (inr h) = (
      subst (λ X. StandsFor d X N) (sym h.0) (subst (λ Y. StandsFor d A Y) (sym h.1) s),
      λ q k. subst (λ X. Knows X N q) (sym h.0) (subst (λ Y. Knows A Y q) (sym h.1) k),
    )

-- ---- runs

pub stays_alike : (d : ℕ) (A B : Ledger) (rs : List Request) (replies : List Reply) (M : Ledger) → Good A → Good B
    → Each (λ r. IsKey r.key × IsInRange r.command) rs → StandsFor d A B → Each (Knows A B) rs
    → Runs A rs replies M → Each (λ reply. reply ≢ Refused refusal.Full 0) replies
    → (ps : List Reply) × (N : Ledger) × Runs B rs ps N × (replies ≡ map (raise_reply d) ps) × StandsFor d M N
stays_alike d A B [] [] M good gb range s knows run room =
    ([], B, refl, refl, subst (λ X. StandsFor d X B) (sym run) s)
stays_alike d A B [] (p ∷ ps) M good gb range s knows run room = absurd run
stays_alike d A B (r ∷ rs) [] M good gb range s knows run room = absurd run
stays_alike d A B (r ∷ rs) (p ∷ ps) M good gb range s knows run room =
    let a = answer_stays d A B r p run.0 good gb s knows.0 run.1 room.0 in
    let gm = good_answer A r p run.0 good range.0.0 range.0.1 run.1 in
    let gn = good_answer B r a.reply a.next gb range.0.0 range.0.1 a.answers in
    let more = stays_alike d run.0 a.next rs ps M gm gn range.1 a.stands (each-imp a.knows rs knows.1) run.2 room.1 in
    (a.reply ∷ more.0, more.1, (a.next, a.answers, more.2), (λ i. a.raised i ∷ more.3 i), more.4)

pub rolled_stays : (K : ℕ) (A : Ledger) (rs : List Request) (replies : List Reply) (M : Ledger) → Good A
    → Each (λ r. IsKey r.key × IsInRange r.command) rs → Each (NamesNothingGone K A) rs → Runs A rs replies M
    → Each (λ reply. reply ≢ Refused refusal.Full 0) replies
    → (ps : List Reply) × (N : Ledger) × Runs (rolled K A) rs ps N × (replies ≡ map (raise_reply (gone K A)) ps)
    × StandsFor (gone K A) M N
rolled_stays K A rs replies M good range asks run room =
    let also = is_recent_deal K A in
    stays_alike (gone K A) A (rolled K A) rs replies M good (good_left also K A good) range (stands_left also K A good)
    (each-imp (knows_last K A good) rs asks) run room
