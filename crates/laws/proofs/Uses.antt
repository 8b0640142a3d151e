-- An open order of which nothing is used uses all, line by line, where there is room for it.
use Rattle.ledger.proofs.Prelude.{Answers, Bool, Done, Each, FirstFailure, IfSome, IsDistinct, IsNone, IsSomeAnd}
use Rattle.ledger.proofs.Prelude.{IsTrue, Kept, Ledger, List, Name, None, Option, Order, Request, Some, [], accept, ap}
use Rattle.ledger.proofs.Prelude.{arith, bytes_eq, change_lines, checks, false, find, if◌then◌else◌, inr, is_lt}
use Rattle.ledger.proofs.Prelude.{is_open, is_transfer, kept_under, length, line_name, line_on, map, nat_cmp, new_key}
use Rattle.ledger.proofs.Prelude.{numbered, on, open_orders, order_numbered, places, raise_used, refl, same_name}
use Rattle.ledger.proofs.Prelude.{slice_cmp, subst, sym, true, true≢false, ℕ, ◌++◌, ◌+◌, ◌<◌, ◌||◌, ◌∙◌, ◌∷◌, ◌≡◌, ◌≤◌}
use Rattle.words.specs.declared.command.Command.TheVariants as command
use Rattle.ledger.specs.declared.limits.TheConstants.{MAX_PLACES}
use Rattle.ledger.specs.declared.order.Line.{Line}
use Rattle.ledger.proofs.Lists.{count-map, each-found, each-unmap, find-beside, length-insert, length-of-map}
use Rattle.ledger.proofs.FieldNames.{same_self, other_way}
use Rattle.ledger.proofs.Runs.{accepted_answered}
use Rattle.ledger.proofs.Sums.{each, each-of-push}
use Rattle.laws.specs.Deals.{AllUsed, IsReady, Side}
use Rattle.laws.proofs.AllOrNothing.{changed, not_closed, not_none, under}
use Rattle.laws.proofs.OneOrder.{AsOpened, held_line}

-- ---- a key that is not kept is not kept behind another either

still_free : (A : Ledger) (r : Request) (key : List ℕ) → bytes_eq r.key key ≡ false → IsNone (kept_under A key)
    → IsNone (kept_under (accept A r) key)
still_free A r key other none = subst IsNone
    (sym (find-beside (λ k. bytes_eq k.key key) (λ a b. is_lt (slice_cmp nat_cmp a.key b.key)) (new_key A r) A.kept other)) none

-- ---- one line among lines on other fields

module _ (l : Line) (rest : List Line) where
  abbrev f : Name
  f = line_name l

  abbrev around : List Line → List Line
  around done = done ++ l ∷ rest

  at_it : (P : Name → Type 0) (done : List Line) → Each P (map line_name (around done)) → P f
  at_it P [] h = h.0
  at_it P (m ∷ done) h = at_it P done h.1

  others_apart : (done : List Line) → IsDistinct same_name (map line_name (around done)) → Each (λ m. on f m ≡ false) done
  unfolding IsDistinct
  others_apart [] d = tt
  others_apart (m ∷ done) d = (
    other_way (line_name m) f (at_it (λ y. same_name (line_name m) y ≡ false) done d.0),
    others_apart done d.1,
  )

  rest_apart : (done : List Line) → IsDistinct same_name (map line_name (around done)) → Each (λ m. on f m ≡ false) rest
  unfolding IsDistinct
  rest_apart [] d = each-unmap (λ y. same_name f y ≡ false) line_name rest d.0
  rest_apart (m ∷ done) d = rest_apart done d.1

  find_it : (done : List Line) → Each (λ m. on f m ≡ false) done → find (on f) (around done) ≡ Some l
  find_it [] apart = rw (same_self f) refl
  find_it (m ∷ done) apart = rw apart.0 (find_it done apart.1)

  module _ (q : ℕ) where
    abbrev raise : Line → Line
    raise m = if on f m then raise_used q m else m

    abbrev next_done : List Line → List Line
    next_done done = (done ++ raise_used q l ∷ []) ++ rest

    as_they_are : (ms : List Line) → Each (λ m. on f m ≡ false) ms → map raise ms ≡ ms
    as_they_are [] apart = refl
    as_they_are (m ∷ ms) apart = rw apart.0 (ap (λ ks. m ∷ ks) (as_they_are ms apart.1))

    raise_it : (done : List Line) → Each (λ m. on f m ≡ false) done → Each (λ m. on f m ≡ false) rest
        → map raise (around done) ≡ next_done done
    raise_it [] apart others = rw (same_self f) (ap (λ ks. raise_used q l ∷ ks) (as_they_are rest others))
    raise_it (m ∷ done) apart others = rw apart.0 (ap (λ ks. m ∷ ks) (raise_it done apart.1 others))

    names_stay : (done : List Line) → map line_name (next_done done) ≡ map line_name (around done)
    names_stay [] = refl
    names_stay (m ∷ done) = ap (λ ks. line_name m ∷ ks) (names_stay done)

-- ---- one use

-- the order has used the lines done, and of those to do nothing
pub record Using (n : ℕ) (done todo : List Line) (A : Ledger) : Type 0 where
  pub order : Order
  pub there : order_numbered A n ≡ Some order
  pub live : is_open order ≡ true
  pub plain : is_transfer order ≡ false
  pub lines : order.lines ≡ done ++ todo
  pub apart : IsDistinct same_name (map line_name (done ++ todo))
  pub used : Each (λ l. l.used ≡ l.held) done
  pub unused : Each (λ l. l.used ≡ 0) todo
  pub room : places A + open_orders A + length todo ≤ MAX_PLACES

-- the use of a line, and the place at which it is done
pub record OneUse : Type 0 where
  pub key : List ℕ
  pub line : Line
  pub place : ℕ

abbrev pub use_of : ℕ → OneUse → Request
use_of n u = under u.key (command.Use n u.line.branch u.line.article u.line.held)

module _ (n : ℕ) (done : List Line) (l : Line) (rest : List Line) (A : Ledger)
    (now : Using n done (l ∷ rest) A) (key : List ℕ) where
  abbrev r : Request
  r = under key (command.Use n l.branch l.article l.held)

  not_full : MAX_PLACES < places A + open_orders A + 1 → ⊥
  not_full h = let room = now.room in let e = one_at_least in omega arith
    where
      one_at_least : 1 ≤ length (l ∷ rest)
      one_at_least = omega arith

  line_there : line_on now.order (line_name l) ≡ Some l
  line_there = ap (find (on (line_name l))) now.lines ∙ find_it l rest done (others_apart l rest done now.apart)

  of_order : (P : Order → Type 0) → IsSomeAnd (order_numbered A n) P → P now.order
  of_order P h = subst (λ x. IsSomeAnd x P) now.there h

  has_line : IsSomeAnd (order_numbered A n) (λ o. IsNone (line_on o (line_name l))) → ⊥
  has_line h = true≢false (sym (gone (subst IsNone line_there (of_order (λ o. IsNone (line_on o (line_name l))) h))))
    where
      gone : IsNone (Some l) → false ≡ true
      gone h = grind arith

  has_left : IsSomeAnd (order_numbered A n) (λ o. IsSomeAnd (line_on o (line_name l)) (λ m. m.held < m.used + l.held)) → ⊥
  has_left h = over (subst (λ x. IsSomeAnd x (λ m. m.held < m.used + l.held)) line_there
      (of_order (λ o. IsSomeAnd (line_on o (line_name l)) (λ m. m.held < m.used + l.held)) h))
    where
      none : (u q : ℕ) → u ≡ 0 → q < u + q → ⊥
      none u q e h = omega arith

      over : l.held < l.used + l.held → ⊥
      over h = none l.used l.held now.unused.0 h

  pub use_passes : FirstFailure (checks A r.command) None
  use_passes = inr (
    not_full,
    inr (
      not_none (order_numbered A n) now.order now.there,
      inr (not_closed (order_numbered A n) now.order now.there now.live, inr (has_line, inr (has_left, refl))),
    ),
  )

  abbrev used_line : Line
  used_line = raise_used l.held l

  abbrev new_order : Order
  new_order = change_lines (line_name l) (raise_used l.held) now.order

  all_raised : new_order.lines ≡ (done ++ used_line ∷ []) ++ rest
  all_raised =
      ap (λ b. map (λ m. if b || on (line_name l) m then raise_used l.held m else m) now.order.lines) now.plain
      ∙ ap (map (raise l rest l.held)) now.lines
      ∙ raise_it l rest l.held done (others_apart l rest done now.apart) (rest_apart l rest done now.apart)

  open_still : open_orders (accept A r) ≤ open_orders A
  open_still = count-map is_open (λ o. if numbered n o then change_lines (line_name l) (raise_used l.held) o else o) A.orders
      (each (λ o. one o (numbered n o)) A.orders)
    where
      one : (o : Order) (b : Bool) → is_open (if b then change_lines (line_name l) (raise_used l.held) o else o) ≡ true
          → is_open o ≡ true
      one o true e = e
      one o false e = e

  pub using_next : Using n (done ++ used_line ∷ []) rest (accept A r)
  using_next = record {
    order = new_order;
    there = changed A n r.command now.order (λ o. refl) now.there;
    live = now.live;
    plain = now.plain;
    lines = all_raised;
    apart = subst (IsDistinct same_name) (sym (names_stay l rest l.held done)) now.apart;
    used = each-of-push (λ m. m.used ≡ m.held) done used_line now.used (all_of l.used l.held now.unused.0);
    unused = now.unused.1;
    room = room;
  }
    where
      all_of : (u q : ℕ) → u ≡ 0 → u + q ≡ q
      all_of u q e = omega arith

      room : places (accept A r) + open_orders (accept A r) + length rest ≤ MAX_PLACES
      room =
          let a = length-insert (λ (a b : Kept). is_lt (slice_cmp nat_cmp a.key b.key)) (new_key A r) A.kept in
          let b = open_still in let c = now.room in let d = one_more in omega arith
        where
          one_more : length (l ∷ rest) ≡ length rest + 1
          one_more = omega arith

-- ---- all uses

-- the uses are done one after the other
abbrev pub UsesRun : ℕ → List OneUse → Ledger → Ledger → Type 0
UsesRun n [] A B = B ≡ A
UsesRun n (u ∷ us) A B = (M : Ledger) × Answers A (use_of n u) (Done u.place) M × UsesRun n us M B

pub record AllUses (n : ℕ) (commit : List ℕ) (A : Ledger) : Type 0 where
  pub uses : List OneUse
  pub ledger : Ledger
  pub run : UsesRun n uses A ledger
  pub free : IsNone (kept_under ledger commit)
  pub order : Order
  pub there : order_numbered ledger n ≡ Some order
  pub live : is_open order ≡ true
  pub used : AllUsed order

more_free : (A : Ledger) (r : Request) (keys : List (List ℕ)) → Each (λ k. bytes_eq r.key k ≡ false) keys
    → Each (λ k. IsNone (kept_under A k)) keys → Each (λ k. IsNone (kept_under (accept A r) k)) keys
more_free A r [] apart free = tt
more_free A r (k ∷ keys) apart free = (still_free A r k apart.0 free.0, more_free A r keys apart.1 free.1)

too_few : (l : Line) (rest : List Line) → length (l ∷ rest) ≤ 0 → ⊥
too_few l rest h = omega arith

fewer : (l : Line) (rest : List Line) (k : List ℕ) (keys : List (List ℕ)) → length (l ∷ rest) ≤ length (k ∷ keys)
    → length rest ≤ length keys
fewer l rest k keys h = omega arith

plus_none : (ls : List Line) → ls ++ [] ≡ ls
plus_none [] = refl
plus_none (l ∷ ls) = ap (λ ms. l ∷ ms) (plus_none ls)

use_all : (n : ℕ) (commit : List ℕ) (keys : List (List ℕ)) (done todo : List Line) (A : Ledger) → Using n done todo A
    → IsDistinct bytes_eq keys → Each (λ k. bytes_eq k commit ≡ false) keys → length todo ≤ length keys
    → IsNone (kept_under A commit) → Each (λ k. IsNone (kept_under A k)) keys → AllUses n commit A
unfolding IsDistinct
use_all n commit keys done [] A now apart other enough free frees = record {
  uses = [];
  ledger = A;
  run = refl;
  free = free;
  order = now.order;
  there = now.there;
  live = now.live;
  used = subst (Each (λ l. l.used ≡ l.held)) (sym (now.lines ∙ plus_none done)) now.used;
}
use_all n commit [] done (l ∷ rest) A now apart other enough free frees = absurd (too_few l rest enough)
use_all n commit (k ∷ keys) done (l ∷ rest) A now apart other enough free frees =
    let u : OneUse = record { key = k; line = l; place = places A + 1 } in
    let M : Ledger = accept A (use_of n u) in
    let more = use_all n commit keys (done ++ raise_used l.held l ∷ []) rest M (using_next n done l rest A now k)
    apart.1 other.1
    (fewer l rest k keys enough)
    (still_free A (use_of n u) commit other.0 free) (more_free A (use_of n u) keys apart.0 frees.1) in
    record {
      uses = u ∷ more.uses;
      ledger = more.ledger;
      run = (M, accepted_answered A (use_of n u) (frees.0, use_passes n done l rest A now k), more.run);
      free = more.free;
      order = more.order;
      there = more.there;
      live = more.live;
      used = more.used;
    }

pub ready_uses : (n : ℕ) (commit : List ℕ) (uses : List (List ℕ)) (Lasts : ℕ → Type 0) (s : Side)
    → IfSome (order_numbered s.ledger n) (AsOpened s.lines Lasts) → IsDistinct bytes_eq uses
    → Each (λ k. bytes_eq k commit ≡ false) uses → IsReady n commit uses s → AllUses n commit s.ledger
ready_uses n commit uses Lasts s opened apart other ready =
    by (order_numbered s.ledger n) refl opened ready.live ready.unused
  where
    held_length : (ls : List Line) → length (map held_line ls) ≡ length ls
    held_length ls = length-of-map held_line ls

    by : (x : Option Order) → order_numbered s.ledger n ≡ x → IfSome x (AsOpened s.lines Lasts)
        → IsSomeAnd x (λ o. IsTrue (is_open o)) → IsSomeAnd x (λ o. Each (λ l. l.used ≡ 0) o.lines) → AllUses n commit s.ledger
    by None e opened live unused = absurd live
    by (Some o) e opened live unused =
        let as_many : length s.lines ≡ length o.lines = ap length (sym opened.held) ∙ held_length o.lines in
        let good = each-found _ _ o s.ledger.orders ready.good.orders e in
        let a = ready.room in let b = ready.enough in
        use_all n commit uses [] o.lines s.ledger (record {
          order = o;
          there = e;
          live = live;
          plain = opened.plain;
          lines = refl;
          apart = good.apart;
          used = tt;
          unused = unused;
          room = subst (λ k. places s.ledger + open_orders s.ledger + k ≤ MAX_PLACES) as_many ready.room;
        }) apart other (subst (λ k. k ≤ length uses) as_many ready.enough) ready.commit_free ready.uses_free
