-- What the comparisons of a program say of the checks of a command.
use Rattle.ledger.proofs.Prelude.{Add, Bool, BreaksBound, Check, Command, Deliver, Each, Err, FallsBelow, Field}
use Rattle.ledger.proofs.Prelude.{FirstFailure, Good, IsFalse, IsNone, IsSome, IsTrue, Ledger, List, MAX_ORDER_LINES}
use Rattle.ledger.proofs.Prelude.{More, Name, None, Ok, OpenLine, Option, Order, Refusal, Result, RisesAbove, Some}
use Rattle.ledger.proofs.Prelude.{Take, Way, Writeoff, [], ap, arith, bound, checks, drop, false, field_named, find}
use Rattle.ledger.proofs.Prelude.{full, get_or, inl, inr, is_open, is_some, is_transfer, length, length-take}
use Rattle.ledger.proofs.Prelude.{line_checks, line_name, line_on, loose_checks, map, name_of, new_line, new_order}
use Rattle.ledger.proofs.Prelude.{next, no_field, numbered, on, order_numbered, pos, same_name, subst, sym, take}
use Rattle.ledger.proofs.Prelude.{true≢false, with_order, ℕ, ◌++◌, ◌+ℤ◌, ◌+◌, ◌-ℤ◌, ◌<ℤ◌, ◌<◌, ◌↔◌, ◌∙◌, ◌∷◌, ◌≡◌, ◌≢◌}
use Rattle.ledger.proofs.Prelude.{◌≤◌, IsDistinct}
use Rattle.book.proofs.Prelude.{FieldEntry, Finds, IsUpToDate, field_of, IsFound}
use Rattle.ledger.specs.declared.order.Kind.{Kind}
use Rattle.ledger.specs.declared.order.Line.{Line}
use Rattle.words.specs.declared.reply.Refusal.TheVariants.{Full, OtherWay, TooManyLines, TransferFixed}
use Rattle.std.specs.Result.{IsErrAnd}
use Rattle.ledger.specs.Next.{moved_at_once}
use Rattle.ledger.specs.Answers.{OfLine, OfOrder, bounds_checks, check}
use Rattle.book.specs.inner.Checking.{IsOrderFound, bound_checks, changed_number, hold_checks}
use Rattle.book.specs.declared.book.checks.Found.{Found}
use Rattle.book.specs.declared.book.checks.Found.TheVariants as found
use Rattle.ledger.proofs.Lists.{some_is, take-step}
use Rattle.ledger.proofs.Falls.{sounds_from_good}
use Rattle.ledger.proofs.Safety.{high_test, low_test}
use Rattle.words.specs.declared.command.Command.TheVariants.{Rebound}
use Rattle.std.proofs.lemmas.List.{drop_more}
use Rattle.ledger.proofs.EqualRows.{after}
use Rattle.ledger.proofs.FieldNames.{line_field, other_way}
use Rattle.ledger.proofs.Sums.{none_found}
use Rattle.ledger.proofs.Asks.{line_test, map-push, more_test, moved_test}

-- ---- what the comparisons of a program say of the checks of a command

-- ---- lists of checks

-- what one list of checks finds, another before more checks finds
pub cut_short : (cs ds : List Check) (x : Refusal × ℕ) → FirstFailure cs (Some x) → FirstFailure (cs ++ ds) (Some x)
cut_short [] ds x e = cc
cut_short (c ∷ cs) ds x (inl h) = inl h
cut_short (c ∷ cs) ds x (inr h) = inr (h.0, cut_short cs ds x h.1)

-- where it finds nothing, those after it decide
pub go_on : (cs ds : List Check) (found : Option (Refusal × ℕ)) → FirstFailure cs None → FirstFailure ds found
    → FirstFailure (cs ++ ds) found
go_on [] ds found e k = k
go_on (c ∷ cs) ds found (inl h) k = let e = h.1 in cc
go_on (c ∷ cs) ds found (inr h) k = inr (h.0, go_on cs ds found h.1 k)

-- what is found for a command is what its checks, if none of them fails, find
pub finds_only : (A : Ledger) (c : Command) (x : Found) (r : Result Found (Refusal × ℕ)) → IsFound A c x
    → Finds (checks A c) (λ found. found ≡ x) r → Finds (checks A c) (IsFound A c) r
finds_only A c x (Ok y) is k = (k.0, subst (IsFound A c) (sym k.1) is)
finds_only A c x (Err e) is k = k

-- and for one that changes an order by its number
pub finds_order : (A : Ledger) (c : Command) (n : ℕ) (r : Result Found (Refusal × ℕ)) → changed_number c ≡ Some n
    → Finds (checks A c) (IsOrderFound A n) r → Finds (checks A c) (IsFound A c) r
finds_order A c n (Ok (found.Order m o)) numbered k = (k.0, (numbered ∙ ap Some (sym k.1.0), k.1.1))
finds_order A c n (Ok found.Nothing) numbered k = absurd k.1
finds_order A c n (Ok (found.Field e moved)) numbered k = absurd k.1
finds_order A c n (Ok (found.Clock now)) numbered k = absurd k.1
finds_order A c n (Err x) numbered k = k

-- a failure that `?` passes up
pub fails_with : {T : Type 0} (cs : List Check) (P : T → Type 0) (r : Result T (Refusal × ℕ)) (x : Refusal × ℕ)
    → IsErrAnd r (λ y. y ≡ x) → FirstFailure cs (Some x) → Finds cs P r
fails_with cs P (Err y) x is k = subst (λ (y : Refusal × ℕ). FirstFailure cs (Some y)) (sym is) k
fails_with cs P (Ok t) x is k = absurd is

-- that a field is there, and that an amount breaks no bound of it
abbrev pub stock_checks : Way → Ledger → Name → ℕ → ℕ → List Check
stock_checks w A f q line = no_field A f line ∷ bound_checks w A f q line

-- the check of a bound, of a ledger that has the amount, as one comparison with the ledger before
has_bound : (A B : Ledger) (w : Way) (f : Name) (q line : ℕ) (found : Option (Refusal × ℕ))
    → (bound w B f line).fails ↔ BreaksBound w A f q
    → FirstFailure (bound_checks w A f q line) found → FirstFailure (bound w B f line ∷ []) found
has_bound A B Take f q line found same (inl h) = inl (same.1 h.0, h.1)
has_bound A B Take f q line found same (inr h) = inr ((λ k. h.0 (same.0 k)), h.1)
has_bound A B Add f q line found same (inl h) = inl (same.1 h.0, h.1)
has_bound A B Add f q line found same (inr h) = inr ((λ k. h.0 (same.0 k)), h.1)

pub has_stock : (A B : Ledger) (w : Way) (f : Name) (q line : ℕ) (found : Option (Refusal × ℕ))
    → (bound w B f line).fails ↔ BreaksBound w A f q
    → FirstFailure (stock_checks w A f q line) found → FirstFailure (no_field A f line ∷ bound w B f line ∷ []) found
has_stock A B w f q line found same (inl h) = inl h
has_stock A B w f q line found same (inr h) = inr (h.0, has_bound A B w f q line found same h.1)

-- what a test that says no decides
pub no : {P : Type 0} {b : Bool} → IsTrue b ↔ P → b ≡ false → P → ⊥
no iff e h = true≢false (sym (iff.1 h) ∙ e)

-- ---- what is moved at once

pub full_decides : (A : Ledger) (c : Command) → IsSome (moved_at_once c) → (full A 1).fails
    → FirstFailure (checks A c) (Some (Full, 0))
full_decides A c some is = grind arith

-- The field is there, and the value may be moved.
pub moving_decides : (A : Ledger) (c : Command) (n : Name) (w : Way) (q : ℕ) (found : Option (Refusal × ℕ))
    → moved_at_once c ≡ Some (n, w, q) → ((full A 1).fails → ⊥) → Good A → FirstFailure (stock_checks w A n q 0) found
    → FirstFailure (checks A c) found
moving_decides A (Deliver b a p) n w q found e room good k = inr (
  room,
  has_stock A (next A (Deliver b a p)) Add (name_of b a) p 0 found
      (moved_test A (name_of b a) p 0 (sounds_from_good A good) Add)
      (subst (λ (m : Name × Way × ℕ). FirstFailure (stock_checks m.1 A m.0 m.2 0) found) (sym (some_is _ (n, w, q) e)) k),
)
moving_decides A (Writeoff b a p) n w q found e room good k = inr (
  room,
  has_stock A (next A (Writeoff b a p)) Take (name_of b a) p 0 found
      (moved_test A (name_of b a) p 0 (sounds_from_good A good) Take)
      (subst (λ (m : Name × Way × ℕ). FirstFailure (stock_checks m.1 A m.0 m.2 0) found) (sym (some_is _ (n, w, q) e)) k),
)
moving_decides A c n w q found e room good k = absurd (true≢false (sym (ap is_some e)))

-- ---- an amount more on an order

-- the checks that its line makes, and the one of the bound
abbrev of_line : Ledger → ℕ → Way → Name → List Check
of_line A n w f = check (OfLine A n f (λ l. l.way ≢ w)) OtherWay ∷ check
    (OfOrder A n (λ o. IsNone (line_on o f) × (MAX_ORDER_LINES ≤ length o.lines))) TooManyLines ∷ []

abbrev of_bound : Ledger → ℕ → Way → Name → ℕ → List Check
of_bound A n w f q = bound w (next A (More n w f.branch f.article q)) f 0 ∷ []

-- The check of the bound decides.
pub more_decides : (A : Ledger) (n : ℕ) (w : Way) (f : Name) (q : ℕ) (o : Order) (e : Field)
    (found : Option (Refusal × ℕ))
    → Good A
    → ((full A 1).fails → ⊥) → FirstFailure (loose_checks A n) None → order_numbered A n ≡ Some o → IsTrue (is_open o)
    → IsFalse o.firm → IsFalse (is_transfer o) → field_named A f ≡ Some e
    → FirstFailure (hold_checks o w f ++ bound_checks w A f q 0) found
    → FirstFailure (checks A (More n w f.branch f.article q)) found
more_decides A n w f q o e found good room ordered numbered opened loose plain there decides =
    inr (
      room,
      go_on (loose_checks A n) (check (OfOrder A n (λ o. IsTrue (is_transfer o))) TransferFixed ∷ no_field A f 0
          ∷ of_line A n w f ++ of_bound A n w f q) found ordered
          (inr (rw numbered (λ h. true≢false (sym h ∙ plain)), inr (rw there (λ h. true≢false h), holds decides))),
    )
  where
    asked : OpenLine
    asked = record { way = w; branch = f.branch; article = f.article; qty = q }

    holds : FirstFailure (hold_checks o w f ++ bound_checks w A f q 0) found
        → FirstFailure (of_line A n w f ++ of_bound A n w f q) found
    holds (inl h) = rw numbered (inl h)
    holds (inr (h0, inl h)) = rw numbered (inr (h0, inl h))
    holds (inr (h0, inr (h1, h))) = rw numbered
        (inr (
          h0,
          inr (
            h1,
            has_bound A (next A (More n w f.branch f.article q)) w f q 0 found
                (more_test A n asked (sounds_from_good A good) good.orders_in_order (rw numbered (grind arith)) 0) h,
          ),
        ))

-- ---- other bounds

-- where the lower is not above the upper, each bound is one comparison with the field
pub bounds_decide : (A : Ledger) (n : Name) (e : FieldEntry) (lo hi : ℕ) → Good A → IsUpToDate A (n, e)
    → field_named A n ≡ Some (field_of (n, e))
    → (FallsBelow (next A (Rebound n.branch n.article lo hi)) n ↔ (pos e.quantity.value -ℤ pos e.quantity.held_to_take) <ℤ pos lo)
    × (RisesAbove (next A (Rebound n.branch n.article lo hi)) n ↔ pos hi <ℤ (pos e.quantity.value +ℤ pos e.quantity.held_to_add))
bounds_decide A n e lo hi good up there = grind (arith, sounds_from_good, low_test, high_test)

pub rebound_decides : (A : Ledger) (n : Name) (lo hi : ℕ) (found : Option (Refusal × ℕ)) → ((full A 1).fails → ⊥)
    → FirstFailure (no_field A n 0 ∷ []) None → FirstFailure (bounds_checks A n lo hi) found
    → FirstFailure (checks A (Rebound n.branch n.article lo hi)) found
rebound_decides A n lo hi found room there decides =
    inr (room, go_on (no_field A n 0 ∷ []) (bounds_checks A n lo hi) found there decides)

-- ---- the checks of the lines of a new order, one line at a time

-- ---- lines on different fields

abbrev pub AreApart : List OpenLine → Type 0
AreApart lines = IsDistinct same_name (map line_name (map new_line lines))

pub apart_push : (ls : List Line) (l : Line) → IsDistinct same_name (map line_name ls)
    → Each (λ m. on (line_name l) m ≡ false) ls → IsDistinct same_name (map line_name (ls ++ l ∷ []))
unfolding IsDistinct
apart_push [] l d h = (tt, tt)
apart_push (m ∷ ms) l d h = (last ms d.0, apart_push ms l d.1 h.1)
  where
    last : (ms : List Line) → Each (λ f. same_name (line_name m) f ≡ false) (map line_name ms)
        → Each (λ f. same_name (line_name m) f ≡ false) (map line_name (ms ++ l ∷ []))
    last [] k = (other_way (line_name l) (line_name m) h.0, tt)
    last (k ∷ ks) e = (e.0, last ks e.1)

pub none_apart : AreApart []
unfolding IsDistinct
none_apart = tt

-- one line more, on a field that none before it is on
pub apart-step : (lines : List OpenLine) (i : ℕ) (l : OpenLine) → i < length lines → l ≡ get_or lines i l
    → AreApart (take i lines) → is_some (find (on (line_field l)) (map new_line (take i lines))) ≡ false
    → AreApart (take (i + 1) lines)
apart-step lines i l h e apart alone = subst AreApart (sym (take-step lines i l h e))
    (rw (map-push (take i lines) l) (apart_push (map new_line (take i lines)) (new_line l) apart (none_found _ _ (none _ alone))))
  where
    none : (o : Option Line) → is_some o ≡ false → o ≡ None
    none b e = grind arith

-- ---- the checks of a line, and of those after it

-- The checks of all lines find what those from line i on find, whatever the order.
abbrev pub RestDecides : Ledger → List OpenLine → ℕ → Type 0
RestDecides A lines i = (n : ℕ) (kind : Kind) (until : ℕ) (found : Option (Refusal × ℕ))
    → FirstFailure (line_checks A (new_order n kind until) (take i lines) (drop i lines)) found
    → FirstFailure (line_checks A (new_order n kind until) [] lines) found

module _ (A : Ledger) (lines : List OpenLine) (i : ℕ) (l : OpenLine) (h : i < length lines) (e : l ≡ get_or lines i l)
    (good : Good A) (apart : AreApart (take i lines))
    (alone : is_some (find (on (line_field l)) (map new_line (take i lines))) ≡ false) where
  -- the checks of the line's field and of its amount, with the ledger that has the line
  own : ℕ → Kind → ℕ → List Check
  own n kind until = no_field A (line_field l) (length (take i lines) + 1) ∷ bound l.way
      (with_order (new_order n kind until (take i lines ++ l ∷ [])) A) (line_field l) (length (take i lines) + 1) ∷ []

  has_own : (n : ℕ) (kind : Kind) (until : ℕ) (fault : Option (Refusal × ℕ))
      → FirstFailure (stock_checks l.way A (line_field l) l.qty (i + 1)) fault → FirstFailure (own n kind until) fault
  unfolding own
  has_own n kind until fault k =
      has_stock A (with_order (new_order n kind until (take i lines ++ l ∷ [])) A) l.way (line_field l) l.qty
      (length (take i lines) + 1) fault
      (line_test A n kind until (take i lines) l (length (take i lines) + 1) good apart alone)
      (subst (λ line. FirstFailure (stock_checks l.way A (line_field l) l.qty line) fault)
      (let s : length (take i lines) ≡ i = simp length-take (omega arith) in omega arith) k)

  here : (n : ℕ) (kind : Kind) (until : ℕ) (found : Option (Refusal × ℕ))
      → FirstFailure
      (own n kind until ++ line_checks A (new_order n kind until) (take i lines ++ l ∷ []) (drop (i + 1) lines))
      found
      → FirstFailure (line_checks A (new_order n kind until) (take i lines) (drop i lines)) found
  unfolding own
  here n kind until found k = subst (λ ls. FirstFailure
      (line_checks A (new_order n kind until) (take i lines) ls) found)
      (sym (drop_more lines i l h ∙ ap (λ m. m ∷ drop (i + 1) lines) (sym e)))
      (inr ((λ there. true≢false (sym there ∙ alone)), k))

  -- the line's own checks decide
  pub line_fails : (x : Refusal × ℕ) → FirstFailure (stock_checks l.way A (line_field l) l.qty (i + 1)) (Some x)
      → RestDecides A lines i
      → (n : ℕ) (kind : Kind) (until : ℕ) → FirstFailure (line_checks A (new_order n kind until) [] lines) (Some x)
  line_fails x k rest n kind until = grind (arith, cut_short, has_own, here)

  -- they pass, and those after them decide
  pub line_passes : FirstFailure (stock_checks l.way A (line_field l) l.qty (i + 1)) None → RestDecides A lines i
      → RestDecides A lines (i + 1)
  line_passes k rest n kind until found after = grind (arith, (has_own n kind until None k), go_on, here, take-step)
