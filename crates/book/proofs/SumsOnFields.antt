-- Sums on each of the fields: where a field stands among those in order, and what an entry more adds.
use Rattle.ledger.proofs.Prelude.{Bool, Each, Equal, IsBinarySearchResult, IsNonDecreasingBy, IsNone, IsSearchInRange}
use Rattle.ledger.proofs.Prelude.{IsStrictlySortedBy, Less, List, MatchResult, Name, Ordering, Part, Result, Some, []}
use Rattle.ledger.proofs.Prelude.{add_part, ap, arith, common_steps, false, get_or, if◌then◌else◌, ints, is_lt, is_some}
use Rattle.ledger.proofs.Prelude.{length, map, name_cmp, ordering_index, ordering_reverse, refl, same_name, set}
use Rattle.ledger.proofs.Prelude.{settled_part, subst, suc, sym, take, take_part, tied_itself, true, true≢false, zero}
use Rattle.ledger.proofs.Prelude.{ℕ, ◌+◌, ◌<◌, ◌∙◌, ◌∷◌, ◌≡◌, ◌≤◌}
use Rattle.book.proofs.Prelude.{FieldEntry, IsField, IsSmall, MoveEntry, Numbers, OrderEntry, added, entry_name}
use Rattle.book.proofs.Prelude.{field_of, line_part, lines_numbers, moved_by_move, nothing, numbers_on, only_on}
use Rattle.book.proofs.Prelude.{part_of_entry, plus}
use Rattle.ledger.specs.declared.order.Line.{Line}
use Rattle.ledger.specs.declared.order.State.{State}
use Rattle.std.proofs.lemmas.List.Sorted.{searchable_from_sorted}
use Rattle.std.specs.Prelude.{replicate}
use Rattle.book.specs.inner.Sums.{AreFieldsInOrder, AreSums, IsFieldAt, field_among}
use Rattle.ledger.proofs.GoodParts.{equal_name, name_cmp_total}
use Rattle.ledger.proofs.Lists.{each-unmap, each_get, each_set, total-step}
use Rattle.ledger.proofs.Sums.{each-imp}
use Rattle.ledger.proofs.Safety.{not_true}
use Rattle.ledger.proofs.FieldNames.{name_is, same_self}

-- ---- numbers added to one another, and how great they can be

-- numbers with equal parts are equal
pub same-numbers : (n m : Numbers) → n.moved ≡ m.moved → n.takes ≡ m.takes → n.adds ≡ m.adds → n ≡ m
same-numbers n m a b c = λ i. record { moved = a i; takes = b i; adds = c i }

pub plus-nothing : (n : Numbers) → plus n nothing ≡ n
plus-nothing n = same-numbers _ _ (omega (arith, ints)) (omega (arith, ints)) (omega (arith, ints))

pub plus-assoc : (a b c : Numbers) → plus (plus a b) c ≡ plus a (plus b c)
plus-assoc a b c = same-numbers _ _ (omega (arith, ints)) (omega (arith, ints)) (omega (arith, ints))

-- a bound may be raised
pub small-up : (k m : ℕ) (n : Numbers) → k ≤ m → IsSmall k n → IsSmall m n
small-up k m n h s = record {
  low = omega (arith, ints);
  high = omega (arith, ints);
  take_low = omega (arith, ints);
  take_high = omega (arith, ints);
  add_low = omega (arith, ints);
  add_high = omega (arith, ints);
}

-- the bounds of two add up
pub small-plus : (k m : ℕ) (a b : Numbers) → IsSmall k a → IsSmall m b → IsSmall (k + m) (plus a b)
small-plus k m a b s t = record {
  low = omega (arith, ints);
  high = omega (arith, ints);
  take_low = omega (arith, ints);
  take_high = omega (arith, ints);
  add_low = omega (arith, ints);
  add_high = omega (arith, ints);
}

-- ---- bounds of the sums

-- a bound may be raised
pub each-small-up : (k m : ℕ) (ns : List Numbers) → k ≤ m → Each (IsSmall k) ns → Each (IsSmall m) ns
each-small-up k m ns h s = each-imp (λ n t. small-up k m n h t) ns s

pub sums-up : (k m : ℕ) (fs : List (Name × FieldEntry)) (ns : List Numbers) → k ≤ m → AreSums k fs ns → AreSums m fs ns
sums-up k m fs ns h s = record { sorted = s.sorted; long = s.long; room = each-small-up k m ns h s.room }

-- where a sum is added to, the bounds add up
pub each-small-set : (k m i : ℕ) (d part : Numbers) (ns : List Numbers) → i < length ns → Each (IsSmall k) ns
    → IsSmall m part → Each (IsSmall (k + m)) (set ns i (plus (get_or ns i d) part))
each-small-set k m i d part ns lt s t =
    let here = small-plus k m (get_or ns i d) part (each_get (IsSmall k) ns i d lt s) t in
    each_set (IsSmall (k + m)) ns i d (plus (get_or ns i d) part) lt (each-small-up k (k + m) ns (omega arith) s) (λ h. here)

-- ---- what is added on each field

-- nothing added leaves the sums
pub added-nothing : (part : Name → Numbers) → ((f : Name) → part f ≡ nothing)
    → (fs : List (Name × FieldEntry)) (ns : List Numbers) → added part fs ns ≡ ns
added-nothing part h [] ns = refl
added-nothing part h (f ∷ fs) [] = refl
added-nothing part h (f ∷ fs) (n ∷ ns) = let more = added-nothing part h fs ns in grind arith

-- the same added gives the same
pub added-same : (g h : Name → Numbers) → ((f : Name) → g f ≡ h f) → (fs : List (Name × FieldEntry)) (ns : List Numbers)
    → added g fs ns ≡ added h fs ns
added-same g h same [] ns = refl
added-same g h same (f ∷ fs) [] = refl
added-same g h same (f ∷ fs) (n ∷ ns) = let more = added-same g h same fs ns in grind arith

-- first one, then the other
pub added-twice : (g h k : Name → Numbers) → ((f : Name) → plus (g f) (h f) ≡ k f)
    → (fs : List (Name × FieldEntry)) (ns : List Numbers) → added h fs (added g fs ns) ≡ added k fs ns
added-twice g h k both [] ns = refl
added-twice g h k both (f ∷ fs) [] = refl
added-twice g h k both (f ∷ fs) (n ∷ ns) = let more = added-twice g h k both fs ns in grind (arith, plus-assoc)

-- added to nothing, the parts alone are left
pub added-to_nothing : (h : Name → Numbers) (fs : List (Name × FieldEntry))
    → added h fs (replicate (length fs) nothing) ≡ map (λ f. h (entry_name f)) fs
added-to_nothing h [] = refl
added-to_nothing h (f ∷ fs) = let more = added-to_nothing h fs in grind arith

-- ---- names of fields in order

-- names that do not compare as equal are different
other_name : (f g : Name) → (name_cmp f g ≡ Equal → ⊥) → (same_name f g ≡ false) × (same_name g f ≡ false)
other_name f g h = (
  not_true _ (λ t. h (subst (λ k. name_cmp f k ≡ Equal) (name_is f g t) (tied_itself name_cmp_total f))),
  not_true _ (λ t. h (subst (λ k. name_cmp k g ≡ Equal) (name_is g f t) (tied_itself name_cmp_total g))),
)

not_less : (o : Ordering) → o ≡ Less → o ≡ Equal → ⊥
not_less o a b = true≢false (ap is_lt (sym a ∙ b))

-- no field stands before the one before it
ascending : (fs : List (Name × FieldEntry)) → AreFieldsInOrder fs → (k : ℕ) (d : Name × FieldEntry) → k + 1 < length fs
    → is_lt (name_cmp (entry_name (get_or fs (k + 1) d)) (entry_name (get_or fs k d))) ≡ false
unfolding IsStrictlySortedBy
ascending [] s k d lt = absurd (omega arith)
ascending (f ∷ []) s k d lt = absurd (omega arith)
ascending (f ∷ g ∷ fs) s zero d lt = ap is_lt (name_cmp_total.antisymm (entry_name g) (entry_name f) ∙ ap ordering_reverse s.0.0)
ascending (f ∷ g ∷ fs) s (suc k) d lt = grind (arith, (ascending (g ∷ fs) s.1 k d (omega arith)))

-- so their comparisons with a name rise, as a binary search asks
rising : (name : Name) (fs : List (Name × FieldEntry)) → AreFieldsInOrder fs
    → IsNonDecreasingBy (λ e. ordering_index (name_cmp (entry_name e) name)) fs
rising name fs s = searchable_from_sorted name_cmp_total entry_name fs name (λ k d a lt. ascending fs s k d lt)

-- where no field compares as equal, none has the name
none_there : (name : Name) (fs : List (Name × FieldEntry))
    → ((j : ℕ) (d : Name × FieldEntry) → j < length fs → name_cmp (entry_name (get_or fs j d)) name ≡ Equal → ⊥)
    → IsNone (field_among fs name)
none_there name [] h = refl
none_there name (f ∷ fs) h =
    let here = (other_name (entry_name f) name (h 0 f (omega arith))).1 in
    rw here (none_there name fs (λ j d lt. h (suc j) d (omega arith)))

-- what a search for the name answers
pub searched : (name : Name) (fs : List (Name × FieldEntry)) → AreFieldsInOrder fs → (r : Result ℕ ℕ)
    → IsSearchInRange r (length fs) → IsBinarySearchResult (λ e. name_cmp (entry_name e) name) fs r
    → MatchResult r (IsFieldAt fs name) (λ i. IsNone (field_among fs name))
searched name fs s b range found = grind (arith, equal_name, name_is, none_there, not_less, rising)

-- a field at a place is among them
pub there_at : (name : Name) (fs : List (Name × FieldEntry)) (i : ℕ) → IsFieldAt fs name i → IsField fs name
there_at name [] i at = absurd (omega arith)
there_at name (f ∷ fs) zero at = rw (same_as (at.named f)) refl
  where
    same_as : entry_name f ≡ name → same_name name (entry_name f) ≡ true
    same_as e = subst (λ g. same_name name g ≡ true) (sym e) (same_self name)
there_at name (f ∷ fs) (suc i) at = grind (arith, (there_at name fs i (record { within = omega arith; named = at.named })))

-- ---- a sum that is added to

-- where no field has the name, nothing is added
added-elsewhere : (name : Name) (part : Numbers) (fs : List (Name × FieldEntry)) (ns : List Numbers)
    → Each (λ f. same_name (entry_name f) name ≡ false) fs → added (only_on name part) fs ns ≡ ns
added-elsewhere name part [] ns h = refl
added-elsewhere name part (f ∷ fs) [] h = refl
added-elsewhere name part (f ∷ fs) (n ∷ ns) h = let more = added-elsewhere name part fs ns h.1 in grind arith

-- the same, where a look-up finds none
pub added-none : (name : Name) (part : Numbers) (fs : List (Name × FieldEntry)) (ns : List Numbers)
    → IsNone (field_among fs name) → added (only_on name part) fs ns ≡ ns
added-none name part fs ns none = added-elsewhere name part fs ns (all fs none)
  where
    all : (fs : List (Name × FieldEntry)) → IsNone (field_among fs name) → Each (λ f. same_name (entry_name f) name ≡ false) fs
    all [] h = tt
    all (f ∷ fs) h = by (same_name name (entry_name f)) refl h (λ k. all fs k)
      where
        by : (b : Bool) → same_name name (entry_name f) ≡ b
            → is_some (if b then Some (field_of f) else field_among fs name) ≡ false
            → (IsNone (field_among fs name) → Each (λ f. same_name (entry_name f) name ≡ false) fs)
            → Each (λ f. same_name (entry_name f) name ≡ false) (f ∷ fs)
        by true e h k = absurd (true≢false h)
        by false e h k = (not_true _ (λ t. true≢false (sym (turn t) ∙ e)), k h)
          where
            turn : same_name (entry_name f) name ≡ true → same_name name (entry_name f) ≡ true
            turn t = subst (λ g. same_name g (entry_name f) ≡ true) (name_is _ _ t) (same_self (entry_name f))

-- no other field has the name, so nothing is added elsewhere
pub added-at : (name : Name) (part : Numbers) (fs : List (Name × FieldEntry)) (ns : List Numbers) (i : ℕ)
    → AreFieldsInOrder fs → length ns ≡ length fs → IsFieldAt fs name i
    → set ns i (plus (get_or ns i nothing) part) ≡ added (only_on name part) fs ns
unfolding IsStrictlySortedBy
added-at name part [] ns i s long at = absurd (omega arith)
added-at name part (f ∷ fs) [] i s long at = absurd (omega arith)
added-at name part (f ∷ fs) (n ∷ ns) zero s long at = λ i. first i ∷ sym more i
  where
    here : same_name (entry_name f) name ≡ true
    here = subst (λ g. same_name (entry_name f) g ≡ true) (at.named f) (same_self (entry_name f))

    first : plus n part ≡ plus n (only_on name part (entry_name f))
    first = ap (λ b. plus n (if b then part else nothing)) (sym here)

    after : (g : Name × FieldEntry) → name_cmp (entry_name f) (entry_name g) ≡ Less → same_name (entry_name g) name ≡ false
    after g less =
        subst (λ k. same_name (entry_name g) k ≡ false) (at.named f)
        (other_name (entry_name f) (entry_name g) (not_less _ less)).1

    more : added (only_on name part) fs ns ≡ ns
    more =
        added-elsewhere name part fs ns
        (each-imp after fs (each-unmap (λ k. name_cmp (entry_name f) k ≡ Less) (λ e. e.0) fs s.0))
added-at name part (f ∷ fs) (n ∷ ns) (suc i) s long at =
    grind (
      arith,
      (added-at name part fs ns i s.1 (omega arith) (record { within = omega (arith, at.within); named = at.named })),
      first,
    )
  where
    before : name_cmp (entry_name f) name ≡ Less
    before = subst (λ k. name_cmp (entry_name f) k ≡ Less) (at.named f)
        (each_get (λ g. name_cmp (entry_name f) (entry_name g) ≡ Less) fs i f (omega (arith, at.within))
        (each-unmap (λ k. name_cmp (entry_name f) k ≡ Less) (λ e. e.0) fs s.0))

    first : plus n (only_on name part (entry_name f)) ≡ n
    first = ap (λ b. plus n (if b then part else nothing)) (other_name (entry_name f) name (not_less _ before)).0 ∙ plus-nothing n

-- ---- what entries add

-- one move more
pub move-step : (ms : List MoveEntry) (i : ℕ) (m : MoveEntry) → i < length ms → m ≡ get_or ms i m → (f : Name)
    → plus (numbers_on (take i ms) [] f) (numbers_on (m ∷ []) [] f) ≡ numbers_on (take (i + 1) ms) [] f
move-step ms i m h e f = grind (arith, (total-step (moved_by_move f) ms i m h e), same-numbers)

-- one line more
pub line-step : (s : State) (firm : Bool) (ls : List Line) (i : ℕ) (l : Line) → i < length ls → l ≡ get_or ls i l
    → (f : Name)
    → plus (lines_numbers s firm (take i ls) f) (lines_numbers s firm (l ∷ []) f)
    ≡ lines_numbers s firm (take (i + 1) ls) f
line-step s firm ls i l h e f = let one = λ (part : Part). total-step (line_part part s firm f) ls i l h e in
    grind (arith, common_steps, (one settled_part), (one take_part), (one add_part), same-numbers)

-- one order more
pub order-step : (os : List (ℕ × OrderEntry)) (i : ℕ) (o : ℕ × OrderEntry) → i < length os → o ≡ get_or os i o
    → (f : Name)
    → plus (numbers_on [] (take i os) f) (lines_numbers o.1.state o.1.firm o.1.lines.items f)
    ≡ numbers_on [] (take (i + 1) os) f
order-step os i o h e f = let one = λ (part : Part). total-step (part_of_entry part f) os i o h e in
    grind (arith, (one settled_part), (one take_part), (one add_part), same-numbers)

-- the moves' sums, and then the orders', from nothing
pub added-all : (ms : List MoveEntry) (os : List (ℕ × OrderEntry)) (fs : List (Name × FieldEntry))
    → added (numbers_on [] os) fs (added (numbers_on ms []) fs (replicate (length fs) nothing))
    ≡ map (λ f. numbers_on ms os (entry_name f)) fs
added-all ms os fs =
    added-twice (numbers_on ms []) (numbers_on [] os) (numbers_on ms os)
    (λ f. same-numbers _ _ (omega (arith, ints)) (omega (arith, ints)) (omega (arith, ints))) fs
    (replicate (length fs) nothing) ∙ added-to_nothing (numbers_on ms os) fs

-- nothing is small
pub small-nothing : (n : ℕ) → Each (IsSmall 0) (replicate n nothing)
small-nothing zero = tt
small-nothing (suc n) = let more = small-nothing n in grind arith
