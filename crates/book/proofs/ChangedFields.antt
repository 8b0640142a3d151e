-- The fields that a request makes or changes, put in one after the other, and what lines add to them.
use Rattle.ledger.proofs.Prelude.{Bool, Each, Equal, Field, FieldCells, Greater, IsStrictlySortedBy, Ledger, Less}
use Rattle.ledger.proofs.Prelude.{LineStep, List, Name, None, OnOk, Option, Ordering, Part, Result, ShareStep, Some}
use Rattle.ledger.proofs.Prelude.{Stock, [], add_part, added_on, ap, append-nil, append_assoc, arith, cond, drop, false}
use Rattle.ledger.proofs.Prelude.{field_named, find, flat_map, get_or, held_to_add, held_to_take, if◌then◌else◌, inl}
use Rattle.ledger.proofs.Prelude.{inr, insert_entry, ints, is_at, is_eq, is_some, keys_of, length, line_steps, list_any}
use Rattle.ledger.proofs.Prelude.{lookup, map, match_ordering, name_cmp, not, option_map, option_map_or}
use Rattle.ledger.proofs.Prelude.{ordering_reverse, pos, refl, same_name, settled, settled_part, slice_get, subst, sym}
use Rattle.ledger.proofs.Prelude.{take_part, tied_itself, true, true≢false, ℕ, ℤ, ◌&&◌, ◌++◌, ◌+ℤ◌, ◌+◌, ◌-ℤ◌, ◌<◌}
use Rattle.ledger.proofs.Prelude.{◌||◌, ◌∙◌, ◌∷◌, ◌≡◌, ◌≤◌, ◌⊎◌}
use Rattle.book.proofs.Prelude.{Becomes, Counts, CountsAll, CountsMore, FieldEntry, IsUpToDate, MayCount, OrderEntry}
use Rattle.book.proofs.Prelude.{entry_row, field_of, lines_before, order_of, share_numbers, LieWithin, becoming}
use Rattle.book.proofs.Prelude.{numbers_with}
use Rattle.ledger.specs.declared.order.Line.{Line}
use Rattle.book.specs.inner.RunningNumbers.{IsOneOf}
use Rattle.ledger.proofs.Lists.{or_right, some_is, each-left, each-right}
use Rattle.ledger.proofs.FieldNames.{same_self, name_is, other_way}
use Rattle.ledger.proofs.Sums.{total-push, each, each-append, each-imp}
use Rattle.book.proofs.KeyPlaces.{equal_field, none_sorted, same_field, sorted_put}
use Rattle.ledger.proofs.GoodParts.{name_cmp_total}
use Rattle.book.proofs.RunningNumbers.{numbers_up, off}
use Rattle.ledger.proofs.Steps.{StaysAlike, alike, none_added}
use Rattle.std.proofs.lemmas.List.{drop_all, drop_more}
use Rattle.std.proofs.lemmas.Option.{slice_get_cases}

-- ---- the fields that a request makes or changes, put in one after the other by their names

-- ---- what is put in

pub self_eq : (n : Name) → is_eq (name_cmp n n) ≡ true
self_eq n = ap is_eq (tied_itself name_cmp_total n)

-- what is there once one is put in
pub put_has : (C : List (Name × FieldEntry)) (n m : Name) (v : FieldEntry)
    → is_some (lookup (is_at (name_cmp m)) (insert_entry name_cmp C n v))
    ≡ (is_some (lookup (is_at (name_cmp m)) C) || is_eq (name_cmp m n))
put_has [] n m v = grind arith
put_has (e ∷ C) n m v = by (name_cmp n e.0) refl (put_has C n m v)
  where
    first : (b : Bool) (rest : Option FieldEntry) → is_some (cond b (Some v) rest) ≡ (is_some rest || b)
    first b x = grind arith

    replaced : (b : Bool) (rest : Option FieldEntry)
        → is_some (cond b (Some v) rest) ≡ (is_some (cond b (Some e.1) rest) || b)
    replaced b rest = grind arith

    later : (b : Bool) (rest more : Option FieldEntry) (c : Bool) → is_some more ≡ (is_some rest || c)
        → is_some (cond b (Some e.1) more) ≡ (is_some (cond b (Some e.1) rest) || c)
    later b rest more c h = grind arith

    by : (o : Ordering) → name_cmp n e.0 ≡ o
        → is_some (lookup (is_at (name_cmp m)) (insert_entry name_cmp C n v))
        ≡ (is_some (lookup (is_at (name_cmp m)) C) || is_eq (name_cmp m n))
        → is_some (lookup (is_at (name_cmp m)) (match_ordering o ((n, v) ∷ e ∷ C) ((e.0, v) ∷ C)
        (e ∷ insert_entry name_cmp C n v))) ≡ (is_some (lookup (is_at (name_cmp m)) (e ∷ C)) || is_eq (name_cmp m n))
    by Less is more = first (is_eq (name_cmp m n)) (lookup (is_at (name_cmp m)) (e ∷ C))
    by Equal is more =
        replaced (is_eq (name_cmp m e.0)) (lookup (is_at (name_cmp m)) C)
        ∙ ap (λ (k : Name). is_some (lookup (is_at (name_cmp m)) (e ∷ C)) || is_eq (name_cmp m k)) (sym (equal_field n e.0 is))
    by Greater is more = later (is_eq (name_cmp m e.0)) (lookup (is_at (name_cmp m)) C) _ (is_eq (name_cmp m n)) more

pub put_self : (C : List (Name × FieldEntry)) (n : Name) (v : FieldEntry)
    → is_some (lookup (is_at (name_cmp n)) (insert_entry name_cmp C n v)) ≡ true
put_self C n v = put_has C n n v ∙ or_right (is_some (lookup (is_at (name_cmp n)) C)) (is_eq (name_cmp n n)) (self_eq n)

pub less_other : (n m : Name) → name_cmp n m ≡ Less → same_name m n ≡ false
less_other n m less = by (same_name m n) refl
  where
    by : (b : Bool) → same_name m n ≡ b → b ≡ false
    by true e =
        absurd (true≢false (sym (ap is_eq (sym less ∙ ap (name_cmp n) (name_is m n e) ∙ tied_itself name_cmp_total n))))
    by false e = refl

pub greater_other : (n m : Name) → name_cmp n m ≡ Less → is_eq (name_cmp m n) ≡ false
greater_other n m less = ap is_eq (name_cmp_total.antisymm m n ∙ ap ordering_reverse less)

-- ---- all of them

module _ (t : Name → Bool) (row : Field → FieldCells) where
  abbrev IsOne : List Field → Name × FieldEntry → Type 0
  IsOne fs e = IsOneOf t row fs e

  passed_by : (f : Field) (fs : List Field) (e : Name × FieldEntry) → same_name e.0 f.name ≡ false → IsOne (f ∷ fs) e
      → IsOne fs e
  passed_by f fs e other is = record {
    field = is.field;
    there = ap (λ b. if b then Some f else find (λ g. same_name e.0 g.name) fs) (sym other) ∙ is.there;
    passes = is.passes;
    has_row = is.has_row;
  }

  none_below : (n : Name) (C : List (Name × FieldEntry)) → Each (λ k. name_cmp n k ≡ Less) (keys_of C)
      → lookup (is_at (name_cmp n)) C ≡ None
  none_below n [] all = refl
  none_below n (e ∷ C) all =
      ap (λ o. cond (is_eq o) (Some e.1) (lookup (is_at (name_cmp n)) C)) all.0 ∙ none_below n C all.1

  -- one found among those after it is after it
  found_after : (f : Field) (n : Name) (fs : List Field) (g : Field)
      → Each (λ k. name_cmp f.name k ≡ Less) (map (λ f. f.name) fs) → find (λ g. same_name n g.name) fs ≡ Some g
      → name_cmp f.name n ≡ Less
  found_after f n [] g all there = absurd (true≢false (sym (ap is_some there)))
  found_after f n (h ∷ fs) g all there = by (same_name n h.name) refl there (λ k. found_after f n fs g all.1 k)
    where
      by : (b : Bool) → same_name n h.name ≡ b → (if b then Some h else find (λ g. same_name n g.name) fs) ≡ Some g
          → (find (λ g. same_name n g.name) fs ≡ Some g → name_cmp f.name n ≡ Less) → name_cmp f.name n ≡ Less
      by true e k more = ap (name_cmp f.name) (name_is n h.name e) ∙ all.0
      by false e k more = more k

  after_all : (n m : Name) (ks : List Name) → name_cmp n m ≡ Less → Each (λ k. name_cmp m k ≡ Less) ks
      → Each (λ k. name_cmp n k ≡ Less) ks
  after_all n m ks less all = each-imp (λ k more. name_cmp_total.trans n m k less more) ks all

  lookup_rest : (n : Name) (x : Name × FieldEntry) (C : List (Name × FieldEntry)) → is_eq (name_cmp n x.0) ≡ false
      → is_some (lookup (is_at (name_cmp n)) (x ∷ C)) ≡ true → is_some (lookup (is_at (name_cmp n)) C) ≡ true
  lookup_rest n x C other there =
      subst (λ b. is_some (cond b (Some x.1) (lookup (is_at (name_cmp n)) C)) ≡ true) other there

  -- of the fields after the first
  abbrev Rest : List Field → Type 0
  Rest fs =
      (C : List (Name × FieldEntry)) → IsStrictlySortedBy name_cmp (keys_of C) → Each (IsOne fs) C → Each
      (λ f. t f.name ≡ true → is_some (lookup (is_at (name_cmp f.name)) C) ≡ true) fs
      → map entry_row C ≡ flat_map (λ f. if t f.name then row f ∷ [] else []) fs

  skipped : (f : Field) (fs : List Field) (C : List (Name × FieldEntry)) → t f.name ≡ false → Each (IsOne (f ∷ fs)) C
      → Each (IsOne fs) C
  skipped f fs C not each = each-imp (λ e is. passed_by f fs e (here e is (same_name e.0 f.name) refl) is) C each
    where
      here : (e : Name × FieldEntry) → IsOne (f ∷ fs) e → (b : Bool) → same_name e.0 f.name ≡ b → b ≡ false
      here e is true k = absurd (true≢false (sym is.passes ∙ ap t (name_is e.0 f.name k) ∙ not))
      here e is false k = refl

  later_ones : (f : Field) (fs : List Field) (x : Name × FieldEntry) (C : List (Name × FieldEntry)) → x.0 ≡ f.name
      → Each (λ k. name_cmp x.0 k ≡ Less) (keys_of C) → Each (IsOne (f ∷ fs)) C → Each (IsOne fs) C
  later_ones f fs x [] same rising each = tt
  later_ones f fs x (y ∷ C) same rising each = (
    passed_by f fs y (less_other f.name y.0 (ap (λ (n : Name). name_cmp n y.0) (sym same) ∙ rising.0)) each.0,
    later_ones f fs x C same rising.1 each.1,
  )

  later_there : (f : Field) (x : Name × FieldEntry) (C : List (Name × FieldEntry)) (fs : List Field) → x.0 ≡ f.name
      → Each (λ k. name_cmp f.name k ≡ Less) (map (λ f. f.name) fs)
      → Each (λ g. t g.name ≡ true → is_some (lookup (is_at (name_cmp g.name)) (x ∷ C)) ≡ true) fs
      → Each (λ g. t g.name ≡ true → is_some (lookup (is_at (name_cmp g.name)) C) ≡ true) fs
  later_there f x C [] same after all = tt
  later_there f x C (g ∷ fs) same after all = (
    (λ passes. lookup_rest g.name x C (ap (λ (n : Name). is_eq (name_cmp g.name n)) same
        ∙ greater_other f.name g.name after.0) (all.0 passes)),
    later_there f x C fs same after.1 all.1,
  )

  -- Entries in order, each of a field that passes, and one of each: their rows are the rows of the fields that pass.
  pub all_rows : (fs : List Field) (C : List (Name × FieldEntry)) → IsStrictlySortedBy name_cmp (map (λ f. f.name) fs)
      → IsStrictlySortedBy name_cmp (keys_of C) → Each (IsOne fs) C
      → Each (λ f. t f.name ≡ true → is_some (lookup (is_at (name_cmp f.name)) C) ≡ true) fs
      → map entry_row C ≡ flat_map (λ f. if t f.name then row f ∷ [] else []) fs
  unfolding IsStrictlySortedBy
  all_rows [] [] sorted rising each all = refl
  all_rows [] (e ∷ C) sorted rising each all = absurd (true≢false (sym (ap is_some each.0.there)))
  all_rows (f ∷ fs) C sorted rising each all =
      by (t f.name) refl C rising each all (λ D r e a. all_rows fs D sorted.1 r e a)
    where
      first : (x : Name × FieldEntry) (C : List (Name × FieldEntry)) → t f.name ≡ true
          → IsStrictlySortedBy name_cmp (keys_of (x ∷ C)) → Each (IsOne (f ∷ fs)) (x ∷ C)
          → Each (λ g. t g.name ≡ true → is_some (lookup (is_at (name_cmp g.name)) (x ∷ C)) ≡ true) (f ∷ fs) → Rest fs
          → (b : Bool) → same_name x.0 f.name ≡ b
          → map entry_row (x ∷ C) ≡ row f ∷ flat_map (λ f. if t f.name then row f ∷ [] else []) fs
      first x C passes rising each all more true e =
          let same = name_is x.0 f.name e in
          let field =
          some_is f each.0.field
          (ap (λ b. if b then Some f else find (λ g. same_name x.0 g.name) fs) (sym e) ∙ each.0.there) in
          let here = each.0.has_row ∙ ap row (sym field) in
          let rest = more C rising.1 (later_ones f fs x C same rising.0 each.1) (later_there f x C fs same sorted.0 all.1) in
          λ i. here i ∷ rest i
      first x C passes rising each all more false e = grind (arith, after_all, found_after, none_below)

      by : (b : Bool) → t f.name ≡ b → (C : List (Name × FieldEntry)) → IsStrictlySortedBy name_cmp (keys_of C)
          → Each (IsOne (f ∷ fs)) C
          → Each (λ g. t g.name ≡ true → is_some (lookup (is_at (name_cmp g.name)) C) ≡ true) (f ∷ fs) → Rest fs
          → map entry_row C ≡ (if b then row f ∷ [] else []) ++ flat_map (λ f. if t f.name then row f ∷ [] else []) fs
      by false is C rising each all more = more C rising (skipped f fs C is each) all.1
      by true is [] rising each all more = absurd (true≢false (sym (all.0 is)))
      by true is (x ∷ C) rising each all more = first x C is rising each all more (same_name x.0 f.name) refl

pub on_ok : {T E : Type 0} {P Q : Type 0} (r : Result T E) → (P → Q) → OnOk r P → OnOk r Q
on_ok r f p = grind arith

pub each_at_name : (P : Name × FieldEntry → Type 0) (name : Name) (l : List (Name × FieldEntry)) (v : FieldEntry)
    → Each P l → lookup (is_at (name_cmp name)) l ≡ Some v → P (name, v)
each_at_name P name [] v all there = absurd (true≢false (sym (ap is_some there)))
each_at_name P name (e ∷ l) v all there = by (name_cmp name e.0) refl there (λ is. each_at_name P name l v all.1 is)
  where
    by : (o : Ordering) → name_cmp name e.0 ≡ o
        → cond (is_eq o) (Some e.1) (lookup (is_at (name_cmp name)) l) ≡ Some v
        → (lookup (is_at (name_cmp name)) l ≡ Some v → P (name, v)) → P (name, v)
    by Equal o is more =
        subst (λ (v : FieldEntry). P (name, v)) (some_is e.1 v is)
        (subst (λ (k : Name). P (k, e.1)) (sym (equal_field name e.0 o)) all.0)
    by c o is more = more is

-- ---- sums over the lines so far

on_itself : (f : Name) (z : ℤ) → (if same_name f f then z else pos 0) ≡ z
on_itself f z = ap (λ b. if b then z else pos 0) (same_self f)

abbrev pub adds_on : Part → Name → ShareStep → ℤ
adds_on part f s = if same_name f s.name then part s.way s.after -ℤ part s.way s.before else pos 0

-- ---- the entry so far

pub from_entries : (A : Ledger) (done : List ShareStep) (C : List (Name × FieldEntry)) (n : Name) (v : FieldEntry)
    → CountsAll A done C → lookup (is_at (name_cmp n)) C ≡ Some v → Counts A done (n, v)
from_entries A done C n v counts there = each_at_name (Counts A done) n C v counts.each there

-- none of these lines changes the stock of the field
not_counted : (A : Ledger) (done : List ShareStep) (n : Name) (v : FieldEntry) → Each StaysAlike done
    → list_any (λ s. same_name n s.name && s.changes) done ≡ false → IsUpToDate A (n, v)
    → field_named A n ≡ Some (field_of (n, v)) → Counts A done (n, v)
not_counted A done n v alike none up there =
    let numbers = numbers_up A n v up in
    let value = none_added settled_part n done alike none in let takes = none_added take_part n done alike none in
    let adds = none_added add_part n done alike none in
    record { there = there; value = omega (arith, ints); takes = omega (arith, ints); adds = omega (arith, ints) }

pub from_book : (A : Ledger) (done : List ShareStep) (C : List (Name × FieldEntry)) (n : Name) (v : FieldEntry)
    → CountsAll A done C → lookup (is_at (name_cmp n)) C ≡ None → IsUpToDate A (n, v)
    → field_named A n ≡ Some (field_of (n, v)) → Counts A done (n, v)
from_book A done C n v counts none up there =
    not_counted A done n v counts.alike (sym (counts.all n) ∙ ap is_some none) up there

-- ---- one line more

-- the numbers of the field, once the line counts for its share after the step
pub becoming_is : (A : Ledger) (done : List ShareStep) (s : ShareStep) (v : FieldEntry) → Counts A done (s.name, v)
    → becoming v.quantity (share_numbers s.way s.before) (share_numbers s.way s.after)
    ≡ numbers_with A (field_of (s.name, v)) (done ++ s ∷ [])
becoming_is A done s v counts = λ i. record {
  moved = one settled_part _ _ counts.value i;
  takes = one take_part _ _ counts.takes i;
  adds = one add_part _ _ counts.adds i;
}
  where
    one : (part : Part) (x y : ℤ) → x ≡ y +ℤ added_on part s.name done
        → (x -ℤ part s.way s.before) +ℤ part s.way s.after ≡ y +ℤ added_on part s.name (done ++ s ∷ [])
    one part x y is =
        let all = total-push (adds_on part s.name) done s in
        let own = on_itself s.name (part s.way s.after -ℤ part s.way s.before) in
        omega (arith, ints)

counted_itself : (A : Ledger) (done : List ShareStep) (s : ShareStep) (v : FieldEntry) (new : Stock)
    → Becomes v.quantity (becoming v.quantity (share_numbers s.way s.before) (share_numbers s.way s.after)) new
    → Counts A done (s.name, v) → Counts A (done ++ s ∷ []) (s.name, record { start = v.start; quantity = new })
counted_itself A done s v new becomes counts = let is = becoming_is A done s v counts in record {
  there =
      counts.there
      ∙ λ i. Some (record { name = s.name; lo = sym becomes.lo i; hi = sym becomes.hi i; start = v.start });
  value = becomes.value ∙ ap (λ n. n.moved) is;
  takes = becomes.takes ∙ ap (λ n. n.takes) is;
  adds = becomes.adds ∙ ap (λ n. n.adds) is;
}

-- an entry for which a line more counts nothing
nothing_more : (A : Ledger) (done : List ShareStep) (s : ShareStep) (e : Name × FieldEntry)
    → ((part : Part) → adds_on part e.0 s ≡ pos 0) → Counts A done e → Counts A (done ++ s ∷ []) e
nothing_more A done s e none counts = record {
  there = counts.there;
  value = counts.value ∙ ap (λ z. settled A (field_of e) +ℤ z) (sym (same settled_part));
  takes = counts.takes ∙ ap (λ z. held_to_take A e.0 +ℤ z) (sym (same take_part));
  adds = counts.adds ∙ ap (λ z. held_to_add A e.0 +ℤ z) (sym (same add_part));
}
  where
    same : (part : Part) → added_on part e.0 (done ++ s ∷ []) ≡ added_on part e.0 done
    same part = let all = total-push (adds_on part e.0) done s in let no = none part in omega (arith, ints)

counted_other : (A : Ledger) (done : List ShareStep) (s : ShareStep) (e : Name × FieldEntry)
    → same_name e.0 s.name ≡ false → Counts A done e → Counts A (done ++ s ∷ []) e
counted_other A done s e other counts = nothing_more A done s e (λ part. off (same_name e.0 s.name) _ other) counts

alike-push : (done : List ShareStep) (s : ShareStep) → Each StaysAlike done → StaysAlike s
    → Each StaysAlike (done ++ s ∷ [])
alike-push done s all one = each-append StaysAlike done (s ∷ []) all (one, tt)

pub any-append : {X : Type 0} (t : X → Bool) (xs : List X) (y : X) → list_any t (xs ++ y ∷ []) ≡ (list_any t xs || t y)
any-append t [] y = grind arith
any-append t (x ∷ xs) y = let more = any-append t xs y in grind arith

pub any-push : (n : Name) (done : List ShareStep) (s : ShareStep)
    → list_any (λ x. same_name n x.name && x.changes) (done ++ s ∷ []) ≡
    (list_any (λ x. same_name n x.name && x.changes) done || (same_name n s.name && s.changes))
any-push n done s = any-append (λ (x : ShareStep). same_name n x.name && x.changes) done s

-- one that does not change its stock
pub line_skipped : (A : Ledger) (s : ShareStep) (C : List (Name × FieldEntry)) → s.changes ≡ false → StaysAlike s
    → CountsMore A (s ∷ []) C C
line_skipped A s C not alike done counts = record {
  each = each-imp (λ e c. nothing_more A done s e (λ part. zero part e) c) C counts.each;
  all =
      λ n. counts.all n
      ∙ sym (any-push n done s ∙ skipped n (list_any (λ x. same_name n x.name && x.changes) done) (same_name n s.name));
  alike = alike-push done s counts.alike alike;
  rising = counts.rising;
}
  where
    zero : (part : Part) (e : Name × FieldEntry) → adds_on part e.0 s ≡ pos 0
    zero part e = by (same_name e.0 s.name)
      where
        by : (b : Bool) → (if b then part s.way s.after -ℤ part s.way s.before else pos 0) ≡ pos 0
        by true = let same = ap (part s.way) (alike not) in omega (arith, ints)
        by false = refl

    skipped : (n : Name) (x y : Bool) → (x || (y && s.changes)) ≡ x
    skipped n x y = rw not (by x y)
      where
        by : (x y : Bool) → (x || (y && false)) ≡ x
        by x y = grind arith

-- one put among others in their order
put_other : (P Q : Name × FieldEntry → Type 0) (n : Name) (v : FieldEntry) → Q (n, v)
    → ((e : Name × FieldEntry) → same_name e.0 n ≡ false → P e → Q e) → (C : List (Name × FieldEntry))
    → IsStrictlySortedBy name_cmp (keys_of C) → Each P C → Each Q (insert_entry name_cmp C n v)
unfolding IsStrictlySortedBy
put_other P Q n v own other [] sorted all = (own, tt)
put_other P Q n v own other (e ∷ C) sorted all = by (name_cmp n e.0) refl (put_other P Q n v own other C sorted.1 all.1)
  where
    later : (m : Name) (D : List (Name × FieldEntry)) → name_cmp n m ≡ Less
        → Each (λ k. name_cmp m k ≡ Less) (keys_of D) → Each P D → Each Q D
    later m [] less after all = tt
    later m (d ∷ D) less after all =
        (other d (less_other n d.0 (name_cmp_total.trans n m d.0 less after.0)) all.0, later m D less after.1 all.1)

    same : (D : List (Name × FieldEntry)) → n ≡ e.0 → Each (λ k. name_cmp e.0 k ≡ Less) (keys_of D) → Each P D
        → Each Q D
    same [] is after all = tt
    same (d ∷ D) is after all =
        (other d (less_other n d.0 (ap (λ (k : Name). name_cmp k d.0) is ∙ after.0)) all.0, same D is after.1 all.1)

    not_equal : (o : Ordering) → name_cmp n e.0 ≡ o → is_eq o ≡ false → same_name e.0 n ≡ false
    not_equal o is not = other_way n e.0 (same_field n e.0 ∙ ap is_eq is ∙ not)

    by : (o : Ordering) → name_cmp n e.0 ≡ o → Each Q (insert_entry name_cmp C n v)
        → Each Q (match_ordering o ((n, v) ∷ e ∷ C) ((e.0, v) ∷ C) (e ∷ insert_entry name_cmp C n v))
    by Less is more = (own, (other e (less_other n e.0 is) all.0, later e.0 C is sorted.0 all.1))
    by Equal is more =
        (subst (λ (k : Name). Q (k, v)) (equal_field n e.0 is) own, same C (equal_field n e.0 is) sorted.0 all.1)
    by Greater is more = (other e (not_equal Greater is refl) all.0, more)

-- one that changes it, its field put in
counted : (A : Ledger) (done : List ShareStep) (s : ShareStep) (v : FieldEntry) (C D : List (Name × FieldEntry))
    → s.changes ≡ true → CountsAll A done C
    → Counts A (done ++ s ∷ []) (s.name, v) → D ≡ insert_entry name_cmp C s.name v → CountsAll A (done ++ s ∷ []) D
counted A done s v C D changes all own put = subst (CountsAll A (done ++ s ∷ [])) (sym put) (record {
  each =
      put_other (Counts A done) (Counts A (done ++ s ∷ [])) s.name v own (λ e other c. counted_other A done s e other c)
      C all.rising all.each;
  all =
      λ n. put_has C s.name n v ∙ (λ i. all.all n i || sym (same_field n s.name) i)
      ∙ (λ i. list_any (λ x. same_name n x.name && x.changes) done
      || (sym (and_true (same_name n s.name)) ∙ ap (λ b. same_name n s.name && b) (sym changes)) i)
      ∙ sym (any-push n done s);
  alike = alike-push done s all.alike (λ e. absurd (true≢false (sym changes ∙ e)));
  rising = sorted_put name_cmp name_cmp_total s.name v C all.rising;
})
  where
    and_true : (b : Bool) → (b && true) ≡ b
    and_true b = grind arith

pub line_counted : (A : Ledger) (s : ShareStep) (v : FieldEntry) (new : Stock) (C D : List (Name × FieldEntry))
    → s.changes ≡ true → ((done : List ShareStep) → CountsAll A done C → Counts A done (s.name, v))
    → Becomes v.quantity (becoming v.quantity (share_numbers s.way s.before) (share_numbers s.way s.after)) new
    → D ≡ insert_entry name_cmp C s.name (record { start = v.start; quantity = new }) → CountsMore A (s ∷ []) C D
line_counted A s v new C D changes so_far becomes put done counts =
    counted A done s _ C D changes counts (counted_itself A done s v new becomes (so_far done counts)) put

-- ---- lines and steps one after the other

-- no entries count no steps
pub counts-none : (A : Ledger) → CountsAll A [] []
counts-none A = record { each = tt; all = λ n. refl; alike = tt; rising = none_sorted name_cmp }

pub counts-nothing : (A : Ledger) (C : List (Name × FieldEntry)) → CountsMore A [] C C
counts-nothing A C done counts = subst (λ (xs : List ShareStep). CountsAll A xs C) (sym (append-nil done)) counts

pub counts-then : (A : Ledger) (xs ys : List ShareStep) (C D E : List (Name × FieldEntry)) → CountsMore A xs C D
    → CountsMore A ys D E → CountsMore A (xs ++ ys) C E
counts-then A xs ys C D E first second done counts =
    subst (λ (zs : List ShareStep). CountsAll A zs E) (append_assoc done xs ys) (second (done ++ xs) (first done counts))

-- steps that may be counted may be in parts
pub may-first : (A : Ledger) (xs ys : List ShareStep) (C : List (Name × FieldEntry)) → MayCount A (xs ++ ys) C
    → MayCount A xs C
may-first A xs ys C may = (
  may.0,
  may.1,
  record {
    within = λ front rest e. may.2.within front (rest ++ ys) (sym (append_assoc front rest ys) ∙ ap (λ zs. zs ++ ys) e);
    alike = each-left StaysAlike xs ys may.2.alike;
  },
)

pub may-then : (A : Ledger) (xs ys : List ShareStep) (C D : List (Name × FieldEntry)) → MayCount A (xs ++ ys) C
    → CountsMore A xs C D → MayCount A ys D
may-then A xs ys C D may first = (
  may.0 ++ xs,
  first may.0 may.1,
  record {
    within = λ front rest e f there. subst (λ (zs : List ShareStep). LieWithin f.lo f.hi (numbers_with A f zs))
        (sym (append_assoc may.0 xs front))
        (may.2.within (xs ++ front) rest (append_assoc xs front rest ∙ ap (λ zs. xs ++ zs) e) f there);
    alike = each-right StaysAlike xs ys may.2.alike;
  },
)

-- ---- the lines of an order, from one place on

abbrev pub steps_from : List Line → List Line → ℕ → List LineStep
steps_from bs ls i = line_steps (1 + i) (drop i bs) (drop i ls)

pub step_next : (bs ls : List Line) (i : ℕ) (l : Line) → i < length ls → l ≡ get_or ls i l
    → steps_from bs ls i ≡ record { nr = 1 + i; before = slice_get bs i; after = l } ∷ steps_from bs ls (i + 1)
step_next bs ls i l h is =
    ap (line_steps (1 + i) (drop i bs)) (drop_more ls i l h ∙ ap (λ m. m ∷ drop (i + 1) ls) (sym is))
    ∙ by (slice_get_cases bs i).1
  where
    by : ((b : Line) × (i < length bs) × (slice_get bs i ≡ Some b) × (get_or bs i b ≡ b))
        ⊎ ((length bs ≤ i) × (slice_get bs i ≡ None))
        → line_steps (1 + i) (drop i bs) (l ∷ drop (i + 1) ls)
        ≡ record { nr = 1 + i; before = slice_get bs i; after = l } ∷ line_steps (1 + (i + 1)) (drop (i + 1) bs) (drop (i + 1) ls)
    by (inl (b, lt, there, at)) = grind (arith, (drop_more bs i b lt))
    by (inr (past, none)) = grind (arith, (drop_all i bs past), (drop_all (i + 1) bs (omega arith)))

pub lines_seen : (n : ℕ) (x : Option OrderEntry)
    → option_map_or (λ o. o.lines) (option_map (λ e. order_of (n, e)) x) [] ≡ lines_before x
lines_seen n None = refl
lines_seen n (Some e) = refl
