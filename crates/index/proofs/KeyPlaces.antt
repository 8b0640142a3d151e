-- Entries under keys: the indexes of an order, and keys in their order.
use Rattle.index.proofs.Prelude.{Each, Equal, Greater, IsDistinct, IsGap, IsPermutation, IsPermutation-map}
use Rattle.index.proofs.Prelude.{IsPermutation-refl, IsStrictlySortedBy, IsTotalOrder, Less, List, None, Ordering, Some}
use Rattle.index.proofs.Prelude.{[], add-zero, ap, arith, at_indexes, cases_lt, common_steps, compare_at, eqb, false}
use Rattle.index.proofs.Prelude.{get_or, get_or_from_slice_get, inl, inr, insert, insert_entry, is_at, is_eq, keys_of}
use Rattle.index.proofs.Prelude.{length, length-append, lookup, map, nat_tests, none-some, option_map, ordering_reverse}
use Rattle.index.proofs.Prelude.{range_with_len, recursion_from_All, refl, room_left, same_Some, set, set_value}
use Rattle.index.proofs.Prelude.{slice_get, slice_get-map, slice_get_read, slice_get_within, subst, suc, sym, zero}
use Rattle.index.proofs.Prelude.{zero-add, ℕ, ◌++◌, ◌+◌, ◌-◌, ◌<◌, ◌^◌, ◌∙◌, ◌∷◌, ◌≡◌, ◌≢◌, ◌≤◌}
use Rattle.std.proofs.Common.{Err, IfErr, IfOk, Ok, Result}
use Rattle.std.specs.List.Sorted.{IsBinarySearchResult, IsNonDecreasingBy, IsSearchInRange}
use Rattle.std.specs.Ordering.{ordering_index}
use Rattle.std.proofs.lemmas.List.Elements.{All-from_get_or, All-from_recursion}
use Rattle.std.proofs.lemmas.List.FromFn.{fill_by_all, get_or-range_with_len, length-range_with_len}
use Rattle.std.proofs.lemmas.Bool.{eqb-false}
use Rattle.std.proofs.lemmas.Map.Keys.{IsDistinct-IsPermutation, IsDistinct-from_apart, IsDistinct-from_sorted, Less-from_sorted}
use Rattle.std.proofs.lemmas.Option.{slice_get-get_or}
use Rattle.std.proofs.lemmas.List.Sorted.{All-permutation, IsPermutation-insert, IsPermutation-push_more}
use Rattle.std.proofs.lemmas.List.Sorted.{IsPermutation-sym, length_permutation}
use Rattle.std.proofs.lemmas.Cmp.{alike_right, eq_by_cmp_equiv, tied_back}
use Rattle.std.proofs.lemmas.List.Edits.{insert_end}
use Rattle.std.proofs.lemmas.Map.Entries.{length-keys_of, lookup_at_gap, lookup_from_place}
use Rattle.index.specs.InOrder.{IsAt, IsKeyOrder, set_value_at}

-- ---- orders of so many indexes

-- the order names each of n indexes once
abbrev pub Names : ℕ → List ℕ → Type 0
Names n order = IsPermutation (range_with_len 0 n) order

pub in_range : (n : ℕ) (order : List ℕ) → Names n order → Each (λ i. i < n) order
in_range n order p =
    let below =
    All-from_get_or (λ i. i < n) (range_with_len 0 n) 0
    (λ i h. rw (get_or-range_with_len 0 n i 0 (omega (arith, length-range_with_len 0 n)))
    (omega (arith, length-range_with_len 0 n))) in
    recursion_from_All (λ i. i < n) order (All-permutation (λ i. i < n) (range_with_len 0 n) order p below)

pub length_order : (n : ℕ) (order : List ℕ) → Names n order → length order ≡ n
length_order n order p = length_permutation _ _ p ∙ length-range_with_len 0 n

pub range_more : (a n : ℕ) → range_with_len a (suc n) ≡ range_with_len a n ++ (a + n) ∷ []
range_more a zero = rw add-zero
range_more a (suc n) =
    let shift : a + 1 + n ≡ a + suc n = omega arith in
    ap (λ l. a ∷ l) (range_more (a + 1) n ∙ ap (λ m. range_with_len (a + 1) n ++ m ∷ []) shift)

-- one index more, wherever it goes
pub names_more : (n : ℕ) (order : List ℕ) (place : ℕ) → Names n order → Names (suc n) (insert order place n)
names_more n order place p =
    rw (range_more 0 n, zero-add)
    (IsPermutation-push_more (range_with_len 0 n) order (insert order place n) n p
    (IsPermutation-insert order place n))

-- no index stands twice
distinct : (n : ℕ) (order : List ℕ) → Names n order → IsDistinct eqb order
distinct n order p =
    let apart : IsDistinct eqb (range_with_len 0 n) = IsDistinct-from_apart eqb (range_with_len 0 n) (λ i j d lt short.
    let len = length-range_with_len 0 n in
    rw (get_or-range_with_len 0 n i d (omega arith), get_or-range_with_len 0 n j d (omega arith)) (grind (arith, nat_tests))) in
    IsDistinct-IsPermutation eqb (λ x y. grind (arith, nat_tests)) (range_with_len 0 n) order p apart

-- an index as it stands at a place
read_of : (order : List ℕ) (place i : ℕ) → slice_get order place ≡ Some i → i ≡ get_or order place i
read_of order place i there = sym (get_or_from_slice_get order place i i there)

-- ---- the entries at them

module _ {E : Type 0} where
  pub some_at : (es : List E) (i : ℕ) → i < length es → (e : E) × (slice_get es i ≡ Some e)
  some_at [] i h = absurd (omega arith)
  some_at (e ∷ es) zero h = (e, refl)
  some_at (e ∷ es) (suc i) h = some_at es i (omega arith)

  pub length-at_indexes : (es : List E) (order : List ℕ) → Each (λ i. i < length es) order
      → length (at_indexes es order) ≡ length order
  length-at_indexes es [] h = refl
  length-at_indexes es (i ∷ order) h = let found = some_at es i h.0 in rw found.1 (ap suc (length-at_indexes es order h.1))

  -- as many as there are
  pub length_in_order : (es : List E) (order : List ℕ) → Names (length es) order → length (at_indexes es order) ≡ length es
  length_in_order es order p = length-at_indexes es order (in_range _ order p) ∙ length_order _ order p

  -- the entry at a place is the one at its index
  pub get-at_indexes : (es : List E) (order : List ℕ) (place j : ℕ) → Each (λ i. i < length es) order
      → place < length order → slice_get (at_indexes es order) place ≡ slice_get es (get_or order place j)
  get-at_indexes es [] place j h l = absurd (omega arith)
  get-at_indexes es (i ∷ order) zero j h l = let found = some_at es i h.0 in rw found.1
  get-at_indexes es (i ∷ order) (suc place) j h l =
      let found = some_at es i h.0 in rw found.1 (get-at_indexes es order place j h.1 (omega arith))

  -- so a place in their order gives an index, and that an entry
  pub index_at : (es : List E) (order : List ℕ) (place index : ℕ) → Names (length es) order
      → place < length (at_indexes es order) → slice_get order place ≡ Some index
      → (index < length es) × (slice_get (at_indexes es order) place ≡ slice_get es index)
  index_at es order place index p h there =
      let read = read_of order place index there in
      let below : Each (λ i. i < length es) order = in_range _ order p in
      let short : place < length order = omega (arith, length-at_indexes es order below) in (
        rw (← read) at (All-from_recursion (λ i. i < length es) order below place index short),
        get-at_indexes es order place index below short ∙ ap (slice_get es) (sym read),
      )

  get-append : (es : List E) (x : E) (i : ℕ) → i < length es → slice_get (es ++ x ∷ []) i ≡ slice_get es i
  get-append [] x i h = absurd (omega arith)
  get-append (e ∷ es) x zero h = refl
  get-append (e ∷ es) x (suc i) h = get-append es x i (omega arith)

  get-last : (es : List E) (x : E) → slice_get (es ++ x ∷ []) (length es) ≡ Some x
  get-last [] x = refl
  get-last (e ∷ es) x = get-last es x

  at_indexes-append : (es : List E) (x : E) (order : List ℕ) → Each (λ i. i < length es) order
      → at_indexes (es ++ x ∷ []) order ≡ at_indexes es order
  at_indexes-append es x [] h = refl
  at_indexes-append es x (i ∷ order) h = rw (get-append es x i h.0, at_indexes-append es x order h.1)

  -- an entry more at the end, and its index at a place, is that entry more at that place
  pub at_indexes-insert : (es : List E) (x : E) (order : List ℕ) (place : ℕ) → Each (λ i. i < length es) order
      → at_indexes (es ++ x ∷ []) (insert order place (length es)) ≡ insert (at_indexes es order) place x
  at_indexes-insert es x order zero h = rw (get-last es x, at_indexes-append es x order h)
  at_indexes-insert es x [] (suc place) h = rw (get-last es x)
  at_indexes-insert es x (i ∷ order) (suc place) h =
      let found = some_at es i h.0 in
      rw (get-append es x i h.0, found.1) (ap (λ l. found.0 ∷ l) (at_indexes-insert es x order place h.1))

  get-set_same : (es : List E) (i : ℕ) (x : E) → i < length es → slice_get (set es i x) i ≡ Some x
  get-set_same [] i x h = absurd (omega arith)
  get-set_same (e ∷ es) zero x h = refl
  get-set_same (e ∷ es) (suc i) x h = get-set_same es i x (omega arith)

  get-set_other : (es : List E) (i j : ℕ) (x : E) → i ≢ j → slice_get (set es i x) j ≡ slice_get es j
  get-set_other [] i j x h = refl
  get-set_other (e ∷ es) zero zero x h = absurd (h refl)
  get-set_other (e ∷ es) zero (suc j) x h = refl
  get-set_other (e ∷ es) (suc i) zero x h = refl
  get-set_other (e ∷ es) (suc i) (suc j) x h = get-set_other es i j x (omega arith)

  at_indexes-set_none : (es : List E) (i : ℕ) (x : E) (order : List ℕ) → Each (λ j. eqb i j ≡ false) order
      → at_indexes (set es i x) order ≡ at_indexes es order
  at_indexes-set_none es i x [] h = refl
  at_indexes-set_none es i x (j ∷ order) h =
      let other = get-set_other es i j x (eqb-false i j h.0) in rw (other, at_indexes-set_none es i x order h.1)

  set-distinct : (es : List E) (x : E) (order : List ℕ) (place i : ℕ) → IsDistinct eqb order
      → Each (λ i. i < length es) order → place < length order → i ≡ get_or order place i
      → at_indexes (set es i x) order ≡ set (at_indexes es order) place x
  unfolding IsDistinct
  set-distinct es x [] place i apart h short read = absurd (omega arith)
  set-distinct es x (j ∷ order) zero i apart h short read =
      grind (
        arith,
        (some_at es j h.0),
        (subst (λ i. slice_get (set es i x) j ≡ Some x) (sym read) (get-set_same es j x h.0)),
        (subst (λ i. Each (λ k. eqb i k ≡ false) order) (sym read) apart.0),
        get-set_same,
        at_indexes-set_none,
      )
  set-distinct es x (j ∷ order) (suc place) i apart h short read =
      let found = some_at es j h.0 in
      let differ : eqb j i ≡ false =
      rw (← read) at (All-from_recursion (λ k. eqb j k ≡ false) order apart.0 place i (omega arith)) in
      let other = get-set_other es i j x (λ same. eqb-false j i differ (sym same)) in
      rw (other, found.1) (ap (λ l. found.0 ∷ l) (set-distinct es x order place i apart.1 h.1 (omega arith) read))

  -- another entry at an index is that entry at its place
  pub at_indexes-set : (es : List E) (x : E) (order : List ℕ) (place i : ℕ) → Names (length es) order
      → place < length (at_indexes es order) → slice_get order place ≡ Some i
      → at_indexes (set es i x) order ≡ set (at_indexes es order) place x
  at_indexes-set es x order place i p short there =
      let read = read_of order place i there in
      let below : Each (λ i. i < length es) order = in_range _ order p in
      set-distinct es x order place i (distinct _ order p) below (omega (arith, length-at_indexes es order below)) read

  -- the entries are those at the indexes 0, 1, ..
  at_indexes-map : (es : List E) (d : E) (order : List ℕ) → Each (λ i. i < length es) order
      → at_indexes es order ≡ map (λ i. get_or es i d) order
  at_indexes-map es d [] h = refl
  at_indexes-map es d (i ∷ order) h =
      let found = slice_get-get_or es i d h.0 in rw found (ap (λ l. get_or es i d ∷ l) (at_indexes-map es d order h.1))

  pub at_indexes-all : (es : List E) → at_indexes es (range_with_len 0 (length es)) ≡ es
  at_indexes-all [] = refl
  at_indexes-all (e ∷ es) =
      let all = e ∷ es in
      at_indexes-map all e (range_with_len 0 (length all)) (in_range (length all) _ (IsPermutation-refl _))
      ∙ sym (fill_by_all (λ i. get_or all i e) all (length all) e refl (λ k h. refl))

  -- in the order of their keys they are the same entries
  pub same_entries : (es : List E) (order : List ℕ) → Names (length es) order → IsPermutation (at_indexes es order) es
  same_entries [] [] p = IsPermutation-refl []
  same_entries [] (i ∷ order) p = absurd (omega (arith, length_order 0 (i ∷ order) p))
  same_entries (e ∷ es) order p =
      let all = e ∷ es in
      let listed : at_indexes all order ≡ map (λ i. get_or all i e) order =
      at_indexes-map all e order (in_range (length all) order p) in
      let in_turn : map (λ i. get_or all i e) (range_with_len 0 (length all)) ≡ all =
      sym (at_indexes-map all e (range_with_len 0 (length all)) (in_range (length all) _ (IsPermutation-refl _)))
      ∙ at_indexes-all all in
      subst (λ l. IsPermutation (at_indexes all order) l) in_turn
      (rw listed (IsPermutation-sym _ _ (IsPermutation-map (λ i. get_or all i e) _ order p)))

-- ---- how many entries more fit without memory

pub room_made : (n m more entries order : ℕ) → m ≡ n → more ≤ 2 ^ 32 - n → n + more ≤ entries → m + more ≤ order
    → more ≤ room_left n entries order
room_made n m more entries order same short in_entries in_order = omega arith

pub no_room : (n m more entries order : ℕ) → m ≡ n → order - m < more → room_left n entries order < more
no_room n m more entries order same full = omega arith

pub has_room : (n entries order : ℕ) → 1 ≤ room_left n entries order → (n < entries) × (n < order)
has_room n entries order room = (omega arith, omega arith)

-- ---- keys among entries in their order

module _ {K V : Type 0} where
  pub empty_order : (cmp : K → K → Ordering) (es : List (K × V)) (order : List ℕ) → es ≡ [] → order ≡ [] → IsKeyOrder cmp es order
  unfolding IsStrictlySortedBy
  empty_order cmp es order none no_order = rw (none, no_order) (record { each_once = IsPermutation-refl []; rising = tt })

  pub keys-set_value_at : (l : List (K × V)) (place : ℕ) (w : V) → keys_of (set_value_at l place w) ≡ keys_of l
  keys-set_value_at [] place w = refl
  keys-set_value_at (e ∷ l) zero w = refl
  keys-set_value_at (e ∷ l) (suc place) w = ap (λ ks. e.0 ∷ ks) (keys-set_value_at l place w)

  set-value : (l : List (K × V)) (place : ℕ) (e : K × V) (w : V) → slice_get l place ≡ Some e
      → set l place (e.0, w) ≡ set_value_at l place w
  set-value [] place e w there = refl
  set-value (f ∷ l) zero e w there = ap (λ g. (g.0, w) ∷ l) (sym (same_Some _ _ there))
  set-value (f ∷ l) (suc place) e w there = ap (λ r. f ∷ r) (set-value l place e w there)

  -- a value written at an index, behind its key, is written at its place
  pub written : (es : List (K × V)) (order : List ℕ) (place i : ℕ) (e : K × V) (w : V) → Names (length es) order
      → place < length (at_indexes es order) → slice_get order place ≡ Some i → e ≡ get_or es i e
      → at_indexes (set es i (e.0, w)) order ≡ set_value_at (at_indexes es order) place w
  written es order place i e w names short read entry =
      let at = index_at es order place i names short read in
      at_indexes-set es (e.0, w) order place i names short read
      ∙ set-value (at_indexes es order) place e w (at.1 ∙ slice_get_read es _ i e refl at.0 entry)

  -- so the keys stay
  pub kept_written : (cmp : K → K → Ordering) (es : List (K × V)) (order : List ℕ) (place i : ℕ) (e : K × V) (w : V)
      → IsKeyOrder cmp es order → place < length (at_indexes es order) → slice_get order place ≡ Some i
      → e ≡ get_or es i e → IsKeyOrder cmp (set es i (e.0, w)) order
  kept_written cmp es order place i e w kept short read entry =
      grind (
        arith,
        common_steps,
        (written es order place i e w kept.each_once short read entry),
        keys-set_value_at,
        kept.each_once,
        kept.rising,
      )

module _ {K : Type 0} {cmp : K → K → Ordering} (total : IsTotalOrder cmp) (key : K) where
  before : (x : K) → cmp x key ≡ Less → cmp key x ≡ Greater
  before x h = total.antisymm key x ∙ ap ordering_reverse h

  after : (x : K) → cmp x key ≡ Greater → cmp key x ≡ Less
  after x h = total.antisymm key x ∙ ap ordering_reverse h

  back : (x : K) → cmp key x ≡ Greater → cmp x key ≡ Less
  back x h = total.antisymm x key ∙ ap ordering_reverse h

  -- a greater one is no less beside the key
  pub index_rises : (a b : K) → cmp a b ≡ Less → ordering_index (cmp a key) ≤ ordering_index (cmp b key)
  index_rises a b h = by (cmp b key) refl
    where
      most : (o : Ordering) → ordering_index o ≤ 2
      most Less = omega arith
      most Equal = omega arith
      most Greater = omega arith

      by : (o : Ordering) → cmp b key ≡ o → ordering_index (cmp a key) ≤ ordering_index o
      by Less e = rw (total.trans a b key h e) (omega arith)
      by Equal e = rw (sym (alike_right total b key a e) ∙ h) (omega arith)
      by Greater e = most (cmp a key)

  each_below : (x : K) → cmp key x ≡ Less → (ks : List K) → Each (λ y. cmp x y ≡ Less) ks → Each (λ y. cmp key y ≡ Less) ks
  each_below x h [] all = tt
  each_below x h (k ∷ ks) all = (total.trans key x k h all.0, each_below x h ks all.1)

  module _ {V : Type 0} where
    -- what stands under the key where it is at a place
    pub lookup_at : (l : List (K × V)) (place : ℕ) → IsStrictlySortedBy cmp (keys_of l) → (at : IsAt cmp l key place)
        → lookup (is_at (cmp key)) l ≡ Some at.entry.1
    lookup_at l place rising at =
        let same : is_at (cmp at.entry.0) ≡ is_at (cmp key) = λ i z. is_eq (sym (total.congr key at.entry.0 z at.equal) i) in
        subst (λ test. lookup test l ≡ Some at.entry.1) same
        (lookup_from_place (eq_by_cmp_equiv total) l place at.entry.0 at.entry.1
        (IsDistinct-from_sorted cmp (keys_of l) rising) at.there)

    -- nothing where there is a gap for it
    pub lookup_gap : (l : List (K × V)) (place : ℕ) → IsStrictlySortedBy cmp (keys_of l) → IsGap cmp l key place
        → lookup (is_at (cmp key)) l ≡ None
    lookup_gap l place rising gap = lookup_at_gap total key l place rising gap.above gap.below

    gap_tail : (e : K × V) (l : List (K × V)) (place : ℕ) → IsGap cmp (e ∷ l) key (suc place) → IsGap cmp l key place
    gap_tail e l place gap = record {
      within = omega (arith, gap.within);
      above = λ j x lt there. gap.above (suc j) x (omega arith) there;
      below = gap.below;
    }

    -- an entry put into the gap is put in by its key
    pub insert-gap : (v : V) (l : List (K × V)) (place : ℕ) → IsGap cmp l key place
        → insert l place (key, v) ≡ insert_entry cmp l key v
    insert-gap v [] zero gap = refl
    insert-gap v [] (suc place) gap = refl
    insert-gap v (e ∷ l) zero gap = let lt = gap.below e refl in rw lt
    insert-gap v (e ∷ l) (suc place) gap =
        let gt = gap.above 0 e (omega arith) refl in
        rw gt (ap (λ r. e ∷ r) (insert-gap v l place (gap_tail e l place gap)))

    each_insert : (P : K → Type 0) (v : V) (l : List (K × V)) (place : ℕ) → P key → Each P (keys_of l)
        → Each P (keys_of (insert l place (key, v)))
    each_insert P v l zero p all = (p, all)
    each_insert P v [] (suc place) p all = (p, tt)
    each_insert P v (e ∷ l) (suc place) p all = (all.0, each_insert P v l place p all.1)

    -- and the keys still rise
    pub rising-gap : (v : V) (l : List (K × V)) (place : ℕ) → IsStrictlySortedBy cmp (keys_of l) → IsGap cmp l key place
        → IsStrictlySortedBy cmp (keys_of (insert l place (key, v)))
    unfolding IsStrictlySortedBy
    rising-gap v [] zero rising gap = (tt, tt)
    rising-gap v [] (suc place) rising gap = (tt, tt)
    rising-gap v (e ∷ l) zero rising gap = let lt = gap.below e refl in ((lt, each_below e.0 lt (keys_of l) rising.0), rising)
    rising-gap v (e ∷ l) (suc place) rising gap = (
      each_insert (λ y. cmp e.0 y ≡ Less) v l place (back e.0 (gap.above 0 e (omega arith) refl)) rising.0,
      rising-gap v l place rising.1 (gap_tail e l place gap),
    )

    -- ---- a value written

    key_at : (l : List (K × V)) (place : ℕ) (e : K × V) (d : K) → slice_get l place ≡ Some e → get_or (keys_of l) place d ≡ e.0
    key_at l place e d h =
        get_or_from_slice_get (keys_of l) place e.0 d
        (slice_get-map (λ (e : K × V). e.0) l place ∙ ap (option_map (λ (e : K × V). e.0)) h)

    rise_along : (l : List (K × V)) → IsStrictlySortedBy cmp (keys_of l) → (i j : ℕ) (x y : K × V) → i < j
        → slice_get l i ≡ Some x → slice_get l j ≡ Some y → cmp x.0 y.0 ≡ Less
    rise_along l rising i j x y lt at_i at_j =
        grind (
          arith,
          (Less-from_sorted cmp (keys_of l) i j x.0 rising lt
              (omega (arith, length-keys_of l, slice_get_within l j y at_j))),
          length-keys_of,
          slice_get_within,
          key_at,
        )

    at_tail : (e : K × V) (l : List (K × V)) (place : ℕ) → IsAt cmp (e ∷ l) key (suc place) → IsAt cmp l key place
    at_tail e l place at = record { entry = at.entry; there = at.there; equal = at.equal }

    -- at the key's place it is written under the key
    pub set_value-at : (w : V) (l : List (K × V)) (place : ℕ) → IsStrictlySortedBy cmp (keys_of l)
        → IsAt cmp l key place → set_value_at l place w ≡ set_value (is_at (cmp key)) l w
    unfolding IsStrictlySortedBy
    set_value-at w [] place rising at = refl
    set_value-at w (e ∷ l) zero rising at =
        let equal : cmp key e.0 ≡ Equal = rw (← same_Some _ _ at.there) at at.equal in rw equal
    set_value-at w (e ∷ l) (suc place) rising at =
        let less = rise_along (e ∷ l) rising 0 (suc place) e at.entry (omega arith) refl at.there in
        let greater = before e.0 (alike_right total key at.entry.0 e.0 at.equal ∙ less) in
        rw greater (ap (λ r. e ∷ r) (set_value-at w l place rising.1 (at_tail e l place at)))

    none_below : (l : List (K × V)) → Each (λ y. cmp key y ≡ Less) (keys_of l) → lookup (is_at (cmp key)) l ≡ None
    none_below [] all = refl
    none_below (e ∷ l) all = rw (all.0) (none_below l all.1)

    -- where one stands under the key, an entry put in by its key takes its place
    pub set_value-insert : (w : V) (l : List (K × V)) (v : V) → IsStrictlySortedBy cmp (keys_of l)
        → lookup (is_at (cmp key)) l ≡ Some v → set_value (is_at (cmp key)) l w ≡ insert_entry cmp l key w
    unfolding IsStrictlySortedBy
    set_value-insert w [] v rising there = absurd (none-some v there)
    set_value-insert w (e ∷ l) v rising there =
        grind (arith, (set_value-insert w l v rising.1), none-some, none_below, each_below)

    -- ---- a search for the key

    module _ (es : List (K × V)) (order : List ℕ) (names : Names (length es) order)
        (rising : IsStrictlySortedBy cmp (keys_of (at_indexes es order))) where
      below : Each (λ i. i < length es) order
      below = in_range _ order names

      -- the comparison at a place
      answer : (place d : ℕ) (e : K × V) → slice_get (at_indexes es order) place ≡ Some e
          → compare_at cmp es key (get_or order place d) ≡ cmp e.0 key
      answer place d e there = grind (arith, length-at_indexes, below, slice_get_within, get-at_indexes)

      entry_at : (place : ℕ) → place < length order → (e : K × V) × (slice_get (at_indexes es order) place ≡ Some e)
      entry_at place short = some_at (at_indexes es order) place (omega (arith, length-at_indexes es order below))

      -- along the order the entries' keys come to be greater
      rises : IsNonDecreasingBy (λ index. ordering_index (compare_at cmp es key index)) order
      rises i j d le short = elim (cases_lt i j) [
        | inl lt ↦
            let x = entry_at i (omega arith) in
            let y = entry_at j short in
            rw (answer i d x.0 x.1, answer j d y.0 y.1)
            (index_rises x.0.0 y.0.0 (rise_along (at_indexes es order) rising i j x.0 y.0 lt x.1 y.1))
        | inr ge ↦
            let same : i ≡ j = omega arith in
            subst (λ j.
            ordering_index (compare_at cmp es key (get_or order i d))
            ≤ ordering_index (compare_at cmp es key (get_or order j d))) same (omega arith)
      ]

      -- where it ends
      pub searched : (r : Result ℕ ℕ) → IsSearchInRange r (length order) → IsBinarySearchResult (compare_at cmp es key) order r
          → record { found : IfOk r (IsAt cmp (at_indexes es order) key); gap : IfErr r (IsGap cmp (at_indexes es order) key) }
      searched (Ok place) short is =
          let e = entry_at place short in
          record {
            found = record {
              entry = e.0;
              there = e.1;
              equal = tied_back total e.0.0 key (sym (answer place 0 e.0 e.1) ∙ is 0);
            };
            gap = tt;
          }
      searched (Err place) within is =
          let parts = is rises in
          let as_many = length-at_indexes es order below in
          record {
            found = tt;
            gap = record {
              within = omega (arith, within, as_many);
              above = λ j e lt there. before e.0 (sym (answer j 0 e there) ∙ parts.0 j 0 (omega arith) lt);
              below = λ e there. after e.0
                  (sym (answer place 0 e there)
                  ∙ parts.1 place 0 (omega arith)
                  (omega (arith, as_many, slice_get_within (at_indexes es order) place e there)));
            };
          }

      -- an entry more at the end, and its index put into the gap
      module _ (v : V) (place n : ℕ) (last : n ≡ length es) (gap : IsGap cmp (at_indexes es order) key place) where
        pushed : insert es n (key, v) ≡ es ++ (key, v) ∷ []
        pushed = rw last (insert_end es (key, v))

        put : at_indexes (insert es n (key, v)) (insert order place n) ≡ insert (at_indexes es order) place (key, v)
        put = rw (pushed, last) (at_indexes-insert es (key, v) order place below)

        -- puts it in by its key
        pub listed : at_indexes (insert es n (key, v)) (insert order place n) ≡ insert_entry cmp (at_indexes es order) key v
        listed = put ∙ insert-gap v (at_indexes es order) place gap

        -- and keeps the order
        pub kept : IsKeyOrder cmp (insert es n (key, v)) (insert order place n)
        kept =
            let longer : length (insert es n (key, v)) ≡ suc n = rw pushed (omega (arith, length-append es ((key, v) ∷ []))) in
            let one_more : Names (suc n) (insert order place n) = names_more n order place (rw last names) in
            record {
              each_once = rw longer one_more;
              rising = rw put (rising-gap v (at_indexes es order) place rising gap);
            }
