-- Entries under keys, as they stand in a ledger.
use Rattle.ledger.proofs.Prelude.{Bool, Each, Equal, Greater, IsStrictlySortedBy, IsTotalOrder, Less, List, Name, None}
use Rattle.ledger.proofs.Prelude.{Option, Ordering, [], ap, arith, bytes_decides, bytes_eq, find, insert_entry}
use Rattle.ledger.proofs.Prelude.{insert_in_order, is_at, is_eq, is_eq-slice_cmp, is_lt, keys_of, lookup, map}
use Rattle.ledger.proofs.Prelude.{match_ordering, name_cmp, nat_cmp, option_map, ordering_reverse, refl, same_name}
use Rattle.ledger.proofs.Prelude.{slice_cmp, sym, ℕ, ◌==◌, ◌∙◌, ◌∷◌, ◌≡◌}
use Rattle.book.proofs.Prelude.{FieldEntry, KeptEntry, OrderEntry, field_of, kept_of, order_of}
use Rattle.std.proofs.lemmas.Cmp.{nat_list_eq_equiv}
use Rattle.ledger.proofs.GoodParts.{equal_name, equal_number}
use Rattle.ledger.proofs.FieldNames.{name_is}
use Rattle.ledger.proofs.Sums.{each-imp}

-- ---- entries under keys, as they stand in a ledger

module _ {K V X : Type 0} (cmp : K → K → Ordering) (ties : (a b : K) → cmp a b ≡ Equal → a ≡ b) (view : K × V → X) where
  -- what stands under a key
  found : (key : K) (test : X → Bool) → ((e : K × V) → test (view e) ≡ is_eq (cmp key e.0)) → (l : List (K × V))
      → find test (map view l) ≡ option_map (λ v. view (key, v)) (lookup (is_at (cmp key)) l)
  found key test same [] = refl
  found key test same (e ∷ l) = let more = found key test same l in grind arith

  -- an entry under a key that none stands under is put before the first that it precedes
  inserted : (key : K) (v : V) (before : X → X → Bool)
      → ((e : K × V) → before (view (key, v)) (view e) ≡ is_lt (cmp key e.0)) → (l : List (K × V))
      → lookup (is_at (cmp key)) l ≡ None
      → map view (insert_entry cmp l key v) ≡ insert_in_order before (view (key, v)) (map view l)
  inserted key v before first [] none = refl
  inserted key v before first (e ∷ l) none = let more = inserted key v before first l in grind arith

module _ {K V : Type 0} (cmp : K → K → Ordering) (total : IsTotalOrder cmp) (key : K) (v : V) where
  -- what is below the keys and the new one
  below : (k : K) (l : List (K × V)) → cmp k key ≡ Less → Each (λ j. cmp k j ≡ Less) (keys_of l)
      → Each (λ j. cmp k j ≡ Less) (keys_of (insert_entry cmp l key v))
  below k [] less all = (less, tt)
  below k (x ∷ l) less all = put (cmp key x.0) (below k l less all.1)
    where
      put : (o : Ordering) → Each (λ j. cmp k j ≡ Less) (keys_of (insert_entry cmp l key v))
          → Each (λ j. cmp k j ≡ Less)
          (keys_of (match_ordering o ((key, v) ∷ x ∷ l) ((x.0, v) ∷ l) (x ∷ insert_entry cmp l key v)))
      put Less more = (less, all)
      put Equal more = all
      put Greater more = (all.0, more)

  -- keys stay in their order where an entry is put in
  pub sorted_put : (es : List (K × V)) → IsStrictlySortedBy cmp (keys_of es)
      → IsStrictlySortedBy cmp (keys_of (insert_entry cmp es key v))
  unfolding IsStrictlySortedBy
  sorted_put [] sorted = (tt, tt)
  sorted_put (e ∷ es) sorted = by (cmp key e.0) refl (sorted_put es sorted.1)
    where
      by : (o : Ordering) → cmp key e.0 ≡ o → IsStrictlySortedBy cmp (keys_of (insert_entry cmp es key v))
          → IsStrictlySortedBy cmp
          (keys_of (match_ordering o ((key, v) ∷ e ∷ es) ((e.0, v) ∷ es) (e ∷ insert_entry cmp es key v)))
      by Less is more = ((is, each-imp (λ j less. total.trans key e.0 j is less) (keys_of es) sorted.0), sorted)
      by Equal is more = sorted
      by Greater is more = (below e.0 es (total.antisymm e.0 key ∙ ap ordering_reverse is) sorted.0, more)

-- none are in order
pub none_sorted : {K : Type 0} (cmp : K → K → Ordering) → IsStrictlySortedBy cmp []
unfolding IsStrictlySortedBy
none_sorted cmp = tt

nothing_there : {X Y : Type 0} (f : X → Y) (o : Option X) → option_map f o ≡ None → o ≡ None
nothing_there f b h = grind arith

-- ---- fields

pub same_field : (f g : Name) → same_name f g ≡ is_eq (name_cmp f g)
same_field f g = rw (← is_eq-slice_cmp f.branch g.branch, ← is_eq-slice_cmp f.article g.article) (sym (grind arith))

pub equal_field : (f g : Name) → name_cmp f g ≡ Equal → f ≡ g
equal_field f g h = name_is f g (equal_name f g h)

pub field_found : (name : Name) (l : List (Name × FieldEntry))
    → find (λ f. same_name name f.name) (map field_of l) ≡ option_map (λ v. field_of (name, v)) (lookup (is_at (name_cmp name)) l)
field_found name l = found name_cmp equal_field field_of name (λ f. same_name name f.name) (λ e. same_field name e.0) l

-- ---- orders

pub same_number : (m n : ℕ) → (m == n) ≡ is_eq (nat_cmp n m)
same_number m n = grind arith

pub order_found : (n : ℕ) (l : List (ℕ × OrderEntry))
    → find (λ o. o.number == n) (map order_of l) ≡ option_map (λ v. order_of (n, v)) (lookup (is_at (nat_cmp n)) l)
order_found n l = found nat_cmp equal_number order_of n (λ o. o.number == n) (λ e. same_number e.0 n) l

-- ---- kept keys

same_text : (a b : List ℕ) → slice_cmp nat_cmp a b ≡ Equal → a ≡ b
same_text a b h = (bytes_decides a b).0 (sym (is_eq-slice_cmp a b) ∙ ap is_eq h)

pub kept_found : (key : List ℕ) (l : List (List ℕ × KeptEntry))
    → find (λ k. bytes_eq k.key key) (map kept_of l)
    ≡ option_map (λ v. kept_of (key, v)) (lookup (is_at (slice_cmp nat_cmp key)) l)
kept_found key l =
    found (slice_cmp nat_cmp) same_text kept_of key (λ k. bytes_eq k.key key)
    (λ e. nat_list_eq_equiv.symm e.0 key ∙ sym (is_eq-slice_cmp key e.0)) l

pub kept_absent : (key : List ℕ) (l : List (List ℕ × KeptEntry))
    → find (λ k. bytes_eq k.key key) (map kept_of l) ≡ None → lookup (is_at (slice_cmp nat_cmp key)) l ≡ None
kept_absent key l none =
    nothing_there (λ v. kept_of (key, v)) (lookup (is_at (slice_cmp nat_cmp key)) l) (sym (kept_found key l) ∙ none)

pub kept_inserted : (key : List ℕ) (v : KeptEntry) (l : List (List ℕ × KeptEntry))
    → find (λ k. bytes_eq k.key key) (map kept_of l) ≡ None
    → map kept_of (insert_entry (slice_cmp nat_cmp) l key v)
    ≡ insert_in_order (λ a b. is_lt (slice_cmp nat_cmp a.key b.key)) (kept_of (key, v)) (map kept_of l)
kept_inserted key v l none =
    inserted (slice_cmp nat_cmp) same_text kept_of key v (λ a b. is_lt (slice_cmp nat_cmp a.key b.key)) (λ e. refl) l
    (kept_absent key l none)
