-- The rows of a tree after an upsert.
use Rattle.std.proofs.Common.{◌||◌, ◌≡◌, ◌≤◌, inl, inr, ℕ, Bool, true, false, not, cond, List, [], ◌∷◌, map, filter}
use Rattle.std.proofs.Common.{length, Some, refl, sym, ap, ◌∙◌, subst, arith, IsTrue, Ordering, Less, Equal, Greater}
use Rattle.std.proofs.Common.{is_eq, true≢false, IsPermutation}
use Rattle.std.specs.Cmp.{IsTotalOrder}
use Rattle.std.specs.Ordering.{ordering_reverse, match_ordering}
use Rattle.std.proofs.lemmas.List.{length-map}
use Rattle.std.proofs.lemmas.List.Sorted.{IsPermutation-refl, IsPermutation-cons, IsPermutation-middle}
use Rattle.std.proofs.lemmas.List.Sorted.{IsPermutation-trans, IsPermutation-sym, length_permutation, All-permutation}
use Rattle.std.proofs.lemmas.List.Elements.{recursion_from_All, All-from_recursion}
use Rattle.sqlite.specs.Order.{Row, value_cmp}
use Rattle.sqlite_trees.specs.Tree.{Trees, rowid, has_rowid, without_rowid, put_row}
use Rattle.sqlite_trees.specs.View.{is_int}
use Rattle.sqlite_trees.proofs.TreeLemmas.{all-put_row}
use Rattle.sqlite_schema.specs.declared.schema.Table.{Table}
use Rattle.sqlite_schema.specs.declared.schema.Schema.{Schema}
use Rattle.sqlite_rules.specs.Lists.{Has}
use Rattle.sqlite_rules.specs.Keys.{conflicts}
use Rattle.sqlite_rules.specs.Edit.{id_in, is_taken}
use Rattle.sqlite_rules.proofs.ListLemmas.{all_has, all_from, has_filtered, has_kept}
use Rattle.sqlite_rules.proofs.ProbeLemmas.{has_mapped, mapped_has}
use Rattle.sqlite_keyed.proofs.ListLemmas.{all_weaker, all-filter, filter_all, filter_none, filter-map, filter_same}
use Rattle.sqlite_keyed.proofs.ListLemmas.{IsPermutation-filter, IsPermutation-same}
use Rattle.std.specs.List.Sorted.{IsStrictlySortedBy}
use Rattle.ledger.specs.Changes.{put_row as put_by_key}
use Rattle.sql_keep.specs.StoreContent.{AreRows, HaveNumbers}
use Rattle.keep.proofs.PlainRows.{put_sorted}
use Rattle.sql_keep.proofs.KeyPuts.{rows_put}
use Rattle.sql_keep.proofs.UpsertTrees.{Upserted}

-- a row whose rowid is free goes in beside the others
put_fresh : (new : Row) (rows : List Row) → is_taken rows new ≡ false → IsPermutation (put_row new rows) (new ∷ rows)
put_fresh new [] free = IsPermutation-refl _
put_fresh new (r ∷ rows) free = go (value_cmp (rowid r) (rowid new)) free (put_fresh new rows)
  where
    go : (o : Ordering) → (is_eq o || is_taken rows new) ≡ false
        → (is_taken rows new ≡ false → IsPermutation (put_row new rows) (new ∷ rows))
        → IsPermutation (match_ordering o (r ∷ put_row new rows) (new ∷ rows) (new ∷ r ∷ rows)) (new ∷ r ∷ rows)
    go Less h more = IsPermutation-trans _ _ _ (IsPermutation-cons r _ _ (more h)) (IsPermutation-middle (r ∷ []) new _)
    go Equal h more = absurd (true≢false h)
    go Greater h more = IsPermutation-refl _

pub has_permuted : (xs ys : List Row) (x : Row) → IsPermutation xs ys → Has ys x → Has xs x
has_permuted xs ys x same h =
    all_has (Has xs) ys x (recursion_from_All (Has xs) ys
    (All-permutation (Has xs) xs ys same (All-from_recursion (Has xs) xs (all_from (Has xs) xs (λ e k. k))))) h

filter_like : (p q : Row → Bool) (rows : List Row) → ((r : Row) → Has rows r → p r ≡ q r) → filter p rows ≡ filter q rows
filter_like p q [] like = refl
filter_like p q (r ∷ rows) like = rw (like r (inl refl), filter_like p q rows (λ s h. like s (inr h))) refl

alike_if : (a b : Bool) → (a ≡ true → b ≡ true) → (b ≡ true → a ≡ true) → a ≡ b
alike_if true b f g = sym (f refl)
alike_if false true f g = g refl
alike_if false false f g = refl

one_at_most : (xs : List Row) (x : Row) → Has xs x → length xs ≤ 1 → xs ≡ x ∷ []
one_at_most [] x h len = absurd h
one_at_most (y ∷ []) x (inl e) len = ap (λ z. z ∷ []) (sym e)
one_at_most (y ∷ []) x (inr none) len = absurd none
one_at_most (y ∷ z ∷ more) x h len = absurd (omega (arith, len))

only_one : (x r : Row) → Has (x ∷ []) r → r ≡ x
only_one x r (inl e) = e
only_one x r (inr none) = absurd none

-- the rowids stay integers
pub numbers_stay : (schema : Schema) (table : Table) (target : List ℕ) (new : Row) (old next : Trees) (kept : Row)
    → IsTrue (is_int (rowid new)) → HaveNumbers (old table.tree)
    → Upserted schema table target new old next kept → HaveNumbers (next table.tree)
numbers_stay schema table target new old next kept int all h = elim h.made [
  | inl a ↦ subst HaveNumbers (sym a.rows) (all-put_row (λ r. IsTrue (is_int (rowid r))) new (old table.tree) int all)
  | inr a ↦ subst HaveNumbers (sym a.rows)
      (all-put_row (λ r. IsTrue (is_int (rowid r))) (rowid a.was ∷ kept) _
      (all_has (λ r. IsTrue (is_int (rowid r))) (old table.tree) a.was all a.there)
      (all-filter (λ r. IsTrue (is_int (rowid r))) (λ r. not (has_rowid (id_in (rowid a.was)) r)) (old table.tree) all))
]

module _ {X : Type 0} (cmp : X → X → Ordering) (total : IsTotalOrder cmp) where
  below_apart : (x z : X) → cmp x z ≡ Less → is_eq (cmp z x) ≡ false
  below_apart x z e = ap is_eq (total.antisymm z x ∙ ap ordering_reverse e)

  once_in : (x : X) (xs : List X) → IsStrictlySortedBy cmp xs → length (filter (λ y. is_eq (cmp y x)) xs) ≤ 1
  unfolding IsStrictlySortedBy
  once_in x [] up = omega arith
  once_in x (y ∷ ys) up = go (cmp y x) refl (once_in x ys up.1)
    where
      go : (o : Ordering) → cmp y x ≡ o → length (filter (λ y. is_eq (cmp y x)) ys) ≤ 1
          → length (cond (is_eq o) (y ∷ filter (λ y. is_eq (cmp y x)) ys) (filter (λ y. is_eq (cmp y x)) ys)) ≤ 1
      go Less e more = more
      go Greater e more = more
      go Equal e more =
          let none : filter (λ y. is_eq (cmp y x)) ys ≡ [] =
          filter_none (λ y. is_eq (cmp y x)) ys
          (all_weaker _ (λ z. is_eq (cmp z x) ≡ false) (λ z h. below_apart x z (sym (total.congr y x z e) ∙ h))
          ys up.0) in
          rw none (omega arith)

  module _ (shows : Row → Row) (cells : X → Row) (x : X) (same : Row → Bool)
      (tells : (y : X) → same (cells y) ≡ is_eq (cmp y x)) where
    -- one row at most has the key
    pub once : (rows : List Row) (xs : List X) → AreRows cmp shows cells rows xs → length (filter (λ r. same (shows r)) rows) ≤ 1
    once rows xs are =
        let a : length (filter same (map shows rows)) ≡ length (filter (λ r. same (shows r)) rows) =
        ap length (filter-map same shows rows) ∙ length-map (filter (λ r. same (shows r)) rows) shows in
        let b : length (filter same (map cells xs)) ≡ length (filter (λ y. is_eq (cmp y x)) xs) =
        ap length (filter-map same cells xs) ∙ length-map (filter (λ y. same (cells y)) xs) cells
        ∙ ap length (filter_same (λ y. same (cells y)) (λ y. is_eq (cmp y x)) tells xs) in
        let c = length_permutation _ _ (IsPermutation-filter same _ _ are.same) in
        let d = once_in x xs are.sorted in
        omega (arith, a, b, c, d)

    pub shown_key : (rows : List Row) (xs : List X) → AreRows cmp shows cells rows xs → (r : Row) → Has rows r
        → same (shows r) ≡ true → (y : X) × (shows r ≡ cells y) × (is_eq (cmp y x) ≡ true)
    shown_key rows xs are r there is =
        let shown =
        has_permuted (map cells xs) (map shows rows) (shows r) (IsPermutation-sym _ _ are.same)
        (mapped_has shows rows r there) in
        let y = has_mapped cells xs (shows r) shown in
        (y.0, y.2, sym (tells y.0) ∙ ap same (sym y.2) ∙ is)

    pub rows_upserted : (schema : Schema) (table : Table) (target : List ℕ) (new : Row) (old next : Trees) (kept : Row)
        (xs : List X)
        → ((r : Row) → Has (old table.tree) r → conflicts (Some target) schema.indexes table new r ≡ same (shows r))
        → shows new ≡ cells x
        → ((was : Row) → Has (old table.tree) was → same (shows was) ≡ true → shows (rowid was ∷ kept) ≡ cells x)
        → AreRows cmp shows cells (old table.tree) xs → Upserted schema table target new old next kept
        → IsPermutation (map shows (next table.tree)) (map cells (put_by_key cmp x xs))
    rows_upserted schema table target new old next kept xs meant shown remade are h = elim h.made [
      | inl a ↦
          let none =
          all_from (λ r. not (same (shows r)) ≡ true) (old table.tree)
          (λ r there. ap not (sym (meant r there) ∙ a.none r there)) in
          let left : filter (λ r. not (same (shows r))) (old table.tree) ≡ old table.tree = filter_all _ (old table.tree) none in
          rows_put cmp total shows cells x same tells (old table.tree) (next table.tree) new xs shown
          (IsPermutation-trans _ _ _ (IsPermutation-same _ _ a.rows)
          (IsPermutation-trans _ _ _ (put_fresh new _ a.fresh)
          (IsPermutation-same _ _ (ap (λ l. new ∷ l) (sym left))))) are
      | inr a ↦
          let id = id_in (rowid a.was) in
          let is = sym (meant a.was a.there) ∙ a.has_key in
          let by_key : filter (λ r. same (shows r)) (old table.tree) ≡ a.was ∷ [] =
          one_at_most _ a.was (has_kept _ (old table.tree) a.was a.there is) (once (old table.tree) xs are) in
          let goes = λ (r : Row) (there : Has (old table.tree) r) (e : has_rowid id r ≡ true).
          subst (λ s. same (shows s) ≡ true)
          (sym (only_one a.was r
          (subst (λ l. Has l r) a.alone (has_kept (has_rowid id) (old table.tree) r there e)))) is in
          let has : has_rowid id a.was ≡ true =
          (has_filtered (has_rowid id) (old table.tree) a.was
          (subst (λ l. Has l a.was) (sym a.alone) (inl refl))).1 in
          let comes = λ (r : Row) (there : Has (old table.tree) r) (e : same (shows r) ≡ true).
          subst (λ s. has_rowid id s ≡ true)
          (sym (only_one a.was r
          (subst (λ l. Has l r) by_key (has_kept (λ r. same (shows r)) (old table.tree) r there e)))) has in
          let left : without_rowid id (old table.tree) ≡ filter (λ r. not (same (shows r))) (old table.tree) =
          filter_like _ _ (old table.tree) (λ r there. ap not (alike_if _ _ (goes r there) (comes r there))) in
          rows_put cmp total shows cells x same tells (old table.tree) (next table.tree) (rowid a.was ∷ kept) xs
          (remade a.was a.there is)
          (IsPermutation-trans _ _ _ (IsPermutation-same _ _ a.rows)
          (IsPermutation-trans _ _ _ (put_fresh _ _ a.fresh)
          (IsPermutation-same _ _ (ap (λ l. (rowid a.was ∷ kept) ∷ l) left)))) are
    ]

-- the rows of the table after the upsert
module _ {X : Type 0} (cmp : X → X → Ordering) (total : IsTotalOrder cmp) (shows : Row → Row) (cells : X → Row) (x : X)
    (same : Row → Bool) (tells : (y : X) → same (cells y) ≡ is_eq (cmp y x)) where
  pub rows_kept : (schema : Schema) (table : Table) (target : List ℕ) (new : Row) (old next : Trees) (kept : Row) (xs : List X)
      → ((r : Row) → Has (old table.tree) r → conflicts (Some target) schema.indexes table new r ≡ same (shows r))
      → shows new ≡ cells x
      → ((was : Row) → Has (old table.tree) was → same (shows was) ≡ true → shows (rowid was ∷ kept) ≡ cells x)
      → IsTrue (is_int (rowid new))
      → AreRows cmp shows cells (old table.tree) xs → Upserted schema table target new old next kept
      → AreRows cmp shows cells (next table.tree) (put_by_key cmp x xs)
  rows_kept schema table target new old next kept xs meant shown remade number are h = record {
    same = rows_upserted cmp total shows cells x same tells schema table target new old next kept xs meant shown remade are h;
    sorted = put_sorted cmp total x xs are.sorted;
    numbers = numbers_stay schema table target new old next kept number are.numbers h;
  }
