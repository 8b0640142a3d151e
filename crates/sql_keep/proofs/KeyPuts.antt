-- A row that is put in by its key, as a permutation.
use Rattle.std.proofs.Common.{◌≡◌, Bool, true, not, cond, List, [], ◌∷◌, map, filter, refl, sym, ap, ◌∙◌, Ordering}
use Rattle.std.proofs.Common.{Less, Equal, Greater, is_eq, IsPermutation, subst}
use Rattle.std.specs.List.{AllByRecursion}
use Rattle.std.specs.Cmp.{IsTotalOrder}
use Rattle.std.specs.Ordering.{ordering_reverse, match_ordering}
use Rattle.std.proofs.lemmas.List.Sorted.{IsPermutation-refl, IsPermutation-cons, IsPermutation-trans}
use Rattle.std.proofs.lemmas.List.Sorted.{IsPermutation-middle, IsPermutation-map, IsPermutation-sym}
use Rattle.sqlite.specs.Order.{Row}
use Rattle.sqlite_keyed.proofs.ListLemmas.{all_weaker, filter_all, filter-map, filter_same, IsPermutation-filter}
use Rattle.sqlite_keyed.proofs.ListLemmas.{IsPermutation-same}
use Rattle.std.specs.List.Sorted.{IsStrictlySortedBy}
use Rattle.ledger.specs.Changes.{put_row}
use Rattle.sql_keep.specs.StoreContent.{AreRows}

-- the same row by row from the other side
abbrev put_by : {X : Type 0} → (X → X → Ordering) → List X → X → List X
put_by cmp [] new = new ∷ []
put_by cmp (x ∷ xs) new = match_ordering (cmp x new) (x ∷ put_by cmp xs new) (new ∷ xs) (new ∷ x ∷ xs)

put_is : {X : Type 0} (cmp : X → X → Ordering) (total : IsTotalOrder cmp) (x : X) (xs : List X)
    → put_row cmp x xs ≡ put_by cmp xs x
put_is cmp total x [] = refl
put_is cmp total x (y ∷ ys) = go (cmp y x) (total.antisymm x y) (put_is cmp total x ys)
  where
    go : (o : Ordering) → cmp x y ≡ ordering_reverse o → put_row cmp x ys ≡ put_by cmp ys x
        → put_row cmp x (y ∷ ys) ≡ match_ordering o (y ∷ put_by cmp ys x) (x ∷ ys) (x ∷ y ∷ ys)
    go Less e more = rw e (ap (λ l. y ∷ l) more)
    go Equal e more = rw e refl
    go Greater e more = rw e refl

module _ {X : Type 0} (cmp : X → X → Ordering) (total : IsTotalOrder cmp) where
  abbrev pub others : X → List X → List X
  others x = filter (λ y. not (is_eq (cmp y x)))

  above : (x y : X) → cmp y x ≡ Greater → cmp x y ≡ Less
  above x y e = total.antisymm x y ∙ ap ordering_reverse e

  apart : (x y : X) → cmp x y ≡ Less → not (is_eq (cmp y x)) ≡ true
  apart x y e = ap (λ o. not (is_eq o)) (total.antisymm y x ∙ ap ordering_reverse e)

  kept : (x : X) (ys : List X) → AllByRecursion (λ y. cmp x y ≡ Less) ys → others x ys ≡ ys
  kept x ys below = filter_all _ ys (all_weaker _ (λ y. not (is_eq (cmp y x)) ≡ true) (λ y h. apart x y h) ys below)

  put_permutes : (x : X) (xs : List X) → IsStrictlySortedBy cmp xs → IsPermutation (put_by cmp xs x) (x ∷ others x xs)
  unfolding IsStrictlySortedBy
  put_permutes x [] up = IsPermutation-refl _
  put_permutes x (y ∷ ys) up = go (cmp y x) refl (put_permutes x ys up.1)
    where
      go : (o : Ordering) → cmp y x ≡ o → IsPermutation (put_by cmp ys x) (x ∷ others x ys)
          → IsPermutation (match_ordering o (y ∷ put_by cmp ys x) (x ∷ ys) (x ∷ y ∷ ys))
          (x ∷ cond (not (is_eq o)) (y ∷ others x ys) (others x ys))
      go Less e more = IsPermutation-trans _ _ _ (IsPermutation-cons y _ _ more) (IsPermutation-middle (y ∷ []) x _)
      go Equal e more =
          IsPermutation-same _ _ (ap (λ l. x ∷ l)
          (sym (kept x ys (all_weaker _ (λ z. cmp x z ≡ Less) (λ z h. sym (total.congr y x z e) ∙ h) ys up.0))))
      go Greater e more =
          IsPermutation-same _ _ (ap (λ l. x ∷ y ∷ l)
          (sym (kept x ys (all_weaker _ (λ z. cmp x z ≡ Less) (λ z h. total.trans x y z (above x y e) h) ys up.0))))

  -- the rows after one that has a key is put in place of those that have it
  module _ (shows : Row → Row) (cells : X → Row) (x : X) (same : Row → Bool)
      (tells : (y : X) → same (cells y) ≡ is_eq (cmp y x)) where
    pub rows_put : (rows next : List Row) (new : Row) (xs : List X) → shows new ≡ cells x
        → IsPermutation next (new ∷ filter (λ r. not (same (shows r))) rows)
        → AreRows cmp shows cells rows xs → IsPermutation (map shows next) (map cells (put_row cmp x xs))
    rows_put rows next new xs shown put are =
        IsPermutation-trans _ _ _ (IsPermutation-map shows _ _ put)
        (IsPermutation-trans _ _ _
        (IsPermutation-same (map shows (new ∷ filter (λ r. not (same (shows r))) rows))
        (cells x ∷ filter (λ c. not (same c)) (map shows rows)) first)
        (IsPermutation-trans _ _ _
        (IsPermutation-cons (cells x) _ _ (IsPermutation-filter (λ c. not (same c)) _ _ are.same))
        (IsPermutation-trans _ _ _
        (IsPermutation-same (cells x ∷ filter (λ c. not (same c)) (map cells xs)) (map cells (x ∷ others x xs)) second)
        (IsPermutation-map cells _ _
        (IsPermutation-sym _ _ (subst (λ l. IsPermutation l (x ∷ others x xs)) (sym (put_is cmp total x xs))
        (put_permutes x xs are.sorted)))))))
      where
        first : map shows (new ∷ filter (λ r. not (same (shows r))) rows) ≡ cells x ∷ filter (λ c. not (same c)) (map shows rows)
        first =
            ap (λ c. c ∷ map shows (filter (λ r. not (same (shows r))) rows)) shown
            ∙ ap (λ l. cells x ∷ l) (sym (filter-map (λ c. not (same c)) shows rows))

        second : cells x ∷ filter (λ c. not (same c)) (map cells xs) ≡ map cells (x ∷ others x xs)
        second =
            ap (λ l. cells x ∷ l) (filter-map (λ c. not (same c)) cells xs
            ∙ ap (map cells)
            (filter_same (λ y. not (same (cells y))) (λ y. not (is_eq (cmp y x))) (λ y. ap not (tells y)) xs))
