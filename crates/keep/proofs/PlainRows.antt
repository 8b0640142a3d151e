-- Rows that are put by their keys, in lists and as cells.
use Rattle.std.proofs.Common.{◌≡◌, ◌∙◌, ℕ, zero, suc, ◌+◌, ◌<◌, ◌≤◌, List, [], ◌∷◌, ◌++◌, Bool, true, false}
use Rattle.std.proofs.Common.{if◌then◌else◌, Result, Ok, Err, IfErr, IfOk, Less, Equal, add-one, ap, arith, drop}
use Rattle.std.proofs.Common.{get_or, length, map, refl, set, subst, sym, take}
use Rattle.std.proofs.lemmas.Cmp.{alike_right, tied_back}
use Rattle.std.proofs.Math.Seq.{take-suc}
use Rattle.std.proofs.lemmas.List.Elements.{AllZip-push}
use Rattle.std.specs.declared.cmp.Ordering.{Ordering}
use Rattle.std.specs.declared.cmp.Ordering.TheVariants.{Greater}
use Rattle.std.specs.Cmp.{IsTotalOrder, on_total}
use Rattle.std.specs.List.{AllByRecursion as Each, AllWithin, AllZip, insert}
use Rattle.std.specs.List.Sorted.{IsBinarySearchResult, IsNonDecreasingBy, IsSearchInRange, IsStrictlySortedBy}
use Rattle.std.specs.Ordering.{is_eq, is_lt, ordering_index, ordering_reverse}
use Rattle.ledger.specs.Changes.{put_row}
use Rattle.index.proofs.KeyPlaces.{index_rises}

module _ {R : Type 0} (cmp : R → R → Ordering) (o : IsTotalOrder cmp) where
  turned : (a b : R) → cmp a b ≡ Less → cmp b a ≡ Greater
  turned a b e = o.antisymm b a ∙ ap ordering_reverse e

  each_at : (x : R) (xs : List R) (i : ℕ) (d : R) → i < length xs → Each (λ y. cmp x y ≡ Less) xs → cmp x (get_or xs i d) ≡ Less
  each_at x [] i d lt h = absurd (omega arith)
  each_at x (y ∷ ys) zero d lt h = h.0
  each_at x (y ∷ ys) (suc i) d lt h = each_at x ys i d (omega arith) h.1

  -- the row with that key is replaced
  pub put_there : (row : R) (xs : List R) (i : ℕ) (d : R) → i < length xs → IsStrictlySortedBy cmp xs
      → cmp (get_or xs i d) row ≡ Equal → set xs i row ≡ put_row cmp row xs
  unfolding IsStrictlySortedBy
  put_there row [] i d lt sorted e = absurd (omega arith)
  put_there row (x ∷ xs) zero d lt sorted e = rw (tied_back o x row e) refl
  put_there row (x ∷ xs) (suc i) d lt sorted e =
      let after : cmp row x ≡ Greater =
      turned x row (sym (alike_right o (get_or xs i d) row x e) ∙ each_at x xs i d (omega arith) sorted.0) in
      rw after (ap (λ ys. x ∷ ys) (put_there row xs i d (omega arith) sorted.1 e))

  -- the row is put between those before it and those after it
  pub put_between : (row : R) (xs : List R) (i : ℕ) → i ≤ length xs → Each (λ x. cmp x row ≡ Less) (take i xs)
      → Each (λ x. cmp x row ≡ Greater) (drop i xs) → insert xs i row ≡ put_row cmp row xs
  put_between row [] zero le before after = refl
  put_between row [] (suc i) le before after = absurd (omega arith)
  put_between row (x ∷ xs) zero le before after =
      let first : cmp row x ≡ Less = o.antisymm row x ∙ ap ordering_reverse after.0 in rw first refl
  put_between row (x ∷ xs) (suc i) le before after =
      let later : cmp row x ≡ Greater = turned x row before.0 in
      rw later (ap (λ ys. x ∷ ys) (put_between row xs i (omega arith) before.1 after))

  -- a row that comes later is no less than the row that is looked for, where an earlier one is not
  rises : (row : R) (xs : List R) → IsStrictlySortedBy cmp xs → IsNonDecreasingBy (λ x. ordering_index (cmp x row)) xs
  unfolding IsStrictlySortedBy
  rises row [] sorted i j d le lt = absurd (omega arith)
  rises row (x ∷ xs) sorted zero zero d le lt = omega arith
  rises row (x ∷ xs) sorted zero (suc j) d le lt = index_rises o row x (get_or xs j d) (each_at x xs j d (omega arith) sorted.0)
  rises row (x ∷ xs) sorted (suc i) zero d le lt = absurd (omega arith)
  rises row (x ∷ xs) sorted (suc i) (suc j) d le lt = rises row xs sorted.1 i j d (omega arith) (omega arith)

  before : (P : R → Type 0) (xs : List R) (i : ℕ) → i ≤ length xs → AllWithin P xs 0 i → Each P (take i xs)
  before P xs zero le h = tt
  before P [] (suc i) le h = tt
  before P (x ∷ xs) (suc i) le h = (
    h zero x (omega arith) (omega arith),
    before P xs i (omega arith) (λ k d low high. h (suc k) d (omega arith) (omega arith)),
  )

  behind : (P : R → Type 0) (xs : List R) (i : ℕ) → AllWithin P xs i (length xs) → Each P (drop i xs)
  behind P [] zero h = tt
  behind P [] (suc i) h = tt
  behind P (x ∷ xs) zero h =
      (h zero x (omega arith) (omega arith), behind P xs zero (λ k d low high. h (suc k) d (omega arith) (omega arith)))
  behind P (x ∷ xs) (suc i) h = behind P xs i (λ k d low high. h (suc k) d (omega arith) (omega arith))

  -- where a search by halves ends
  searched : (row : R) (xs : List R) (r : Result ℕ ℕ) → IsStrictlySortedBy cmp xs → IsSearchInRange r (length xs)
      → IsBinarySearchResult (λ x. cmp x row) xs r
      → record {
        there : IfOk r (λ i. (i < length xs) × (set xs i row ≡ put_row cmp row xs));
        between : IfErr r (λ i. (i ≤ length xs) × (insert xs i row ≡ put_row cmp row xs));
      }
  searched row xs (Ok i) sorted within is = record {
    there = (within, put_there row xs i row within sorted (is row));
    between = tt;
  }
  searched row xs (Err i) sorted within is =
      let split = is (rises row xs sorted) in
      record {
        there = tt;
        between = (
          within,
          put_between row xs i within (before (λ x. cmp x row ≡ Less) xs i within split.0)
              (behind (λ x. cmp x row ≡ Greater) xs i split.1),
        );
      }

-- an element more, and its copy
pub copied : {X : Type 0} (Is : X → X → Type 0) (xs ys : List X) (i : ℕ) (x y : X) → i < length xs → x ≡ get_or xs i x
    → AllZip Is (take i xs) ys → Is x y → AllZip Is (take (i + 1) xs) (ys ++ y ∷ [])
copied Is xs ys i x y lt e h is =
    rw (add-one, take-suc xs i x) (AllZip-push Is (take i xs) ys (get_or xs i x) y h (subst (λ z. Is z y) e is))

all_taken : {X : Type 0} (n : ℕ) (xs : List X) → length xs ≤ n → take n xs ≡ xs
all_taken zero [] le = refl
all_taken (suc n) [] le = refl
all_taken zero (x ∷ xs) le = absurd (omega arith)
all_taken (suc n) (x ∷ xs) le = ap (λ ys. x ∷ ys) (all_taken n xs (omega arith))

pub copied_all : {X : Type 0} (Is : X → X → Type 0) (xs ys : List X) (n : ℕ) → length xs ≤ n → AllZip Is (take n xs) ys
    → AllZip Is xs ys
copied_all Is xs ys n le h = subst (λ zs. AllZip Is zs ys) (all_taken n xs le) h

-- ---- rows and their cells

sorted_behind : {X Y : Type 0} (view : X → Y) (cmp : Y → Y → Ordering) (x : X) (xs : List X)
    → Each (λ y. cmp (view x) y ≡ Less) (map view xs) → Each (λ y. cmp (view x) (view y) ≡ Less) xs
sorted_behind view cmp x [] h = tt
sorted_behind view cmp x (y ∷ ys) h = (h.0, sorted_behind view cmp x ys h.1)

-- copies have the same cells
pub same_cells : {X Y : Type 0} (view : X → Y) (xs ys : List X) → AllZip (λ a b. view b ≡ view a) xs ys
    → map view ys ≡ map view xs
same_cells view [] [] h = refl
same_cells view [] (y ∷ ys) h = absurd h
same_cells view (x ∷ xs) [] h = absurd h
same_cells view (x ∷ xs) (y ∷ ys) h = rw (h.0, same_cells view xs ys h.1) refl

-- where the cells are in order, so are the rows
sorted_rows : {X Y : Type 0} (view : X → Y) (cmp : Y → Y → Ordering) (xs : List X)
    → IsStrictlySortedBy cmp (map view xs) → IsStrictlySortedBy (λ a b. cmp (view a) (view b)) xs
unfolding IsStrictlySortedBy
sorted_rows view cmp [] sorted = tt
sorted_rows view cmp (x ∷ xs) sorted = (sorted_behind view cmp x xs sorted.0, sorted_rows view cmp xs sorted.1)

-- the cells of a row put are those of its cells put
put_cells : {X Y : Type 0} (view : X → Y) (cmp : Y → Y → Ordering) (row : X) (xs : List X)
    → map view (put_row (λ a b. cmp (view a) (view b)) row xs) ≡ put_row cmp (view row) (map view xs)
put_cells view cmp row [] = refl
put_cells view cmp row (x ∷ xs) =
    by (is_lt (cmp (view row) (view x))) (is_eq (cmp (view row) (view x))) (put_cells view cmp row xs)
  where
    by : (before there : Bool)
        → map view (put_row (λ a b. cmp (view a) (view b)) row xs) ≡ put_row cmp (view row) (map view xs)
        → map view (if before then row ∷ x ∷ xs
        else (if there then row ∷ xs else x ∷ put_row (λ a b. cmp (view a) (view b)) row xs))
        ≡ (if before then view row ∷ view x ∷ map view xs
        else (if there then view row ∷ map view xs else view x ∷ put_row cmp (view row) (map view xs)))
    by true there e = refl
    by false true e = refl
    by false false e = ap (λ ys. view x ∷ ys) e

-- where a search by halves ends, seen as cells
pub searched_cells : {X Y : Type 0} (view : X → Y) (cmp : Y → Y → Ordering) → IsTotalOrder cmp
    → (row : X) (xs : List X) (r : Result ℕ ℕ) → IsStrictlySortedBy cmp (map view xs) → IsSearchInRange r (length xs)
    → IsBinarySearchResult (λ x. cmp (view x) (view row)) xs r
    → record {
      there : IfOk r (λ i. (i < length xs) × (map view (set xs i row) ≡ put_row cmp (view row) (map view xs)));
      between : IfErr r (λ i. (i ≤ length xs) × (map view (insert xs i row) ≡ put_row cmp (view row) (map view xs)));
    }
searched_cells view cmp o row xs (Ok i) sorted within is =
    let there =
    (searched (λ a b. cmp (view a) (view b)) (on_total view o) row xs (Ok i) (sorted_rows view cmp xs sorted) within
    is).there in
    record { there = (there.0, ap (map view) there.1 ∙ put_cells view cmp row xs); between = tt }
searched_cells view cmp o row xs (Err i) sorted within is =
    let between =
    (searched (λ a b. cmp (view a) (view b)) (on_total view o) row xs (Err i) (sorted_rows view cmp xs sorted)
    within is).between in
    record { there = tt; between = (between.0, ap (map view) between.1 ∙ put_cells view cmp row xs) }

-- ---- rows stay in order

module _ {R : Type 0} (cmp : R → R → Ordering) (o : IsTotalOrder cmp) where
  later : (x row : R) (xs : List R) → cmp x row ≡ Less → Each (λ y. cmp x y ≡ Less) xs
      → Each (λ y. cmp x y ≡ Less) (put_row cmp row xs)
  later x row [] e h = (e, tt)
  later x row (y ∷ ys) e h = by (is_lt (cmp row y)) (is_eq (cmp row y)) (later x row ys e h.1)
    where
      by : (before there : Bool) → Each (λ z. cmp x z ≡ Less) (put_row cmp row ys)
          → Each (λ z. cmp x z ≡ Less)
          (if before then row ∷ y ∷ ys else (if there then row ∷ ys else y ∷ put_row cmp row ys))
      by true there rest = (e, h)
      by false true rest = (e, h.1)
      by false false rest = (h.0, rest)

  after : (a b : R) (xs : List R) → cmp a b ≡ Less → Each (λ y. cmp b y ≡ Less) xs → Each (λ y. cmp a y ≡ Less) xs
  after a b [] e h = tt
  after a b (y ∷ ys) e h = (o.trans a b y e h.0, after a b ys e h.1)

  alike : (a b : R) (xs : List R) → cmp a b ≡ Equal → Each (λ y. cmp b y ≡ Less) xs → Each (λ y. cmp a y ≡ Less) xs
  alike a b [] e h = tt
  alike a b (y ∷ ys) e h = (o.congr a b y e ∙ h.0, alike a b ys e h.1)

  pub put_sorted : (row : R) (xs : List R) → IsStrictlySortedBy cmp xs → IsStrictlySortedBy cmp (put_row cmp row xs)
  unfolding IsStrictlySortedBy
  put_sorted row [] sorted = (tt, tt)
  put_sorted row (x ∷ xs) sorted = by (cmp row x) refl (put_sorted row xs sorted.1)
    where
      by : (r : Ordering) → cmp row x ≡ r → IsStrictlySortedBy cmp (put_row cmp row xs)
          → IsStrictlySortedBy cmp
          (if is_lt r then row ∷ x ∷ xs else (if is_eq r then row ∷ xs else x ∷ put_row cmp row xs))
      by Less e rest = ((e, after row x xs e sorted.0), sorted)
      by Equal e rest = (alike row x xs e sorted.0, sorted.1)
      by Greater e rest = (later x row xs (o.antisymm x row ∙ ap ordering_reverse e) sorted.0, rest)
