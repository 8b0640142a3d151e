-- Rows that are put in by their keys.
use Rattle.ledger.proofs.Prelude.{Bool, Changes, Each, Effect, Equal, Greater, IsStrictlySortedBy, IsTotalOrder, Less}
use Rattle.ledger.proofs.Prelude.{List, Nothing, Opens, Order, Ordering, Step, [], ap, append-nil, arith, common_steps}
use Rattle.ledger.proofs.Prelude.{false, filter, flat_map, if◌then◌else◌, inl, inr, insert_in_order, ints, map, opening}
use Rattle.ledger.proofs.Prelude.{ordering_reverse, orders_after, put_row, put_rows, refl, steps, subst, sym, total}
use Rattle.ledger.proofs.Prelude.{true, turn, ◌++◌, ◌∙◌, ◌∷◌, ◌≡◌, ◌⊎◌}
use Rattle.ledger.proofs.Sums.{each-imp}
use Rattle.ledger.specs.Changes.{put_content}
use Rattle.ledger.specs.Rows.{Content}
use Rattle.ledger.specs.Tables.{no_content, rows_among, with_change}
use Rattle.ledger.specs.declared.rows.Change.{Change}
use Rattle.ledger.proofs.Steps.{EffectGoes, Goes}
use Rattle.ledger.specs.declared.rows.Change.TheVariants as change

-- Row by row, the second list has the first one's rows, with new ones between; those that are new or are not as they were
-- are the list of new rows.
abbrev pub Follows : {R : Type 0} → (R → R → Ordering) → List R → List R → List R → Type 0
Follows cmp new xs [] = (new ≡ []) × (xs ≡ [])
Follows {R = R} cmp new xs (y ∷ ys) = ((more : List R) × (new ≡ y ∷ more) × Follows cmp more xs ys)
    ⊎ ((x : R) × (rest : List R) × (more : List R) × (xs ≡ x ∷ rest) × (new ≡ y ∷ more) × (cmp y x ≡ Equal)
    × Follows cmp more rest ys)
    ⊎ ((rest : List R) × (xs ≡ y ∷ rest) × Follows cmp new rest ys)

-- rows after y are put after y
past : {R : Type 0} (cmp : R → R → Ordering) (y : R) (rs zs : List R) → Each (λ r. cmp r y ≡ Greater) rs
    → put_rows cmp rs (y ∷ zs) ≡ y ∷ put_rows cmp rs zs
past cmp y [] zs h = refl
past cmp y (r ∷ rs) zs h = let more = past cmp y rs (put_row cmp r zs) h.1 in cc

turned : {R : Type 0} {cmp : R → R → Ordering} → IsTotalOrder cmp → (y r : R) → cmp y r ≡ Less → cmp r y ≡ Greater
turned o y r e = o.antisymm r y ∙ ap ordering_reverse e

below : {R : Type 0} (cmp : R → R → Ordering) → IsTotalOrder cmp → (z : R) (new xs ys : List R)
    → Follows cmp new xs ys → Each (λ y. cmp z y ≡ Less) ys → Each (λ x. cmp z x ≡ Less) xs
below cmp o z new xs [] f h = subst (λ xs. Each (λ x. cmp z x ≡ Less) xs) (sym f.1) tt
below cmp o z new xs (y ∷ ys) (inl f) h = below cmp o z f.0 xs ys f.2 h.1
below cmp o z new xs (y ∷ ys) (inr (inl f)) h = let more = below cmp o z f.2 f.1 ys f.6 h.1 in grind arith
below cmp o z new xs (y ∷ ys) (inr (inr f)) h =
    subst (λ xs. Each (λ x. cmp z x ≡ Less) xs) (sym f.1) (h.0, below cmp o z new f.0 ys f.2 h.1)

-- the new rows are among those of the second list
within : {R : Type 0} (P : R → Type 0) (cmp : R → R → Ordering) (new xs ys : List R) → Follows cmp new xs ys
    → Each P ys → Each P new
within P cmp new xs [] f h = subst (Each P) (sym f.0) tt
within P cmp new xs (y ∷ ys) (inl f) h = subst (Each P) (sym f.1) (h.0, within P cmp f.0 xs ys f.2 h.1)
within P cmp new xs (y ∷ ys) (inr (inl f)) h = subst (Each P) (sym f.4) (h.0, within P cmp f.2 f.1 ys f.6 h.1)
within P cmp new xs (y ∷ ys) (inr (inr f)) h = within P cmp new f.0 ys f.2 h.1

put_first : {R : Type 0} (cmp : R → R → Ordering) (y : R) (xs : List R) → Each (λ x. cmp y x ≡ Less) xs
    → put_row cmp y xs ≡ y ∷ xs
put_first cmp y [] h = refl
put_first cmp y (x ∷ xs) h = rw h.0 refl

pub put_all : {R : Type 0} (cmp : R → R → Ordering) → IsTotalOrder cmp → (new xs ys : List R)
    → IsStrictlySortedBy cmp ys → Follows cmp new xs ys → put_rows cmp new xs ≡ ys
unfolding IsStrictlySortedBy
put_all cmp o new xs [] sorted f = ap (λ new. put_rows cmp new xs) f.0 ∙ f.1
put_all {R = R} cmp o new xs (y ∷ ys) sorted (inl f) =
    ap (λ (new : List R). put_rows cmp new xs) f.1
    ∙ ap (put_rows cmp f.0) (put_first cmp y xs (below cmp o y f.0 xs ys f.2 sorted.0))
    ∙ past cmp y f.0 xs (after y ys f.0 xs f.2 sorted.0)
    ∙ ap (λ (rows : List R). y ∷ rows) (put_all cmp o f.0 xs ys sorted.1 f.2)
  where
    after : (y : R) (ys new xs : List R) → Follows cmp new xs ys → Each (λ r. cmp y r ≡ Less) ys
        → Each (λ r. cmp r y ≡ Greater) new
    after y ys new xs f h = within (λ r. cmp r y ≡ Greater) cmp new xs ys f (each-imp (λ r k. turned o y r k) ys h)
put_all {R = R} cmp o new xs (y ∷ ys) sorted (inr (inl f)) =
    (λ i. put_rows cmp (f.4 i) (f.3 i)) ∙ ap (put_rows cmp f.2) (replaced f.0 f.1 f.5)
    ∙ past cmp y f.2 f.1 (within (λ r. cmp r y ≡ Greater) cmp f.2 f.1 ys f.6 (each-imp (λ r k. turned o y r k) ys sorted.0))
    ∙ ap (λ (rows : List R). y ∷ rows) (put_all cmp o f.2 f.1 ys sorted.1 f.6)
  where
    replaced : (x : R) (rest : List R) → cmp y x ≡ Equal → put_row cmp y (x ∷ rest) ≡ y ∷ rest
    replaced x rest e = rw e refl
put_all {R = R} cmp o new xs (y ∷ ys) sorted (inr (inr f)) =
    ap (put_rows cmp new) f.1
    ∙ past cmp y new f.0 (within (λ r. cmp r y ≡ Greater) cmp new f.0 ys f.2 (each-imp (λ r k. turned o y r k) ys sorted.0))
    ∙ ap (λ (rows : List R). y ∷ rows) (put_all cmp o new f.0 ys sorted.1 f.2)

pub follows-same : {R : Type 0} (cmp : R → R → Ordering) (xs : List R) → Follows cmp [] xs xs
follows-same cmp [] = (refl, refl)
follows-same cmp (x ∷ xs) = inr (inr (xs, refl, follows-same cmp xs))

-- all of them are new
pub follows-new : {R : Type 0} (cmp : R → R → Ordering) (ys : List R) → Follows cmp ys [] ys
follows-new cmp [] = (refl, refl)
follows-new cmp (y ∷ ys) = inl (ys, refl, follows-new cmp ys)

pub follows-join : {R : Type 0} (cmp : R → R → Ordering) (new xs ys more vs ws : List R) → Follows cmp new xs ys
    → Follows cmp more vs ws → Follows cmp (new ++ more) (xs ++ vs) (ys ++ ws)
follows-join cmp new xs [] more vs ws f g =
    subst (λ new. Follows cmp (new ++ more) (xs ++ vs) ws) (sym f.0) (subst (λ xs. Follows cmp more (xs ++ vs) ws) (sym f.1) g)
follows-join cmp new xs (y ∷ ys) more vs ws (inl f) g =
    inl (f.0 ++ more, ap (λ t. t ++ more) f.1, follows-join cmp f.0 xs ys more vs ws f.2 g)
follows-join cmp new xs (y ∷ ys) more vs ws (inr (inl f)) g =
    inr (inl (
      f.0,
      f.1 ++ vs,
      f.2 ++ more,
      ap (λ t. t ++ vs) f.3,
      ap (λ t. t ++ more) f.4,
      f.5,
      follows-join cmp f.2 f.1 ys more vs ws f.6 g,
    ))
follows-join cmp new xs (y ∷ ys) more vs ws (inr (inr f)) g =
    inr (inr (f.0 ++ vs, ap (λ t. t ++ vs) f.1, follows-join cmp new f.0 ys more vs ws f.2 g))

-- ---- rows of orders, step by step

-- a row in place of another with its key, or none where it is the same
pub follows-one : {R : Type 0} (cmp : R → R → Ordering) (b : Bool) (x y : R) → cmp y x ≡ Equal → (b ≡ false → x ≡ y)
    → Follows cmp (if b then y ∷ [] else []) (x ∷ []) (y ∷ [])
follows-one cmp true x y e same = grind (arith, ints, common_steps)
follows-one cmp false x y e same = grind (arith, ints, common_steps)

opened_follows : {R : Type 0} (cmp : R → R → Ordering) (rows : Order → List R) (new : List R) (p : Order → Order → Bool)
    (o : Order) (os : List Order)
    → Follows cmp new [] (rows o) → Follows cmp new (flat_map rows os) (flat_map rows (insert_in_order p o os))
opened_follows cmp rows new p o [] f =
    subst (λ n. Follows cmp n [] (rows o ++ [])) (append-nil new) (follows-join cmp new [] (rows o) [] [] [] f (refl, refl))
opened_follows {R = R} cmp rows new p o (m ∷ ms) f = by (p o m) (opened_follows cmp rows new p o ms f)
  where
    by : (b : Bool) → Follows cmp new (flat_map rows ms) (flat_map rows (insert_in_order p o ms))
        → Follows cmp new (flat_map rows (m ∷ ms)) (flat_map rows (if b then o ∷ m ∷ ms else m ∷ insert_in_order p o ms))
    by true more =
        subst (λ (n : List R). Follows cmp n (flat_map rows (m ∷ ms)) (rows o ++ flat_map rows (m ∷ ms))) (append-nil new)
        (follows-join cmp new [] (rows o) [] _ _ f (follows-same cmp (flat_map rows (m ∷ ms))))
    by false more = follows-join cmp [] (rows m) (rows m) new _ _ (follows-same cmp (rows m)) more

-- By its new rows each step's rows follow those before it, so with all new rows put in all follow.
module _ (R : Type 0) (cmp : R → R → Ordering) (rows : Order → List R) (new : Step → List R)
    (opened : (o : Order) → Follows cmp (new (opening o)) [] (rows o))
    (changed : (b a : Order) → Goes b a → Follows cmp (new (turn b a)) (rows b) (rows a)) where
  changed_follow : (names : Order → Bool) (change : Order → Order) (os : List Order)
      → Each (λ o. names o ≡ true → Goes o (change o)) os
      → Follows cmp (flat_map new (steps (Changes names change) os)) (flat_map rows os)
      (flat_map rows (map (λ o. if names o then change o else o) os))
  changed_follow names change [] goes = (refl, refl)
  changed_follow names change (o ∷ os) goes =
      grind (arith, ints, common_steps, (changed_follow names change os goes.1), steps, follows-join, follows-same)

  rows_follow : (e : Effect) (os : List Order) → EffectGoes e os
      → Follows cmp (flat_map new (steps e os)) (flat_map rows os) (flat_map rows (orders_after e os))
  rows_follow Nothing os goes = follows-same cmp (flat_map rows os)
  rows_follow (Opens o) os goes = grind (arith, ints, common_steps, opening, opened_follows)
  rows_follow (Changes names change) os goes = changed_follow names change os goes

  -- the new rows of all steps put into the rows of the orders
  pub steps_put : IsTotalOrder cmp → (e : Effect) (os : List Order)
      → IsStrictlySortedBy cmp (flat_map rows (orders_after e os)) → EffectGoes e os
      → put_rows cmp (flat_map new (steps e os)) (flat_map rows os) ≡ flat_map rows (orders_after e os)
  steps_put total e os sorted goes = put_all cmp total _ _ _ sorted (rows_follow e os goes)

-- ---- one row more

pub follows-insert : {X R : Type 0} (cmp : R → R → Ordering) (row : X → R) (p : X → X → Bool) (x : X) (xs : List X)
    → Follows cmp (row x ∷ []) (map row xs) (map row (insert_in_order p x xs))
follows-insert cmp row p x [] = inl ([], refl, (refl, refl))
follows-insert cmp row p x (y ∷ ys) = grind (arith, ints, common_steps, (follows-insert cmp row p x ys), follows-same)

pub follows-push : {X R : Type 0} (cmp : R → R → Ordering) (row : X → R) (x : X) (xs : List X)
    → Follows cmp (row x ∷ []) (map row xs) (map row (xs ++ x ∷ []))
follows-push cmp row x [] = inl ([], refl, (refl, refl))
follows-push cmp row x (y ∷ ys) = inr (inr (map row ys, refl, follows-push cmp row x ys))

-- rows of fields: of the second list those that pass are new, and the others are as they were
pub follows-map : {X R : Type 0} (cmp : R → R → Ordering) (chosen : R → Bool) (row new : X → R) (xs : List X)
    → Each (λ x. (cmp (new x) (row x) ≡ Equal) × (chosen (new x) ≡ false → row x ≡ new x)) xs
    → Follows cmp (filter chosen (map new xs)) (map row xs) (map new xs)
follows-map cmp chosen row new [] e = (refl, refl)
follows-map {R = R} cmp chosen row new (x ∷ xs) e = grind (arith, ints, common_steps, (follows-map cmp chosen row new xs e.1))

-- ---- lists of changes

-- one change, put in
one_put_in : (c : Change) (rest C : Content)
    → put_content (with_change c rest) C ≡ put_content rest (put_content (with_change c no_content) C)
one_put_in (change.Desk r) rest C = refl
one_put_in (change.Field r) rest C = refl
one_put_in (change.Move r) rest C = refl
one_put_in (change.Order r) rest C = refl
one_put_in (change.Line r) rest C = refl
one_put_in (change.Kept r) rest C = refl
one_put_in (change.Firm r) rest C = refl

-- the rows of two lists, put in one list after the other
pub put_in_turn : (a b : List Change) (C : Content)
    → put_content (rows_among (a ++ b)) C ≡ put_content (rows_among b) (put_content (rows_among a) C)
put_in_turn [] b C = refl
put_in_turn (c ∷ a) b C =
    one_put_in c (rows_among (a ++ b)) C ∙ put_in_turn a b (put_content (with_change c no_content) C)
    ∙ ap (λ (D : Content). put_content (rows_among b) D) (sym (one_put_in c (rows_among a) C))
