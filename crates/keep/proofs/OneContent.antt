-- Rows in the order of their keys are one list, and contents with the same rows are one.
use Rattle.std.proofs.Common.{◌≡◌, ◌∙◌, ap, ap₂, inl, inr, List, [], ◌∷◌, map, refl, sym, Ordering, Less, IsPermutation, subst}
use Rattle.std.specs.List.{AllByRecursion}
use Rattle.std.specs.List.Sorted.{IsStrictlySortedBy}
use Rattle.std.specs.Cmp.{IsTotalOrder}
use Rattle.std.specs.Ordering.{ordering_reverse}
use Rattle.std.proofs.lemmas.List.Elements.{recursion_from_All, All-from_recursion}
use Rattle.std.proofs.lemmas.List.Sorted.{All-permutation, IsPermutation-map, IsPermutation-sym, IsPermutation-trans}
use Rattle.ledger.specs.Rows.{Content}
use Rattle.keep.specs.Content.{IsAmong}
use Rattle.keep.specs.TableRows.{rows_of}
use Rattle.keep.specs.declared.table_row.TableName.{TableName}
use Rattle.keep.specs.declared.table_row.TableName.TheVariants as table
use Rattle.keep.proofs.Among.{of_each, there_again, to_each}

module _ {X : Type 0} (cmp : X → X → Ordering) (total : IsTotalOrder cmp) where
  never_both : (a b : X) → cmp a b ≡ Less → cmp b a ≡ Less → ⊥
  never_both a b p q = let e = sym p ∙ total.antisymm a b ∙ ap ordering_reverse q in absurd (cc)

  -- two rising lists with the same elements are one
  same_rising : (xs ys : List X) → IsStrictlySortedBy cmp xs → IsStrictlySortedBy cmp ys
      → ((r : X) → IsAmong xs r → IsAmong ys r) → ((r : X) → IsAmong ys r → IsAmong xs r) → xs ≡ ys
  unfolding IsStrictlySortedBy
  same_rising [] [] p q a b = refl
  same_rising [] (y ∷ ys) p q a b = absurd (b y (inl refl))
  same_rising (x ∷ xs) [] p q a b = absurd (a x (inl refl))
  same_rising (x ∷ xs) (y ∷ ys) p q a b =
      let first : x ≡ y = elim (a x (inl refl)) [
        | inl e ↦ e
        | inr later ↦ elim (b y (inl refl)) [
          | inl e ↦ sym e
          | inr also ↦ absurd
              (never_both x y (of_each _ xs y p.0 also) (of_each _ ys x q.0 later))
        ]
      ] in
      let past =
      λ (z : X) (zs : List X) (up : AllByRecursion (λ r. cmp z r ≡ Less) zs) (r : X) (h : IsAmong zs r) (e : r ≡ z).
      let lower = rw e at (of_each _ zs r up h) in never_both z z lower lower in
      ap₂ ◌∷◌ first (same_rising xs ys p.1 q.1
      (λ r h. elim (a r (inr h)) [ inl e ↦ absurd (past x xs p.0 r h (e ∙ sym first)) | inr k ↦ k ])
      (λ r h. elim (b r (inr h)) [ inl e ↦ absurd (past y ys q.0 r h (e ∙ first)) | inr k ↦ k ]))

  among_permuted : (xs ys : List X) → IsPermutation xs ys → (r : X) → IsAmong ys r → IsAmong xs r
  among_permuted xs ys same r among =
      of_each (IsAmong xs) ys r (recursion_from_All (IsAmong xs) ys (All-permutation (IsAmong xs) xs ys same
      (All-from_recursion (IsAmong xs) xs (to_each (IsAmong xs) xs (λ x is. is))))) among

  -- rows that are shown as the same, in whatever order, are one list where each is told by how it is shown
  pub one_list : {Shown : Type 0} (show : X → Shown) (read : Shown → X) → ((x : X) → read (show x) ≡ x)
      → (shown : List Shown) (xs ys : List X) → IsPermutation shown (map show xs) → IsPermutation shown (map show ys)
      → IsStrictlySortedBy cmp xs → IsStrictlySortedBy cmp ys → ys ≡ xs
  one_list show read back shown xs ys as_xs as_ys up also =
      let between = IsPermutation-trans _ _ _ (IsPermutation-sym _ _ as_xs) as_ys in
      let perm : IsPermutation xs ys =
      subst (λ l. IsPermutation l ys) (there_again show read back xs)
      (subst (IsPermutation (map read (map show xs))) (there_again show read back ys)
      (IsPermutation-map read _ _ between)) in
      same_rising ys xs also up (among_permuted xs ys perm) (among_permuted ys xs (IsPermutation-sym _ _ perm))

-- contents with the same rows in each table are one
pub same_content : (x y : Content) → ((t : TableName) → rows_of t x ≡ rows_of t y) → x ≡ y
same_content x y same = λ i. record {
  desk = same table.Desk i;
  fields = same table.Field i;
  moves = same table.Move i;
  orders = same table.Orders i;
  lines = same table.Line i;
  kept = same table.Kept i;
  firms = same table.Firm i;
}
