-- Answers that were read are the rows that the tree holds.
use Rattle.std.proofs.Common.{arith, ◌≡◌, List, [], ◌∷◌, IsTrue, ap₂, map, refl, subst, IsPermutation}
use Rattle.std.specs.List.{AllZip, AllByRecursion}
use Rattle.std.specs.List.Sorted.{IsStrictlySortedBy}
use Rattle.std.proofs.lemmas.List.Sorted.{IsPermutation-map, IsPermutation-sym, All-permutation}
use Rattle.std.proofs.lemmas.List.Elements.{recursion_from_All, All-from_recursion}
use Rattle.sqlite.specs.Order.{Row, column}
use Rattle.sqlite_keyed.proofs.ListLemmas.{all_unmap, all_weaker}
use Rattle.sqlite_trees.specs.Tree.{rowid}
use Rattle.sqlite_trees.specs.View.{is_int}
use Rattle.sql_keep.specs.StoreContent.{Stores}
use Rattle.keep.specs.TableRows.{Cells, key_cmp}
use Rattle.sql_keep.specs.Description.{columns, rowid_at, selected, shown, stored}
use Rattle.sql_keep.specs.Loads.{IsShown}
use Rattle.keep.specs.declared.table_row.TableName.{TableName}

-- an answer shows what is stored
shows : (t : TableName) (r : Row) → shown t (selected t r) ≡ stored t r
shows t r = grind arith

number : (t : TableName) (r : Row) → column (selected t r) (rowid_at t) ≡ rowid r
number t r = grind arith

module _ {R : Type 0} (t : TableName) (cells : R → Cells t) where
  abbrev Is : Row → R → Type 0
  Is answer row = IsShown t answer (cells row)

  read : (answers : List Row) (rows : List R) → AllZip Is answers rows → map (shown t) answers ≡ map (columns t) (map cells rows)
  read [] [] h = refl
  read [] (row ∷ rows) h = absurd h
  read (answer ∷ answers) [] h = absurd h
  read (answer ∷ answers) (row ∷ rows) h = ap₂ ◌∷◌ h.0.0 (read answers rows h.1)

  are_numbers : (answers : List Row) (rows : List R) → AllZip Is answers rows
      → AllByRecursion (λ a. IsTrue (is_int (column a (rowid_at t)))) answers
  are_numbers [] [] h = tt
  are_numbers [] (row ∷ rows) h = absurd h
  are_numbers (answer ∷ answers) [] h = absurd h
  are_numbers (answer ∷ answers) (row ∷ rows) h = (h.0.1, are_numbers answers rows h.1)

  as_stored : (tree : List Row) → map (shown t) (map (selected t) tree) ≡ map (stored t) tree
  as_stored [] = refl
  as_stored (r ∷ tree) = ap₂ ◌∷◌ (shows t r) (as_stored tree)

  pub loaded : (tree answers : List Row) (rows : List R) → IsPermutation (map (selected t) tree) answers
      → AllZip Is answers rows → IsStrictlySortedBy (key_cmp t) (map cells rows) → Stores t tree (map cells rows)
  loaded tree answers rows same is sorted = record {
    same =
        subst (IsPermutation (map (stored t) tree)) (read answers rows is)
        (subst (λ l. IsPermutation l (map (shown t) answers)) (as_stored tree)
        (IsPermutation-map (shown t) _ _ same));
    sorted = sorted;
    numbers = all_weaker (λ r. IsTrue (is_int (column (selected t r) (rowid_at t)))) (λ r. IsTrue (is_int (rowid r)))
        (λ r h. subst (λ v. IsTrue (is_int v)) (number t r) h) tree
        (all_unmap (λ a. IsTrue (is_int (column a (rowid_at t)))) (selected t) tree
        (recursion_from_All _ _ (All-permutation (λ a. IsTrue (is_int (column a (rowid_at t)))) answers
        (map (selected t) tree) (IsPermutation-sym _ _ same)
        (All-from_recursion _ answers (are_numbers answers rows is)))));
  }
