-- The answer of the select on `desk`, and the row that its tree holds.
use Rattle.std.proofs.Common.{◌≡◌, ℤ, List, [], ◌∷◌, IsTrue, Option, Some, None, Ok, Err, Result, ap, map, refl, subst}
use Rattle.std.proofs.Common.{IsPermutation}
use Rattle.std.specs.Prelude.{IfOk, IfSome, MatchOption}
use Rattle.std.specs.List.{AllByRecursion}
use Rattle.std.specs.List.Sorted.{IsStrictlySortedBy}
use Rattle.std.proofs.lemmas.List.Sorted.{IsPermutation-map, IsPermutation-sym, IsPermutation-trans, All-permutation}
use Rattle.std.proofs.lemmas.List.Elements.{recursion_from_All, All-from_recursion}
use Rattle.sqlite.specs.declared.error.Error.{Error}
use Rattle.sqlite.specs.Order.{Row, column}
use Rattle.sqlite.specs.State.{State, IsUnchanged, HasCleanDisk}
use Rattle.sqlite.proofs.Callers.{one_permutation}
use Rattle.sqlite_keyed.proofs.ListLemmas.{all_unmap, map-map}
use Rattle.sqlite_trees.specs.View.{is_int}
use Rattle.ledger.specs.declared.rows.DeskRow.{DeskRow}
use Rattle.ledger.specs.Rows.{DeskCells}
use Rattle.ledger.specs.Tables.{desk_cells}
use Rattle.keep.specs.TableRows.{key_cmp}
use Rattle.sql_keep.specs.Description.{columns, selected, shown, stored}
use Rattle.keep.specs.declared.table_row.TableName.TheVariants as table
use Rattle.keep.specs.Content.{IsOneRow, IsVersion}
use Rattle.sql_keep.specs.StoreContent.{Stores}
use Rattle.sql_keep.specs.Loads.{IsOneAnswer, Reads}

alone : (x : DeskCells) → IsStrictlySortedBy (key_cmp table.Desk) (x ∷ [])
unfolding IsStrictlySortedBy
alone x = (tt, tt)

-- the one answer is the one row
one_row : (version : ℤ) (tree answers : List Row) (row : DeskCells)
    → IsPermutation (map (selected table.Desk) tree) answers → IsOneAnswer version answers row
    → Stores table.Desk tree (row ∷ [])
one_row version tree answers row same is =
    let shows : IsPermutation (map (stored table.Desk) tree) (columns table.Desk row ∷ []) =
    subst (IsPermutation (map (stored table.Desk) tree)) is.same
    (subst (λ l. IsPermutation l (map (shown table.Desk) answers))
    (map-map (shown table.Desk) (selected table.Desk) tree)
    (IsPermutation-map (shown table.Desk) _ _ same)) in
    let P = λ (c : Row). IsTrue (is_int (column c 0)) in
    let one : AllByRecursion P (columns table.Desk row ∷ []) = (refl, tt) in
    record {
      same = shows;
      sorted = alone row;
      numbers =
          all_unmap P (stored table.Desk) tree
          (recursion_from_All P (map (stored table.Desk) tree)
          (All-permutation P (columns table.Desk row ∷ []) (map (stored table.Desk) tree)
          (IsPermutation-sym _ _ shows) (All-from_recursion P (columns table.Desk row ∷ []) one)));
    }

-- rows of the tree that are one row of that version are what is answered
answered : (version : ℤ) (tree answers : List Row) (row : DeskCells)
    → IsPermutation (map (selected table.Desk) tree) answers → Stores table.Desk tree (row ∷ []) → IsVersion version row
    → IsOneAnswer version answers row
answered version tree answers row same are is = record {
  same =
      ap (map (shown table.Desk)) (one_permutation (columns table.Desk row) answers
      (IsPermutation-trans _ _ _ (IsPermutation-sym _ _ are.same) same));
  is_version = is;
}

module _ (version : ℤ) (old new : State) (answers : List Row)
    (rows : HasCleanDisk new → IsPermutation (map (selected table.Desk) (old.now.trees 0)) answers)
    (same : HasCleanDisk new → IsUnchanged old new) where
  abbrev Told : Result (Option DeskRow) Error → Type 0
  Told r =
      IfOk r (λ found. MatchOption found (¬ ((row : DeskCells) × IsOneAnswer version answers row))
      (λ row. IsOneAnswer version answers (desk_cells row)))

  pub version_if : (r : Result (Option DeskRow) Error) → Told r
      → IfOk r (λ found. IfSome found (λ row. IsVersion version (desk_cells row)))
  version_if (Ok (Some row)) h = h.is_version
  version_if (Ok None) h = tt
  version_if (Err e) h = tt

  pub found_if : (r : Result (Option DeskRow) Error) → Told r
      → IfOk r
      (λ found. IfSome found (λ row. Reads old new (λ trees. Stores table.Desk (trees 0) (desk_cells row ∷ []))))
  found_if (Ok (Some row)) h = λ clean. (same clean, one_row version _ _ (desk_cells row) (rows clean) h)
  found_if (Ok None) h = tt
  found_if (Err e) h = tt

  pub none_if : (r : Result (Option DeskRow) Error) → Told r
      → IfOk r (λ found.
      found ≡ None
      → Reads old new (λ trees. (xs : List DeskCells) → Stores table.Desk (trees 0) xs → ¬ IsOneRow version xs))
  none_if (Ok None) h = λ none clean. (
    same clean,
    λ xs are one.
        h (one.0, answered version _ _ one.0 (rows clean) (subst (Stores table.Desk (old.now.trees 0)) one.1 are) one.2),
  )
  none_if (Ok (Some row)) h = λ none. absurd (let e = none in cc)
  none_if (Err e) h = tt
