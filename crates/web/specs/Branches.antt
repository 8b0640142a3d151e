-- Which branches have a field.
use Rattle.std.specs.Prelude.{◌↔◌, ℕ, Bool, false, if◌then◌else◌, [], ◌∷◌, Contains, List, None, Option, Some, map}
use Rattle.std.specs.Str.{bytes_eq}
use Rattle.std.specs.Cmp.Lexicographic.{slice_cmp}
use Rattle.std.specs.List.Sorted.{IsStrictlySortedBy}
use Rattle.std.specs.Ordering.{nat_cmp}
use Rattle.ledger.specs.Ledger.{Field}

-- the branches of the fields: fields in the order of their names have exactly one such list
pub record AreBranches (fields : List Field) (branches : List (List ℕ)) : Type 0 where
  -- the branches rise by their bytes, so each is there once
  pub in_order : IsStrictlySortedBy (slice_cmp nat_cmp) branches
  -- a branch is among them exactly where a field is at it
  pub same : (branch : List ℕ) → Contains branches branch ↔ Contains (map (λ f. f.name.branch) fields) branch

-- ---- how they are listed (private)

-- the branch is the one that came just before
abbrev pub is_again : Option (List ℕ) → List ℕ → Bool
is_again None branch = false
is_again (Some before) branch = bytes_eq before branch

-- what the list gets from this branch
abbrev pub listed : Option (List ℕ) → List ℕ → List (List ℕ)
listed before branch = if is_again before branch then [] else branch ∷ []
