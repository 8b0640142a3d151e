-- A keeper in memory.
use Rattle.std.specs.Prelude.{◌≡◌, ◌+◌, ◌-◌, ◌≤◌, ℕ, Bool, false, true, if◌then◌else◌, Err, OnOk, Result, Option, Some}
use Rattle.std.specs.Prelude.{List, [], ◌∷◌, length, map, option_map}
use Rattle.ledger.specs.declared.rows.Change.{Change}
use Rattle.ledger.specs.Rows.{Content, IsInKeyOrder}
use Rattle.ledger.specs.Tables.{desk_cells, field_cells, firm_cells, kept_cells, line_cells, move_cells, no_content}
use Rattle.ledger.specs.Tables.{order_cells, with_change}
use Rattle.keep.specs.Content.{IsTheRow, with_changes}
use Rattle.keep.specs.declared.keep.KeepFault.{KeepFault}
use Rattle.keep.specs.declared.keep.KeepFault.TheVariants.{Store}
use Rattle.keep.specs.declared.plain.shelf.Shelf.{Shelf}

-- what the lists hold
abbrev pub shelf_content : Shelf → Content
shelf_content s = record {
  desk = desk_cells s.desk ∷ [];
  fields = map field_cells s.fields.items;
  moves = map move_cells s.moves.items;
  orders = map order_cells s.orders.items;
  lines = map line_cells s.lines.items;
  kept = map kept_cells s.kept.items;
  firms = map firm_cells s.firms.items;
}

-- the rows stand in the order of their keys, and the row of `desk` is of the version that is written here
pub record IsInOrder (s : Shelf) : Type 0 where
  pub rows : IsInKeyOrder (shelf_content s)
  pub desk : IsTheRow (desk_cells s.desk)

-- in each list there is room for so many rows more
pub record HasRoom (more : ℕ) (s : Shelf) : Type 0 where
  pub fields : length s.fields.items + more ≤ s.fields.capacity
  pub moves : length s.moves.items + more ≤ s.moves.capacity
  pub orders : length s.orders.items + more ≤ s.orders.capacity
  pub lines : length s.lines.items + more ≤ s.lines.capacity
  pub kept : length s.kept.items + more ≤ s.kept.capacity
  pub firms : length s.firms.items + more ≤ s.firms.capacity

-- the content that is this row alone
abbrev pub row_of : Change → Content
row_of change = with_change change no_content

-- the other has the same cells
abbrev pub IsCopy : Change → Change → Type 0
IsCopy change copy = (x : Content) → with_change copy x ≡ with_change change x

-- what contracts see of the keeper
pub record Plain : Type 0 where
  pub content : Content
  -- how many commits there are up to the one that fails, that one included
  pub fails_in : Option ℕ
  -- whether a reopening finds the changes of that commit
  pub lands : Bool
  pub stopped : Bool

-- the next commit is the one that fails
abbrev pub IsToFail : Plain → Type 0
IsToFail k = (k.stopped ≡ false) × (k.fails_in ≡ Some 1)

-- after a commit that does not fail
abbrev pub after_commit : List Change → Plain → Plain
after_commit changes k =
    record k { content = with_changes changes k.content; fails_in = option_map (λ n. n - 1) k.fails_in }

-- after the commit that fails
abbrev pub after_failure : List Change → Plain → Plain
after_failure changes k =
    record k { content = (if k.lands then with_changes changes k.content else k.content); stopped = true }

-- after another error
abbrev pub after_error : Plain → Plain
after_error k = record k { stopped = true }

-- The commit that is to fail never succeeds. Where its changes are not to be found later, it answers `Store`. No
-- other commit answers `Store`, and where one does, `after_failure` says what is left.
pub record FailsByNumber (changes : List Change) (old new : Plain) (answer : Result (Unit {0}) KeepFault) : Type 0 where
  pub fails : IsToFail old → OnOk answer ⊥
  pub at_once : IsToFail old → old.lands ≡ false → answer ≡ Err Store
  pub store : answer ≡ Err Store → IsToFail old × (new ≡ after_failure changes old)
