-- A keeper that puts commits off, and what it would hold once all that is put off is kept.
use Rattle.std.specs.Prelude.{◌≡◌, ◌⊎◌, ◌+◌, ◌<◌, ◌≤◌, ℕ, Bool, List, [], ◌∷◌, ◌++◌, Vec, length, slice_set}
use Rattle.std.specs.declared.cmp.Ordering.TheVariants.{Equal}
use Rattle.std.specs.Global.{Global}
use Rattle.std.specs.List.{AllWithin, AllZip, HoldsAt}
use Rattle.std.specs.Vec.{vec_capacity, vec_len}
use Rattle.ledger.specs.Rows.{Content, desk_cmp, field_cmp}
use Rattle.ledger.specs.Tables.{desk_cells, field_cells, firm_cells, kept_cells, line_cells, move_cells, order_cells}
use Rattle.ledger.specs.declared.rows.Change.{Change}
use Rattle.ledger.specs.declared.rows.Change.TheVariants as change
use Rattle.ledger.specs.declared.rows.DeskRow.{DeskRow}
use Rattle.ledger.specs.declared.rows.FieldRow.{FieldRow}
use Rattle.ledger.specs.declared.rows.FirmRow.{FirmRow}
use Rattle.ledger.specs.declared.rows.KeptRow.{KeptRow}
use Rattle.ledger.specs.declared.rows.LineRow.{LineRow}
use Rattle.ledger.specs.declared.rows.MoveRow.{MoveRow}
use Rattle.ledger.specs.declared.rows.OrderRow.{OrderRow}
use Rattle.keep.specs.Content.{IsAmong, with_changes}
use Rattle.keep.specs.declared.keep.Keep.{Ghosts}
use Rattle.desk.specs.Desk.{DeskView, Snapshot}

-- such a keeper as contracts see it: the keeper behind it, the rows that are put off, and whether it is stopped
pub record DeferredView (K : Type 0) : Type 0 where
  pub keep : K
  pub changes : List Change
  pub stopped : Bool

-- The keeper behind it holds a content, a stop leaves that content and nothing else, and x is that content with the
-- rows that are put off.
pub record PutsOff {K : Type 0} (g : Ghosts K) (keep : K) (changes : List Change) (x : Content) : Type 0 where
  pub base : Content
  pub held : g.holds keep base
  pub alone : g.leaves keep (base ∷ [])
  pub with_them : x ≡ with_changes changes base

-- once all that is put off is kept, a stop leaves one of these contents
pub record PutsOffOneOf {K : Type 0} (g : Ghosts K) (keep : K) (changes : List Change) (these : List Content) : Type 0 where
  pub some : Content
  pub put_off : PutsOff g keep changes some
  pub among : (x : Content) → PutsOff g keep changes x → IsAmong these x

-- the tables of the keeper behind it, with the rows that are put off
abbrev pub HasTablesOff : {K : Type 0} → Ghosts K → K → List Change → Content → Type 0
HasTablesOff g keep changes x = (base : Content) × g.has_tables keep base × (x ≡ with_changes changes base)

-- what somebody who asks a desk over such a keeper sees of it
abbrev pub snapshot_off : {K : Type 0} → DeskView (DeferredView K) → Snapshot
snapshot_off desk = record { ledger = desk.ledger; is_stopped = desk.keep.stopped }

-- ---- copies that are made before (private)

-- the other is a row of the same table, with the same cells
abbrev pub IsSameRow : Change → Change → Type 0
IsSameRow (change.Desk row) other = (copy : DeskRow) × (other ≡ change.Desk copy) × (desk_cells copy ≡ desk_cells row)
IsSameRow (change.Field row) other = (copy : FieldRow) × (other ≡ change.Field copy) × (field_cells copy ≡ field_cells row)
IsSameRow (change.Move row) other = (copy : MoveRow) × (other ≡ change.Move copy) × (move_cells copy ≡ move_cells row)
IsSameRow (change.Order row) other = (copy : OrderRow) × (other ≡ change.Order copy) × (order_cells copy ≡ order_cells row)
IsSameRow (change.Line row) other = (copy : LineRow) × (other ≡ change.Line copy) × (line_cells copy ≡ line_cells row)
IsSameRow (change.Kept row) other = (copy : KeptRow) × (other ≡ change.Kept copy) × (kept_cells copy ≡ kept_cells row)
IsSameRow (change.Firm row) other = (copy : FirmRow) × (other ≡ change.Firm copy) × (firm_cells copy ≡ firm_cells row)

-- copies of the changes are made, and there is room for them behind those that are put off
pub record IsReady (kept : Vec Change Global) (made changes : List Change) : Type 0 where
  pub copies : AllZip IsSameRow changes made
  pub room : vec_len kept + length changes ≤ vec_capacity kept

-- ---- rows that take the place of others (private)

-- both are rows of `desk`, or rows of `field`, with one key
abbrev pub IsOfOneKey : Change → Change → Type 0
IsOfOneKey (change.Desk row) (change.Desk old) = desk_cmp (desk_cells row) (desk_cells old) ≡ Equal
IsOfOneKey (change.Field row) (change.Field old) = field_cmp (field_cells row) (field_cells old) ≡ Equal
IsOfOneKey row old = ⊥

-- no row stands there that has that row's key
abbrev pub HasNoKeyOf : Change → List Change → Type 0
HasNoKeyOf row kept = AllWithin (λ old. ¬ IsOfOneKey row old) kept 0 (length kept)

-- a row with that row's key stands at the place, and none stands behind it
pub record IsLastOfKey (row : Change) (kept : List Change) (place : ℕ) : Type 0 where
  pub within : place < length kept
  pub here : HoldsAt (IsOfOneKey row) kept place
  pub last : AllWithin (λ old. ¬ IsOfOneKey row old) kept (place + 1) (length kept)

-- the row takes the place of the last row with its key, or, where no row has that key, stands behind all
abbrev pub IsTakenIn : Change → List Change → List Change → Type 0
IsTakenIn row before after =
    ((place : ℕ) × IsLastOfKey row before place × (after ≡ slice_set before place row))
    ⊎ (HasNoKeyOf row before × (after ≡ before ++ row ∷ []))
