-- What a call of a keeper answers, and what it leaves.
use Rattle.std.specs.Prelude.{◌≡◌, ◌≢◌, ◌≤◌, ◌⊎◌, ℕ, Bool, false, List, [], ◌∷◌, IsTrue, OnOk, OnErr, Result, Err}
use Rattle.ledger.specs.Rows.{Content, IsInKeyOrder}
use Rattle.ledger.specs.Tables.{content_of}
use Rattle.ledger.specs.declared.rows.Tables.{Tables}
use Rattle.keep.specs.Content.{IsDesk, newest}
use Rattle.keep.specs.declared.keep.KeepFault.{KeepFault}
use Rattle.keep.specs.declared.keep.KeepFault.TheVariants.{Memory, NotADesk, OldVersion, Stopped, Store}

-- A stopped keeper answers `Stopped` and stays as it is; a keeper that is not stopped never answers that. An error
-- stops a keeper, and nothing else does.
pub record GoesOn {K T : Type 0} (stopped : K → Bool) (old new : K) (answer : Result T KeepFault) : Type 0 where
  pub refused : IsTrue (stopped old) → (answer ≡ Err Stopped) × (new ≡ old)
  pub going : stopped old ≡ false → answer ≢ Err Stopped
  pub ok : OnOk answer (stopped new ≡ false)
  pub err : OnErr answer (IsTrue (stopped new))

-- each table is in the order of its key, and `desk` has one row, of the newest version
pub record IsOrderedDesk (tables : Tables) : Type 0 where
  pub order : IsInKeyOrder (content_of tables)
  pub version : IsDesk (content_of tables)

-- the keeper held this content and no other, still holds it, and a stop leaves it and nothing else
pub record IsLoaded (was held : Content → Type 0) (leaves : List Content → Type 0) (tables : Tables) : Type 0 where
  pub content : held (content_of tables)
  pub one : (x : Content) → was x → content_of tables ≡ x
  pub same : (x : Content) → (was x → held x) × (held x → was x)
  pub alone : leaves (content_of tables ∷ [])

-- `NotADesk` is answered only where there is no desk of the newest version, `OldVersion` only where the store is of
-- an older version. Where it is, a keeper that is not stopped answers nothing else but `Memory` and `Store`.
pub record TellsVersion {T : Type 0} (has_tables : Content → Type 0) (is_old : Type 0) (answer : Result T KeepFault)
    : Type 0 where
  pub desk : answer ≡ Err NotADesk → (x : Content) → has_tables x → ¬ IsDesk x
  pub old_version : answer ≡ Err OldVersion → is_old
  pub only_old : is_old → answer ≢ Err Stopped → (answer ≡ Err OldVersion) ⊎ ((answer ≡ Err Memory) ⊎ (answer ≡ Err Store))

-- The call adds nothing to what a stop may leave: no content, and nothing to what may remain of the store, of
-- whatever version that is.
pub record AddsNothing {K Remains : Type 0} (leaves : K → List Content → Type 0) (may_leave : K → Content → Type 0)
    (may_remain : K → Remains → Type 0) (old new : K) : Type 0 where
  pub adds_nothing : (these : List Content) → leaves old these → leaves new these
  pub no_more : (x : Content) → may_leave new x → may_leave old x
  pub no_more_remains : (remains : Remains) → may_remain new remains → may_remain old remains

-- the layout is that of one of the versions
abbrev pub IsLaidOut : (ℕ → Type 0) → Type 0
IsLaidOut has_layout = (version : ℕ) × (1 ≤ version) × (version ≤ newest) × has_layout version

-- A store whose layout is that of no version is refused and stays as it is. The answer is `NotADesk` where one of the
-- six names that each version has is no table's name, and else `Store`.
pub record TellsOther {T : Type 0} (has_names : Type 0) (has_layout : ℕ → Type 0) (answer : Result T KeepFault)
    (is_left : Type 0) : Type 0 where
  pub nameless : ¬ has_names → (answer ≡ Err NotADesk) × is_left
  pub other : has_names → ¬ IsLaidOut has_layout → (answer ≡ Err Store) × is_left
