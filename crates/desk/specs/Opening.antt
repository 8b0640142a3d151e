-- What an opening of a desk makes of what a keeper holds.
use Rattle.std.specs.Prelude.{◌≡◌, ◌⊎◌, IsTrue, false, Result, Ok, Err}
use Rattle.ledger.specs.Future.{Honours, HonoursAlways}
use Rattle.ledger.specs.Good.{Good}
use Rattle.ledger.specs.Ledger.{Ledger}
use Rattle.ledger.specs.Rows.{Content, IsDamaged, IsRowsOf}
use Rattle.keep.specs.Content.{IsDesk}
use Rattle.keep.specs.Keeping.{AddsNothing, IsLaidOut}
use Rattle.keep.specs.declared.keep.Keep.{Ghosts}
use Rattle.desk.specs.Desk.{DeskView, IsStored}
use Rattle.desk.specs.declared.fault.OpenFault.{OpenFault}
use Rattle.desk.specs.declared.fault.OpenFault.TheVariants.{Damaged, Memory, NotADesk, OldVersion, Store}

-- The desk's ledger is good, each of its futures is honoured, and the desk goes on. Where the disk is honest, the
-- rows of the ledger are those that the keeper held, and a stop leaves these and nothing else.
pub record IsOpened {K : Type 0} (g : Ghosts K) (keep : K) (desk : DeskView K) : Type 0 where
  pub good : Good desk.ledger
  pub honours : Honours desk.ledger
  pub always : HonoursAlways desk.ledger
  pub going : g.stopped desk.keep ≡ false
  pub stored : g.is_honest desk.keep → IsStored (g.holds keep) (g.leaves desk.keep) desk.ledger
  pub rows : g.is_honest desk.keep → (x : Content) → g.holds keep x → IsRowsOf desk.ledger x

-- What a fault says about the keeper that was given, and about the keeper given back. Where the disk is honest, what
-- was held is damaged, no desk, or of an older version, as the fault says. After `Store`, `NotADesk` and `OldVersion`
-- the keeper given back is stopped, after `Damaged` it is not.
pub record IsUnopened {K : Type 0} (g : Ghosts K) (keep : K) (fault : OpenFault) (back : K) : Type 0 where
  pub damaged : fault ≡ Damaged → g.is_honest back → (x : Content) → g.holds keep x → IsDamaged x
  pub loaded : fault ≡ Damaged → g.stopped back ≡ false
  pub not_a_desk : fault ≡ NotADesk → g.is_honest back → (x : Content) → g.has_tables keep x → ¬ IsDesk x
  pub old_version : fault ≡ OldVersion → g.is_honest back → g.is_old keep
  pub stopped : (fault ≡ Store) ⊎ ((fault ≡ NotADesk) ⊎ (fault ≡ OldVersion)) → IsTrue (g.stopped back)

-- The opening has changed nothing that the keeper keeps: where the keeper goes on, its content is the same; and
-- nothing is added to what a stop may leave, of whatever version that is.
pub record IsLeft {K : Type 0} (g : Ghosts K) (old new : K) : Type 0 where
  pub same : g.stopped new ≡ false → (x : Content) → (g.holds old x → g.holds new x) × (g.holds new x → g.holds old x)
  pub adds : AddsNothing g.leaves g.may_leave g.may_remain old new

-- A store whose layout is that of no version is refused, and the keeper is given back as it was, but stopped: with
-- `NotADesk` where one of the six names that each version has is no table's name, and else with `Store`.
pub record RefusesOther {K : Type 0} (g : Ghosts K) (keep : K) (result : Result (DeskView K) (OpenFault × K)) : Type 0 where
  pub nameless : ¬ g.has_names keep → result ≡ Err (NotADesk, g.when_stopped keep)
  pub other : g.has_names keep → ¬ IsLaidOut (g.has_layout keep) → result ≡ Err (Store, g.when_stopped keep)

-- the desk is opened at that ledger, or refused with `Memory` or `Store`
abbrev pub OpensAt : {K : Type 0} → Ledger → Result (DeskView K) (OpenFault × K) → Type 0
OpensAt A (Ok desk) = desk.ledger ≡ A
OpensAt A (Err e) = (e.0 ≡ Memory) ⊎ (e.0 ≡ Store)

-- the keeper is refused with `OldVersion`, `Memory` or `Store`
abbrev pub IsRefusedAsOld : {K : Type 0} → Result (DeskView K) (OpenFault × K) → Type 0
IsRefusedAsOld (Ok desk) = ⊥
IsRefusedAsOld (Err e) = (e.0 ≡ OldVersion) ⊎ ((e.0 ≡ Memory) ⊎ (e.0 ≡ Store))

-- the keeper after an opening: the desk's, or the one that is given back
abbrev pub keeper_after : {K E : Type 0} → Result (DeskView K) (E × K) → K
keeper_after (Ok desk) = desk.keep
keeper_after (Err e) = e.1
