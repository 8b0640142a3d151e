-- What a session does with a desk that a keeper holds, and with what it reads and writes.
use Rattle.std.specs.Prelude.{◌≡◌, ◌≢◌, ◌≤◌, ◌⊎◌, ◌↔◌, ℕ, pos, [], ◌∷◌, IsTrue, false}
use Rattle.sqlite_wal.specs.Recovery.{Image}
use Rattle.ledger.specs.Good.{Good}
use Rattle.ledger.specs.Ledger.{Ledger}
use Rattle.ledger.specs.Rows.{Content, IsDamaged, IsRowsOf}
use Rattle.keep.specs.Content.{IsDesk, IsOneRow, new_content, newest}
use Rattle.sql_keep.specs.Starts.{StartsOf}
use Rattle.keep.specs.declared.keep.Keep.{Ghosts}
use Rattle.desk.specs.Desk.{DeskState, DeskView, IsStored, desk_state}
use Rattle.desk.specs.Opening.{IsLeft}
use Rattle.desk.specs.Dialogue.{EndsCut}
use Rattle.desk.specs.Script.{lines}
use Rattle.desk.specs.Streams.{Streams}
use Rattle.desk.specs.declared.fault.OpenFault.{OpenFault}
use Rattle.desk.specs.declared.fault.ScriptFault.{ScriptFault}
use Rattle.stockdesk.specs.declared.session.Fault.{Fault}

-- ---- keepers, as contracts see them

-- the keeper goes on; where the disk is honest, it holds this content, and a stop leaves that and nothing else
pub record IsDeskOf {K : Type 0} (g : Ghosts K) (x : Content) (keep : K) : Type 0 where
  pub going : g.stopped keep ≡ false
  pub held : g.is_honest keep → g.holds keep x
  pub alone : g.is_honest keep → g.leaves keep (x ∷ [])

-- ..it holds a new desk
abbrev pub IsNewDesk : {K : Type 0} → Ghosts K → K → Type 0
IsNewDesk g keep = IsDeskOf g new_content keep

-- the keeper goes on; where the disk is honest, it holds what was there, and a stop leaves that and nothing else
pub record HoldsOnly {K : Type 0} (g : Ghosts K) (was : Content → Type 0) (keep : K) : Type 0 where
  pub going : g.stopped keep ≡ false
  pub held : g.is_honest keep → (x : Content) → was x → g.holds keep x
  pub alone : g.is_honest keep → (x : Content) → was x → g.leaves keep (x ∷ [])

-- while the keeper goes on, it holds what was there; and a stop leaves that and nothing else
pub record StillHolds {K : Type 0} (g : Ghosts K) (was : Content → Type 0) (keep : K) : Type 0 where
  pub held : g.stopped keep ≡ false → (x : Content) → was x → g.holds keep x
  pub alone : (x : Content) → was x → g.leaves keep (x ∷ [])

-- the bytes hold a desk, of the version that is written here or of an older one
abbrev pub StartsAsDesk : Image → Type 0
StartsAsDesk image = (version : ℕ) × (x : Content) × (1 ≤ version) × (version ≤ newest) × StartsOf version image x
    × IsOneRow (pos version) x.desk

-- ---- faults

-- a fault of the script becomes this fault of the program
pub record IsToldAs (cause : ScriptFault) (fault : Fault) : Type 0 where
  pub memory : fault ≡ Fault.Memory ↔ cause ≡ ScriptFault.Memory
  pub store : fault ≡ Fault.Store ↔ cause ≡ ScriptFault.Stopped
  pub read : fault ≡ Fault.Read ↔ cause ≡ ScriptFault.Read
  pub write : fault ≡ Fault.Write ↔ cause ≡ ScriptFault.Write

-- a file was not opened: it is no desk, memory was refused, or the store failed
abbrev pub IsNotOpened : Fault → Type 0
IsNotOpened fault = (fault ≡ Fault.NotADesk) ⊎ ((fault ≡ Fault.Memory) ⊎ (fault ≡ Fault.Store))

-- the file, or what else is held, is no desk, damaged or of an older version
abbrev pub IsNoDesk : Fault → Type 0
IsNoDesk fault = (fault ≡ Fault.NotADesk) ⊎ ((fault ≡ Fault.Damaged) ⊎ (fault ≡ Fault.OldVersion))

-- a file of requests cannot be read, or has a record at fault
abbrev pub IsBadFile : Fault → Type 0
IsBadFile fault = (fault ≡ Fault.Csv) ⊎ ((number : ℕ) × (fault ≡ Fault.BadRecord number))

-- nothing is begun where there is no desk, or no file of requests
abbrev pub IsUnbegun : Fault → Type 0
IsUnbegun fault = IsNoDesk fault ⊎ IsBadFile fault

-- a fault of the opening becomes this fault of the program
pub record IsOpenFault (cause : OpenFault) (fault : Fault) : Type 0 where
  pub not_a_desk : fault ≡ Fault.NotADesk ↔ cause ≡ OpenFault.NotADesk
  pub old_version : fault ≡ Fault.OldVersion ↔ cause ≡ OpenFault.OldVersion
  pub damaged : fault ≡ Fault.Damaged ↔ cause ≡ OpenFault.Damaged
  pub memory : fault ≡ Fault.Memory ↔ cause ≡ OpenFault.Memory
  pub store : fault ≡ Fault.Store ↔ cause ≡ OpenFault.Store
  pub opening : IsNoDesk fault ⊎ ((fault ≡ Fault.Memory) ⊎ (fault ≡ Fault.Store))

-- ---- sessions, whatever is done on the desk from its first state to its last

-- A session, as definitions see it: the keeper that it leaves, what was held when it began, what the tables held
-- then, and in which state the keeper is left.
pub record Session (K : Type 0) : Type 1 where
  pub ghosts : Ghosts K
  pub keep : K
  pub held : Content → Type 0
  pub tables : Content → Type 0
  pub is_left : Type 0

-- a session that begins with a keeper
abbrev pub session_on : {K : Type 0} → Ghosts K → (old new : K) → Session K
session_on g old new = record {
  ghosts = g;
  keep = new;
  held = g.holds old;
  tables = g.has_tables old;
  is_left = IsLeft g old new;
}

-- a session that begins with what a file holds
abbrev pub session_in : {K : Type 0} → Ghosts K → (was : Content → Type 0) → K → Session K
session_in g was keep = record { ghosts = g; keep = keep; held = was; tables = was; is_left = StillHolds g was keep }

-- a desk at that ledger, over the keeper that is left
abbrev pub desk_left : {K : Type 0} → Session K → Ledger → DeskState
desk_left s A = desk_state s.ghosts (record { ledger = A; keep = s.keep })

-- the desk whose rows were held was opened, and this was done on it
pub record OpensAndDoes {K : Type 0} (s : Session K) (Done : DeskState → DeskState → Type 0) : Type 0 where
  pub first : DeskView K
  pub last : Ledger
  pub began : s.ghosts.stopped first.keep ≡ false
  pub good : Good first.ledger
  pub rows : s.ghosts.is_honest s.keep → (x : Content) → s.held x → IsRowsOf first.ledger x
  pub done : Done (desk_state s.ghosts first) (desk_left s last)

-- All was done on the desk. The keeper goes on; where the disk is honest, it keeps the rows of the last ledger, and a
-- stop leaves these and nothing else.
pub record SessionWhole {K : Type 0} (s : Session K) (AllDone : DeskState → DeskState → Type 0) : Type 0 where
  pub on : OpensAndDoes s AllDone
  pub going : s.ghosts.stopped s.keep ≡ false
  pub kept : s.ghosts.is_honest s.keep → IsStored (s.ghosts.holds s.keep) (s.ghosts.leaves s.keep) on.last

-- No desk was opened. Where the disk is honest, what is held is no desk, of another version, or damaged, as the fault
-- says; and the keeper is left as the session says.
pub record SessionRefused {K : Type 0} (s : Session K) (fault : Fault) : Type 0 where
  pub not_a_desk : fault ≡ Fault.NotADesk → s.ghosts.is_honest s.keep → (x : Content) → s.tables x → ¬ IsDesk x
  pub old_version : fault ≡ Fault.OldVersion → s.ghosts.is_honest s.keep → (x : Content) → s.tables x → ⊥
  pub damaged : fault ≡ Fault.Damaged → s.ghosts.is_honest s.keep → (x : Content) → s.held x → IsDamaged x
  pub opening : IsNoDesk fault ⊎ ((fault ≡ Fault.Memory) ⊎ (fault ≡ Fault.Store))
  pub stopped : (fault ≡ Fault.Store) ⊎ ((fault ≡ Fault.NotADesk) ⊎ (fault ≡ Fault.OldVersion))
      → IsTrue (s.ghosts.stopped s.keep)
  pub going : fault ≡ Fault.Damaged → s.ghosts.stopped s.keep ≡ false
  pub left : s.ghosts.is_honest s.keep → s.is_left

-- What was done on the desk is cut. A fault of the store has stopped the keeper. After any other fault the keeper
-- goes on, and where the disk is honest, it keeps the rows of the last ledger, and a stop leaves these and nothing
-- else.
pub record SessionCut {K : Type 0} (s : Session K) (fault : Fault) (PartDone : DeskState → DeskState → Type 0)
    : Type 0 where
  pub on : OpensAndDoes s PartDone
  pub desk : ¬ IsNoDesk fault
  pub stopped : fault ≡ Fault.Store → IsTrue (s.ghosts.stopped s.keep)
  pub going : fault ≢ Fault.Store → s.ghosts.stopped s.keep ≡ false
  pub kept : fault ≢ Fault.Store → s.ghosts.is_honest s.keep
      → IsStored (s.ghosts.holds s.keep) (s.ghosts.leaves s.keep) on.last

-- no desk was opened, and this much is untouched; or one was, and what was done is cut
abbrev pub SessionInPart : {K : Type 0} → Session K → Fault → (Untouched : Type 0) → (DeskState → DeskState → Type 0)
    → Type 0
SessionInPart s fault Untouched PartDone = (SessionRefused s fault × Untouched) ⊎ SessionCut s fault PartDone

-- ---- scripts

-- what a desk did was cut, by a fault that becomes this one
abbrev pub IsCutAs : Fault → (ScriptFault → Type 0) → Type 0
IsCutAs fault Cut = (cause : ScriptFault) × IsToldAs cause fault × Cut cause

-- the script was cut
abbrev pub ScriptCut : Fault → (old new : DeskState) → Streams → Type 0
ScriptCut fault old new s = IsCutAs fault (λ cause. EndsCut lines cause old new s)
