-- A desk as contracts see it, and what its keeper holds for it.
use Rattle.std.specs.Prelude.{◌≡◌, ◌⊎◌, Bool, IsTrue, false, List, [], ◌∷◌}
use Rattle.words.specs.declared.command.Request.{Request}
use Rattle.ledger.specs.Answers.{IsAccepted}
use Rattle.ledger.specs.Good.{Good}
use Rattle.ledger.specs.Ledger.{Ledger}
use Rattle.ledger.specs.Next.{accept}
use Rattle.ledger.specs.Rows.{Content, IsRowsOf}
use Rattle.keep.specs.declared.keep.Keep.{Ghosts}

-- a desk as contracts see it: its ledger, and the keeper of its rows
pub record DeskView (K : Type 0) : Type 0 where
  pub ledger : Ledger
  pub keep : K

-- The state of a desk: its ledger, whether a fault of its keeper has stopped it, whether its disk is honest, and what
-- a stop leaves.
pub record DeskState : Type 1 where
  pub ledger : Ledger
  pub is_stopped : Bool
  pub is_honest : Type 0
  pub leaves : List Content → Type 0

abbrev pub desk_state : {K : Type 0} → Ghosts K → DeskView K → DeskState
desk_state g desk = record {
  ledger = desk.ledger;
  is_stopped = g.stopped desk.keep;
  is_honest = g.is_honest desk.keep;
  leaves = g.leaves desk.keep;
}

-- what somebody who asks a desk sees of it: its ledger, and whether it is stopped
pub record Snapshot : Type 0 where
  pub ledger : Ledger
  pub is_stopped : Bool

abbrev pub snapshot : DeskState → Snapshot
snapshot desk = record { ledger = desk.ledger; is_stopped = desk.is_stopped }

-- a desk that goes on, at that ledger
abbrev pub going_at : Ledger → Snapshot
going_at A = record { ledger = A; is_stopped = false }

-- the keeper holds the rows of the ledger, and a stop leaves these and nothing else
pub record IsStored (holds : Content → Type 0) (leaves : List Content → Type 0) (A : Ledger) : Type 0 where
  pub rows : Content
  pub are_rows : IsRowsOf A rows
  pub held : holds rows
  pub alone : leaves (rows ∷ [])

-- while the keeper is not stopped and the disk is honest, the rows of the desk's ledger are stored
abbrev pub StaysStored : {K : Type 0} → Ghosts K → DeskView K → Type 0
StaysStored g desk = g.stopped desk.keep ≡ false → g.is_honest desk.keep
    → IsStored (g.holds desk.keep) (g.leaves desk.keep) desk.ledger

-- the desk's ledger is good, and its rows stay stored
pub record IsInOrder {K : Type 0} (g : Ghosts K) (desk : DeskView K) : Type 0 where
  pub good : Good desk.ledger
  pub stored : StaysStored g desk

-- a stop leaves the rows of the one ledger or those of the other, and both ledgers are good
pub record LeavesEither (leaves : List Content → Type 0) (A B : Ledger) : Type 0 where
  pub good_before : Good A
  pub good_after : Good B
  pub before : Content
  pub after : Content
  pub are_before : IsRowsOf A before
  pub are_after : IsRowsOf B after
  pub either : leaves (before ∷ after ∷ [])

-- ---- from one call to the next

-- However a call ends: a stopped desk stays as it is; the desk is in order behind the call; and a disk that is honest
-- then was honest before.
pub record Goes {K : Type 0} (g : Ghosts K) (old new : DeskView K) : Type 0 where
  pub untouched : IsTrue (g.stopped old.keep) → new ≡ old
  pub good : Good new.ledger
  pub stored : StaysStored g new
  pub honest : g.is_honest new.keep → g.is_honest old.keep

-- the desk is unchanged, or its keeper is set as it was
abbrev pub StaysSet : {K : Type 0} → (K → K → Type 0) → (old new : DeskView K) → Type 0
StaysSet same_settings old new = (new ≡ old) ⊎ same_settings old.keep new.keep

-- Where a stop is answered, the desk is stopped. Where none is, the desk is stopped or goes on as it did before.
pub record TellsStop (told : Type 0) (old new : DeskState) : Type 0 where
  pub stopped : told → IsTrue new.is_stopped
  pub going : ¬ told → new.is_stopped ≡ old.is_stopped

-- one of the requests is accepted at the ledger
abbrev pub HasAccepted : Ledger → List Request → Type 0
HasAccepted A [] = ⊥
HasAccepted A (request ∷ requests) = IsAccepted A request ⊎ HasAccepted A requests

-- the request is accepted and has stopped the desk: over an honest disk a stop leaves the rows before it or those
-- after it
pub record StopsCall (request : Request) (old new : DeskState) : Type 0 where
  pub accepted : IsAccepted old.ledger request
  pub either : new.is_honest → LeavesEither new.leaves old.ledger (accept old.ledger request)
