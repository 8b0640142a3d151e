-- What connections see of a desk, and what they do to it.
use Rattle.std.specs.Prelude.{◌≡◌, ◌<◌, ◌≤◌, ◌⊎◌, ◌^◌, false, true, ℕ, List, [], ◌∷◌, ◌++◌, None, Option, Some, codes}
use Rattle.std.specs.Prelude.{decimal, length, take}
use Rattle.std.specs.Io.KnownBytes.{Appends}
use Rattle.ledger.specs.Answers.{IsAccepted}
use Rattle.ledger.specs.Ledger.{Ledger}
use Rattle.ledger.specs.Next.{accept}
use Rattle.desk.specs.Desk.{DeskState, LeavesEither, Snapshot, going_at, snapshot}
use Rattle.desk.specs.Dialogue.{EndsCut, EndsWhole}
use Rattle.desk.specs.Streams.{Streams}
use Rattle.words.specs.declared.command.Request.{Request}
use Rattle.web.specs.Answers.{Answer}
use Rattle.web.specs.Messages.{Part}
use Rattle.web.specs.Serving.{Tells, cause_of}
use Rattle.web.specs.Web.{http}
use Rattle.web.specs.declared.served.Served.{Served}
use Rattle.web.specs.declared.served.WebFault.{WebFault}
use Rattle.rounds.specs.Rounds.{AreSaid, Loss}
use Rattle.rounds.specs.Lines.{Said}
use Rattle.rounds.specs.Services.{HasMet}
use Rattle.stockdesk.specs.Outside.{Gathering, Listening, Outside}
use Rattle.command_line.specs.declared.work.Service.{Service}
use Rattle.stockdesk.specs.declared.session.Fault.{Fault}

-- ---- the port

-- the line that gives a port
abbrev pub listening_line : ℕ → List ℕ
listening_line port = codes "listening " ++ decimal port ++ codes "\n"

-- the line that gives this port was written
abbrev pub TellsPort : ℕ → (writer_old writer_new : Option (List ℕ)) → Type 0
TellsPort port writer_old writer_new = (port < 2 ^ 16) × Appends writer_old writer_new (listening_line port)

-- the line that gives some port was written
abbrev pub PortTold : (writer_old writer_new : Option (List ℕ)) → Type 0
PortTold writer_old writer_new = (port : ℕ) × TellsPort port writer_old writer_new

-- a beginning of the line that gives some port was written, perhaps none of it
abbrev pub PortBegun : (writer_old writer_new : Option (List ℕ)) → Type 0
PortBegun writer_old writer_new =
    (port : ℕ) × (count : ℕ) × (port < 2 ^ 16) × (count ≤ length (listening_line port))
    × Appends writer_old writer_new (take count (listening_line port))

-- a beginning of the line that gives some port was written, but not all of it
abbrev pub PortCut : (writer_old writer_new : Option (List ℕ)) → Type 0
PortCut writer_old writer_new =
    (port : ℕ) × (count : ℕ) × (port < 2 ^ 16) × (count < length (listening_line port))
    × Appends writer_old writer_new (take count (listening_line port))

-- ---- connections

-- the desk as it stood then; what is said about the disk and about stops is taken from the desk at the end
abbrev pub as_stood : DeskState → Snapshot → DeskState
as_stood end then = record {
  ledger = then.ledger;
  is_stopped = then.is_stopped;
  is_honest = end.is_honest;
  leaves = end.leaves;
}

-- A connection was served on a desk that stood at `old` before it and stands at `new` after it: to its end, or to a
-- fault of its own. What is said about the disk is said about the desk at the end.
abbrev pub IsServed : (end : DeskState) → Snapshot → Streams → Snapshot → Type 0
IsServed end old s new =
    ((served : Served) × (whole : EndsWhole http (as_stood end old) (as_stood end new) s) × Tells served whole)
    ⊎ ((fault : WebFault) × EndsCut http (cause_of fault) (as_stood end old) (as_stood end new) s)

-- Connections were served one after the other, and none on a desk that was stopped.
abbrev pub AreServed : (end : DeskState) → Snapshot → List Streams → Snapshot → Type 0
AreServed end old [] new = new ≡ old
AreServed end old (s ∷ streams) new =
    (mid : Snapshot) × (old.is_stopped ≡ false) × IsServed end old s mid × AreServed end mid streams new

-- A connection came to the listener, and was closed: with what was then left to read, and with all that was written.
pub record Passes {L R W : Type 0} (g : Listening L R W) (old : L) (s : Streams) (new : L) : Type 0 where
  pub reader : R
  pub writer : W
  pub busy : L
  pub came : g.comes old reader writer busy
  pub reads : s.reader_old ≡ g.remaining reader
  pub writes : s.writer_old ≡ g.contents writer
  pub reader_then : R
  pub writer_then : W
  pub closed : g.closes busy reader_then writer_then new
  pub has_read : s.reader_new ≡ g.remaining reader_then
  pub has_written : s.writer_new ≡ g.contents writer_then

-- These connections came to the listener, one after the other; it was `old` before them and is `new` after them.
abbrev pub Pass : {L R W : Type 0} → Listening L R W → L → List Streams → L → Type 0
Pass g old [] new = new ≡ old
Pass {L} g old (s ∷ streams) new = (mid : L) × Passes g old s mid × Pass g mid streams new

-- the listener is as the last connection left it, or no connection came after that
abbrev pub IsLeft : {L R W : Type 0} → Listening L R W → (last new : L) → Type 0
IsLeft g last new = (new ≡ last) ⊎ g.waits last new

-- The port was asked for, a listener was had, and the port that it got is written.
pub record Listens {L : Type 0} (listens : (asked got : ℕ) → L → Type 0) (asked : ℕ)
    (writer_old writer_new : Option (List ℕ)) (listener : L) : Type 0 where
  pub port : ℕ
  pub got : listens asked port listener
  pub told : TellsPort port writer_old writer_new

-- So many connections came to the listener of the service, whose port is written, and were served; the property holds
-- of their number.
pub record Serves {C L R W G T : Type 0} (out : Outside C L R W G T) (service : Service) (AsMany : ℕ → Type 0)
    (old new : DeskState) (s : Streams) : Type 0 where
  pub first : L
  pub last : L
  pub listens : Listens out.listens service.port s.writer_old s.writer_new first
  pub streams : List Streams
  pub as_many : AsMany (length streams)
  pub served : AreServed new (snapshot old) streams (snapshot new)
  pub came : Pass out.connections first streams last

-- as many were served as are asked for
abbrev pub ServesAll : {C L R W G T : Type 0} → Outside C L R W G T → Service → (old new : DeskState) → Streams → Type 0
ServesAll out service old new s = Serves out service (λ count. count ≡ service.connections) old new s

-- at most so many were served, and only the last of them may have stopped the desk
abbrev pub ServesSome : ℕ → (end : DeskState) → (old new : Snapshot) → Type 0
ServesSome count end old new =
    (streams : List Streams) × (length streams ≤ count) × AreServed end old streams new

-- B is the ledger behind such connections; or, where the last of them stopped the desk, behind one accepted request
-- more
abbrev pub IsFoundAfterService : ℕ → (first : DeskState) → Ledger → Type 0
IsFoundAfterService count first B =
    (last : Snapshot) × ServesSome count first (record { ledger = first.ledger; is_stopped = false }) last
    × ((B ≡ last.ledger) ⊎ ((last.is_stopped ≡ true) × (request : Request) × IsAccepted last.ledger request
    × (B ≡ accept last.ledger request)))

-- Either the port was not written, or not whole, since there was no socket or no memory, or a write failed. Or it was
-- written, and no further connection could be had, or the last one stopped the desk.
abbrev pub ServiceCut : {C L R W G T : Type 0} → Outside C L R W G T → Service → Fault → (old new : DeskState) → Streams → Type 0
ServiceCut out service fault old new s =
    (((fault ≡ Fault.Socket) ⊎ ((fault ≡ Fault.Memory) ⊎ (fault ≡ Fault.Write)))
    × PortCut s.writer_old s.writer_new × (new.ledger ≡ old.ledger))
    ⊎ (((fault ≡ Fault.Socket) ⊎ (fault ≡ Fault.Store)) × Serves out service (λ count. count ≤ service.connections) old new s)

-- ---- many connections at once

-- The desk at the end is as those who were answered saw it. Or a round was lost, and what they saw is a stopped desk.
-- Then the round could not be kept, and a stop leaves the rows of the ledger before it or those of the ledger behind
-- it; or memory was refused for it, and the desk is at the ledger before it.
abbrev pub EndsAs : Option Loss → (shown : Snapshot) → (new : DeskState) → Type 0
EndsAs None shown new = (snapshot new ≡ shown) × (shown.is_stopped ≡ false)
EndsAs (Some loss) shown new = (shown.is_stopped ≡ true)
    × (((snapshot new ≡ shown) × (new.is_honest → LeavesEither new.leaves loss.before loss.behind))
    ⊎ ((new.ledger ≡ loss.before) × (new.is_stopped ≡ false)))

-- So many connections came to the crowd, and a round was lost or none was; the property holds of both. All questions
-- of the connections have one order, in which the answers led the desk from `old` to what was shown at the end.
pub record Meets {G T : Type 0} (g : Gathering G T) (first : G) (IsSo : ℕ → Option Loss → Type 0) (old new : DeskState)
    : Type 0 where
  pub last : G
  pub count : ℕ
  pub loss : Option Loss
  pub is_so : IsSo count loss
  pub shown : Snapshot
  pub met : HasMet http g.remaining g.contents g.doors loss first last count (snapshot old) shown
  pub ends : EndsAs loss shown new

-- So many connections came to the port, which is written.
pub record ServesMany {C L R W G T : Type 0} (out : Outside C L R W G T) (service : Service)
    (IsSo : ℕ → Option Loss → Type 0) (old new : DeskState) (writer_old writer_new : Option (List ℕ)) : Type 0 where
  pub first : G
  pub gathers : Listens out.gathers service.port writer_old writer_new first
  pub meets : Meets out.crowd first IsSo old new

-- the service ended before its time: no more connections could be waited for, memory was refused, or the desk is
-- stopped
abbrev pub IsCrowdFault : Fault → Type 0
IsCrowdFault fault = (fault ≡ Fault.Socket) ⊎ ((fault ≡ Fault.Memory) ⊎ (fault ≡ Fault.Store))

-- the port was not written, or not whole; or it was written, and some connections came
abbrev pub ManyCut : {C L R W G T : Type 0} → Outside C L R W G T → Service → Fault → (old new : DeskState)
    → (writer_old writer_new : Option (List ℕ)) → Type 0
ManyCut out service fault old new writer_old writer_new =
    (((fault ≡ Fault.Socket) ⊎ ((fault ≡ Fault.Memory) ⊎ (fault ≡ Fault.Write)))
    × PortCut writer_old writer_new × (new.ledger ≡ old.ledger))
    ⊎ (IsCrowdFault fault × ServesMany out service (λ count loss. count ≤ service.connections) old new
    writer_old writer_new)

-- B is the ledger behind some questions, which were answered one after the other
abbrev pub IsFoundAfterMany : Ledger → Ledger → Type 0
IsFoundAfterMany first B = (said : List (Said Part Answer)) × (last : Snapshot) × AreSaid http (going_at first) said last
    × (B ≡ last.ledger)
