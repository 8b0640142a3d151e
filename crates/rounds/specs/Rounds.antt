-- Rounds: one order of the questions of all connections.
use Rattle.std.specs.Prelude.{◌≡◌, ◌≢◌, ◌<◌, ◌≤◌, ◌⊎◌, Bool, false, true, ℕ, List, [], ◌∷◌, ◌++◌, Option, None, Some}
use Rattle.std.specs.Prelude.{Result, Err, Ok, if◌then◌else◌, length, nat_eq, slice_get, slice_index_or, take}
use Rattle.std.specs.Io.KnownBytes.{Appends, Consumes, Keeps}
use Rattle.ledger.specs.Good.{Good}
use Rattle.ledger.specs.Ledger.{Ledger}
use Rattle.desk.specs.Deferred.{DeferredView}
use Rattle.keep.specs.declared.keep.Keep.{Ghosts}
use Rattle.desk.specs.Desk.{DeskView, IsStored, LeavesEither, Snapshot}
use Rattle.desk.specs.Dialogue.{Language}
use Rattle.rounds.specs.declared.phase.Phase.{Phase}
use Rattle.rounds.specs.declared.phase.Phase.TheVariants as phase
use Rattle.rounds.specs.declared.standing.Standing.{Standing}
use Rattle.rounds.specs.declared.standing.Standing.TheVariants.{Asks, Free, Over, Reads, Writes}
use Rattle.rounds.specs.Lines.{Heard, IsHeard, IsTold, LineView, Said, Speaks, Stands, with_piece, with_said, with_written}

-- The answers are those of the language to the questions, one after the other, whoever asked them; and this is the
-- desk behind them.
abbrev pub AreSaid : {Q A : Type 0} → Language Q A → Snapshot → List (Said Q A) → Snapshot → Type 0
AreSaid L old [] new = new ≡ old
AreSaid L old (s ∷ said) new =
    (mid : Snapshot) × L.answers old s.question s.kind s.answer mid × AreSaid L mid said new

-- what was said on a connection
abbrev pub said_on : {Q A : Type 0} → ℕ → List (Said Q A) → List (Said Q A)
said_on connection [] = []
said_on connection (s ∷ said) =
    if nat_eq s.connection connection then s ∷ said_on connection said else said_on connection said

-- what is known of each connection, with h as what is known of this one
abbrev pub heard_on : {Q A : Type 0} → ℕ → Heard Q A → (ℕ → Heard Q A) → ℕ → Heard Q A
heard_on connection h heard other = if nat_eq other connection then h else heard other

-- what is known of each connection once this was said, too
abbrev pub heard_with : {Q A : Type 0} → (ℕ → Heard Q A) → List (Said Q A) → ℕ → Heard Q A
heard_with heard said connection = with_said (heard connection) (said_on connection said)

-- These were asked on their connections: on each where something was said, the questions are the next ones of what has
-- come there, behind those that are known to be answered.
abbrev pub AreNext : {Q A : Type 0} → Language Q A → (ℕ → Heard Q A) → List (Said Q A) → Type 0
AreNext L heard said = (connection : ℕ) → (said_on connection said ≡ []) ⊎ IsTold L (heard_with heard said connection)

-- a desk that is stopped at that ledger
abbrev pub stopped_at : Ledger → Snapshot
stopped_at ledger = record { ledger = ledger; is_stopped = true }

-- the ledgers before and behind a round that was lost
pub record Loss : Type 0 where
  pub before : Ledger
  pub behind : Ledger

abbrev pub lost_between : Snapshot → Snapshot → Loss
lost_between mid last = record { before = mid.ledger; behind = last.ledger }

-- A round has stopped the desk, and nothing of that round is told. What was said before it is one order of questions;
-- what is said behind it comes from the stopped desk, which stays as it is. `loss` has the ledgers of the round.
pub record IsCutOnce {Q A : Type 0} (L : Language Q A) (loss : Loss) (old : Snapshot) (said : List (Said Q A))
    (new : Snapshot) : Type 0 where
  pub before : List (Said Q A)
  pub untold : List (Said Q A)
  pub behind : List (Said Q A)
  pub mid : Snapshot
  pub last : Snapshot
  pub split : said ≡ before ++ behind
  pub are_before : AreSaid L old before mid
  pub going : mid.is_stopped ≡ false
  pub are_untold : AreSaid L mid untold last
  pub left : loss ≡ lost_between mid last
  pub are_behind : AreSaid L (stopped_at last.ledger) behind new
  pub stays : new ≡ stopped_at last.ledger

-- All that was said is one order of questions, from the one desk to the other; where a round was lost, it is cut there.
abbrev pub IsOneOrder : {Q A : Type 0} → Language Q A → Option Loss → Snapshot → List (Said Q A) → Snapshot
    → Type 0
IsOneOrder L None old said new = AreSaid L old said new
IsOneOrder L (Some loss) old said new = IsCutOnce L loss old said new

-- ---- in a round

-- somebody is at the place
abbrev pub IsAt : {V : Type 0} → List (Option V) → ℕ → V → Type 0
IsAt places place v = slice_get places place ≡ Some (Some v)

-- whoever is at a place is at one before the bound
abbrev pub AreBefore : {V : Type 0} → ℕ → List (Option V) → Type 0
AreBefore {V = V} bound places = (place : ℕ) (v : V) → IsAt places place v → place < bound

-- the connection is at no place
abbrev pub IsNowhere : {S P T : Type 0} → List (Option (LineView S P T)) → ℕ → Type 0
IsNowhere {S = S} {P = P} {T = T} places connection =
    (place : ℕ) (v : LineView S P T) → IsAt places place v → v.connection ≢ connection

-- no connection is at two places
abbrev pub Apart : {S P T : Type 0} → List (Option (LineView S P T)) → Type 0
Apart {S = S} {P = P} {T = T} places = (p q : ℕ) (v w : LineView S P T) → IsAt places p v → IsAt places q w
    → v.connection ≡ w.connection → p ≡ q

-- On a desk whose commits are put off, the keeper behind it stays as it was; and a stopped desk stays so, too.
pub record OnlyPutsOff {K : Type 0} (old new : DeskView (DeferredView K)) : Type 0 where
  pub keep : new.keep.keep ≡ old.keep.keep
  pub untouched : old.keep.stopped ≡ true → new ≡ old

-- the same connection is at the place, with the same stream
abbrev pub IsSameSeat : {S P T : Type 0} → LineView S P T → LineView S P T → Type 0
IsSameSeat v w = (w.connection ≡ v.connection) × (w.stream ≡ v.stream)

-- A connection has its turn, where h is known of it and this was said in this round: nothing is answered, and the
-- desk stays; or one question is answered.
abbrev pub HasTurn : {S P T Q A : Type 0} → Speaks S P T Q A → (is_answered : Bool) → (v w : LineView S P T)
    → (old new : Snapshot) → Heard Q A → List (Said Q A) → Type 0
HasTurn g false v w old new h said = (new ≡ old) × Stands g w h said
HasTurn {Q = Q} {A = A} g true v w old new h said = (s : Said Q A) × (s.connection ≡ v.connection)
    × g.language.answers old s.question s.kind s.answer new
    × IsTold g.language (with_said h (said ++ s ∷ [])) × Stands g w h (said ++ s ∷ [])

-- a place has its turn, whether somebody is there or not
abbrev pub HasTurnAt : {S P T Q A : Type 0} → Speaks S P T Q A → (is_answered : Bool) → (v w : Option (LineView S P T))
    → (old new : Snapshot) → Type 0
HasTurnAt g is_answered None None old new = (is_answered ≡ false) × (new ≡ old)
HasTurnAt {Q = Q} {A = A} g is_answered (Some v) (Some w) old new = IsSameSeat v w
    × ((h : Heard Q A) (said : List (Said Q A)) → Stands g v h said → HasTurn g is_answered v w old new h said)
HasTurnAt g is_answered _ _ old new = ⊥

-- at each place this holds between what was there before and what is there after
abbrev pub AtEach : {V : Type 0} → (Option V → Option V → Type 0) → List (Option V) → List (Option V) → Type 0
AtEach at [] [] = Unit {0}
AtEach at (v ∷ old) (w ∷ new) = at v w × AtEach at old new
AtEach at _ _ = ⊥

-- the same connection is at the place as before, or nobody, as before
abbrev pub SameAt : {S P T : Type 0} → (v w : Option (LineView S P T)) → Type 0
SameAt None None = Unit {0}
SameAt (Some v) (Some w) = IsSameSeat v w
SameAt _ _ = ⊥

-- Within a round: this was said in it, whatever was known of the connections before it, and each stands behind that.
pub record InRound {S P T Q A : Type 0} (g : Speaks S P T Q A) (old now : Snapshot) (places : List (Option (LineView S P T)))
    (heard : ℕ → Heard Q A) : Type 0 where
  pub said : List (Said Q A)
  pub are_said : AreSaid g.language old said now
  pub apart : Apart places
  pub stand : (place : ℕ) (v : LineView S P T) → IsAt places place v
      → Stands g v (heard v.connection) (said_on v.connection said)
  pub told : (connection : ℕ) → IsTold g.language (heard connection) → IsTold g.language (heard_with heard said connection)
  pub only : (connection : ℕ) → IsNowhere places connection → said_on connection said ≡ []

-- what was said becomes known of the connection at the place, if there is one, and the connection goes on if it did
abbrev pub IsShown : {S P T Q A : Type 0} → Speaks S P T Q A → (v w : Option (LineView S P T)) → Type 0
IsShown g None None = Unit {0}
IsShown {Q = Q} {A = A} g (Some v) (Some w) = IsSameSeat v w
    × ((h : Heard Q A) (said : List (Said Q A)) → Stands g v h said → Stands g w (with_said h said) [])
    × (w.phase ≡ v.phase)
IsShown g _ _ = ⊥

-- nothing of what was said becomes known of the connection at the place, if there is one
abbrev pub IsForgotten : {S P T Q A : Type 0} → Speaks S P T Q A → (v w : Option (LineView S P T)) → Type 0
IsForgotten g None None = Unit {0}
IsForgotten {Q = Q} {A = A} g (Some v) (Some w) = IsSameSeat v w
    × ((h : Heard Q A) (said : List (Said Q A)) → Stands g v h said → Stands g w h [])
IsForgotten g _ _ = ⊥

-- ---- how a place stands

-- `Writes` where something is to be written, and else as given
abbrev pub unless_written : List ℕ → Standing → Standing
unless_written [] standing = standing
unless_written (byte ∷ bytes) standing = Writes

-- how a place stands in that phase, with that output to be written
abbrev pub standing_in : Phase → List ℕ → Standing
standing_in phase.Wants output = unless_written output Reads
standing_in phase.Asks output = unless_written output Asks
standing_in phase.Over output = unless_written output Over
standing_in phase.Gone output = Over

abbrev pub standing_of : {S P T : Type 0} → LineView S P T → Standing
standing_of v = standing_in v.phase v.output

abbrev pub standing_at : {S P T : Type 0} → Option (LineView S P T) → Standing
standing_at None = Free
standing_at (Some v) = standing_of v

-- who is at a place, if anybody is
abbrev pub line_at : {V : Type 0} → List (Option V) → ℕ → Option V
line_at lines place = slice_index_or lines place None

-- a question was found, and waits for its answer
abbrev pub HasQuestion : {S P T : Type 0} → Option (LineView S P T) → Type 0
HasQuestion None = ⊥
HasQuestion (Some v) = (v.phase ≡ phase.Asks) × (1 ≤ length v.waiting)

-- ---- between rounds

-- nothing becomes known of the connection at the place, if there is one, and its stream stays
abbrev pub IsLooked : {S P T Q A : Type 0} → Speaks S P T Q A → (v w : Option (LineView S P T)) → Type 0
IsLooked g None None = Unit {0}
IsLooked {Q = Q} {A = A} g (Some v) (Some w) = IsSameSeat v w × ((h : Heard Q A) → Stands g v h [] → Stands g w h [])
IsLooked g _ _ = ⊥

-- these bytes more have come on a connection
pub record HasCome {S P T Q A : Type 0} (g : Speaks S P T Q A) (v w : LineView S P T) (piece : List ℕ) : Type 0 where
  pub connection : w.connection ≡ v.connection
  pub reads : Consumes (g.remaining v.stream) (g.remaining w.stream) piece
  pub writes : Keeps (g.contents v.stream) (g.contents w.stream)
  pub stands : (h : Heard Q A) → IsHeard g v h [] → Stands g w (with_piece h piece) []

-- these bytes of the connection's output were written
pub record HasWritten {S P T Q A : Type 0} (g : Speaks S P T Q A) (v w : LineView S P T) (bytes : List ℕ) : Type 0 where
  pub connection : w.connection ≡ v.connection
  pub reads : Keeps (g.remaining v.stream) (g.remaining w.stream)
  pub writes : Appends (g.contents v.stream) (g.contents w.stream) bytes
  pub output : v.output ≡ bytes ++ w.output
  pub stands : (h : Heard Q A) → IsHeard g v h [] → IsHeard g w (with_written h bytes) []

-- the connection's stream has failed: nothing has come, and nothing was written
pub record HasFailed {S P T Q A : Type 0} (g : Speaks S P T Q A) (v w : LineView S P T) : Type 0 where
  pub connection : w.connection ≡ v.connection
  pub reads : Keeps (g.remaining v.stream) (g.remaining w.stream)
  pub writes : Keeps (g.contents v.stream) (g.contents w.stream)
  pub stands : (h : Heard Q A) → IsHeard g v h [] → IsHeard g w h []

-- A read at a place. Where more is wanted there, so many bytes have come, or the read failed; else the place stays as
-- it was.
abbrev pub IsRead : {S P T Q A E : Type 0} → Speaks S P T Q A → Result (Option ℕ) E → (piece : List ℕ)
    → (v w : Option (LineView S P T)) → Type 0
IsRead g (Ok None) piece v w = (standing_at v ≢ Reads) × (w ≡ v)
IsRead g (Ok (Some count)) piece (Some v) (Some w) = (standing_of v ≡ Reads) × (count ≤ length piece)
    × HasCome g v w (take count piece)
IsRead g (Err error) piece (Some v) (Some w) = (standing_of v ≡ Reads) × HasFailed g v w
IsRead g _ _ _ _ = ⊥

-- A write at a place. Where something is to be written there, so many bytes of it were written, or the write failed;
-- else the place stays as it was.
abbrev pub IsWritten : {S P T Q A E : Type 0} → Speaks S P T Q A → Result (Option ℕ) E → (v w : Option (LineView S P T))
    → Type 0
IsWritten g (Ok None) v w = (standing_at v ≢ Writes) × (w ≡ v)
IsWritten g (Ok (Some count)) (Some v) (Some w) = (standing_of v ≡ Writes) × (count ≤ length v.output)
    × HasWritten g v w (take count v.output)
IsWritten g (Err error) (Some v) (Some w) = (standing_of v ≡ Writes) × HasFailed g v w
IsWritten g _ _ _ = ⊥

-- ---- what a lost round leaves

-- What a lost round leaves. What was put off could not be kept, and that has stopped the keeper: a stop leaves the
-- rows of the ledger before the round, or those of the ledger behind it. Or memory was refused before the keeper was
-- asked: it goes on, and holds the rows before the round.
abbrev pub IsLeftBy : {K : Type 0} → Ghosts K → K → Loss → Type 0
IsLeftBy g keep loss =
    ((g.stopped keep ≡ true) × (g.is_honest keep → LeavesEither (g.leaves keep) loss.before loss.behind))
    ⊎ ((g.stopped keep ≡ false) × Good loss.before
    × (g.is_honest keep → IsStored (g.holds keep) (g.leaves keep) loss.before))
