-- A history: what came on which connection, what was written there, and the rounds.
use Rattle.std.specs.Prelude.{◌≡◌, ◌<◌, ◌≤◌, false, true, ℕ, List, [], ◌++◌, Option, None, Some, length, slice_get}
use Rattle.std.specs.Io.KnownBytes.{Appends, Consumes}
use Rattle.desk.specs.Desk.{Snapshot}
use Rattle.desk.specs.Dialogue.{Language}
use Rattle.rounds.specs.Lines.{Heard, IsTold, LineView, Said, Speaks, Stands, unheard, with_piece, with_written}
use Rattle.rounds.specs.Rounds.{Apart, AreNext, AreSaid, IsAt, Loss, heard_on, heard_with, lost_between, stopped_at}

-- A history. Nothing has happened yet; or behind another history a piece has come on a connection, and one without
-- bytes is the end of what comes; or these bytes were written on a connection; or a round was kept, in which this was
-- said; or a round was lost, and what was said in it is not told.
pub data History (Q A : Type 0) : Type 0 where
  begun : History Q A
  came : History Q A → ℕ → List ℕ → History Q A
  wrote : History Q A → ℕ → List ℕ → History Q A
  kept : History Q A → List (Said Q A) → History Q A
  lost : History Q A → List (Said Q A) → History Q A

-- what is known of each connection behind the history
abbrev pub heard_in : {Q A : Type 0} → History Q A → ℕ → Heard Q A
heard_in begun = λ connection. unheard
heard_in (came history connection piece) =
    heard_on connection (with_piece (heard_in history connection) piece) (heard_in history)
heard_in (wrote history connection bytes) =
    heard_on connection (with_written (heard_in history connection) bytes) (heard_in history)
heard_in (kept history said) = heard_with (heard_in history) said
heard_in (lost history untold) = heard_in history

-- all that was said, in its one order
abbrev pub order_of : {Q A : Type 0} → History Q A → List (Said Q A)
order_of begun = []
order_of (came history connection piece) = order_of history
order_of (wrote history connection bytes) = order_of history
order_of (kept history said) = order_of history ++ said
order_of (lost history untold) = order_of history

-- The rounds of the history lead the desk from `start` to `now`. At most one of them is lost, and `loss` has its
-- ledgers: it stops the desk, at the ledger to which what is not told leads; and that was asked on connections of the
-- history. A stopped desk stays as it is.
abbrev pub AreRounds : {Q A : Type 0} → Language Q A → Option Loss → Snapshot → History Q A → Snapshot → Type 0
AreRounds L loss start begun now = (now ≡ start) × (loss ≡ None)
AreRounds L loss start (came history connection piece) now = AreRounds L loss start history now
AreRounds L loss start (wrote history connection bytes) now = AreRounds L loss start history now
AreRounds L loss start (kept history said) now = (mid : Snapshot) × AreRounds L loss start history mid × AreSaid L mid said now
    × (mid.is_stopped ≡ true → now ≡ mid)
AreRounds L loss start (lost history untold) now = (mid : Snapshot) × (last : Snapshot) × AreRounds L None start history mid
    × (mid.is_stopped ≡ false) × AreSaid L mid untold last
    × (loss ≡ Some (lost_between mid last)) × (now ≡ stopped_at last.ledger) × AreNext L (heard_in history) untold

-- ---- connections

-- A connection: its stream as it came, and as it was when it left, if it has.
pub record Visit (T : Type 0) : Type 0 where
  pub came : T
  pub left : Option T

-- a connection that has not left
abbrev pub visit_of : {T : Type 0} → T → Visit T
visit_of stream = record { came = stream; left = None }

-- what is known of a connection was read from its stream and written to it
pub record IsHeardBy {T Q A : Type 0} (remaining contents : T → Option (List ℕ)) (first last : T) (h : Heard Q A)
    : Type 0 where
  pub reads : Consumes (remaining first) (remaining last) h.read
  pub writes : Appends (contents first) (contents last) h.written

abbrev pub IsHeardOn : {S P T Q A : Type 0} → Speaks S P T Q A → (first last : T) → Heard Q A → Type 0
IsHeardOn g first last h = IsHeardBy g.remaining g.contents first last h

-- who is at a place
pub record IsSeated {S P T Q A : Type 0} (g : Speaks S P T Q A) (visits : List (Visit T)) (heard : ℕ → Heard Q A)
    (v : LineView S P T) : Type 0 where
  pub came : T
  pub visit : slice_get visits v.connection ≡ Some (visit_of came)
  pub on : IsHeardOn g came v.stream (heard v.connection)
  pub stands : Stands g v (heard v.connection) []

-- the places, and how many connections have come
pub record PlacesView (V : Type 0) : Type 0 where
  pub lines : List (Option V)
  pub connections : ℕ

-- The places stand behind a history, whose rounds led the desk from `start` to `now`. Each connection that came was
-- heard on its own stream alone, and is told its answers in their order. Exactly those that have not left are there,
-- each at a place.
pub record IsReached {S P T Q A : Type 0} (g : Speaks S P T Q A) (loss : Option Loss) (start now : Snapshot)
    (visits : List (Visit T))
    (places : PlacesView (LineView S P T)) : Type 0 where
  pub history : History Q A
  pub are_rounds : AreRounds g.language loss start history now
  pub count : places.connections ≡ length visits
  pub told : (connection : ℕ) → connection < length visits → IsTold g.language (heard_in history connection)
  pub new : (connection : ℕ) → length visits ≤ connection → heard_in history connection ≡ unheard
  pub seated : (place : ℕ) (v : LineView S P T) → IsAt places.lines place v → IsSeated g visits (heard_in history) v
  pub apart : Apart places.lines
  pub there : (connection : ℕ) (first : T) → slice_get visits connection ≡ Some (visit_of first)
      → (place : ℕ) × (v : LineView S P T) × IsAt places.lines place v × (v.connection ≡ connection)
  pub gone : (connection : ℕ) (first last : T) → slice_get visits connection ≡ Some (record { came = first; left = Some last })
      → IsHeardOn g first last (heard_in history connection)
