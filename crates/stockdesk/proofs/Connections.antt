-- Connections, served one after the other, and the line that tells their port.
use Rattle.std.proofs.Common.{◌≡◌, ◌≤◌, ◌∙◌, ◌+◌, Err, IfErr, IfOk, ℕ, List, [], ◌∷◌, ◌++◌, Ok, Option, Result, arith}
use Rattle.std.proofs.Common.{false, inl, inr, length, refl, subst, sym, true, true≢false}
use Rattle.std.specs.Io.KnownBytes.{Appends, Keeps}
use Rattle.std.proofs.KnownBytes.{Appends-kept, Appends-nil}
use Rattle.std.proofs.lemmas.List.{length-append, take_all}
use Rattle.desk.specs.Desk.{DeskState, Snapshot, snapshot}
use Rattle.desk.specs.Streams.{Streams, streams}
use Rattle.desk.specs.Dialogue.{AnswerKind, EndsCut, EndsWhole, StopsDesk}
use Rattle.web.specs.Messages.{Part}
use Rattle.web.specs.Serving.{Tells, cause_of}
use Rattle.web.specs.Web.{http}
use Rattle.web.specs.declared.served.Served.{Served}
use Rattle.web.specs.declared.served.WebFault.{WebFault}
use Rattle.stockdesk.specs.Connections.{AreServed, IsServed, IsLeft, Pass, Passes, PortBegun, PortCut, PortTold, as_stood, listening_line}
use Rattle.stockdesk.specs.Outside.{Listening}

-- ---- one connection, as the desk at the end sees it

module _ (end old new : DeskState)
    (turn : (parts : List Part) (kinds : List AnswerKind) → new.is_stopped ≡ true
    → (new.is_honest → StopsDesk http new parts kinds) → end.is_honest
    → StopsDesk http (as_stood end (snapshot new)) parts kinds) where
  abbrev whole_as : (s : Streams) → EndsWhole http old new s
      → EndsWhole http (as_stood end (snapshot old)) (as_stood end (snapshot new)) s
  whole_as s e = record {
    read = e.read;
    questions = e.questions;
    kinds = e.kinds;
    answers = e.answers;
    has_ended = e.has_ended;
    reads = e.reads;
    at_end = e.at_end;
    are_questions = e.are_questions;
    ends = e.ends;
    settled = e.settled;
    are_answers = e.are_answers;
    writes = e.writes;
    stops = λ before after honest. turn e.questions e.kinds after (e.stops before after) honest;
  }

  abbrev cut_as : (fault : WebFault) (s : Streams) → EndsCut http (cause_of fault) old new s
      → EndsCut http (cause_of fault) (as_stood end (snapshot old)) (as_stood end (snapshot new)) s
  cut_as fault s e = record {
    read = e.read;
    written = e.written;
    questions = e.questions;
    reads = e.reads;
    writes = e.writes;
    are_questions = e.are_questions;
    cut = record {
      answered = e.cut.answered;
      left = e.cut.left;
      kinds = e.cut.kinds;
      answers = e.cut.answers;
      behind = e.cut.behind;
      split = e.cut.split;
      are_answers = e.cut.are_answers;
      almost = e.cut.almost;
      told = e.cut.told;
      same = e.cut.same;
      going = e.cut.going;
      stopped = e.cut.stopped;
      stops = λ before after honest. turn e.questions e.cut.kinds after (e.cut.stops before after) honest;
    };
    settled = e.settled;
    come = e.come;
    prompt = e.prompt;
  }

-- a connection ends whole, or by a fault
pub is_served : (result : Result Served WebFault) (old new : DeskState) (s : Streams)
    → IfOk result (λ served. (whole : EndsWhole http old new s) × Tells served whole)
    → IfErr result (λ fault. EndsCut http (cause_of fault) old new s)
    → IsServed new (snapshot old) s (snapshot new)
is_served (Ok served) old new s (whole, tells) cut =
    inl (served, whole_as new old new (λ parts kinds halted stops honest. stops honest) s whole, tells)
is_served (Err fault) old new s whole cut =
    inr (fault, cut_as new old new (λ parts kinds halted stops honest. stops honest) fault s cut)

-- ---- connections that were served, as a later end sees them

-- what they are served on goes on before them
goes_before : (end : DeskState) (streams : List Streams) (old new : Snapshot) → new.is_stopped ≡ false
    → AreServed end old streams new → old.is_stopped ≡ false
goes_before end [] old new going same = subst (λ (s : Snapshot). s.is_stopped ≡ false) same going
goes_before end (s ∷ streams) old new going (mid, before, one, rest) = before

-- a desk that goes on has told nothing of what a stop leaves
module _ (was end : DeskState) where
  is_again : (s : Streams) (old new : Snapshot) → new.is_stopped ≡ false → IsServed was old s new → IsServed end old s new
  is_again s old new going (inl (served, whole, tells)) =
      inl (
        served,
        whole_as end (as_stood was old) (as_stood was new)
            (λ parts kinds halted. absurd (true≢false (sym halted ∙ going))) s whole,
        tells,
      )
  is_again s old new going (inr (fault, e)) =
      inr (
        fault,
        cut_as end (as_stood was old) (as_stood was new)
            (λ parts kinds halted. absurd (true≢false (sym halted ∙ going))) fault s e,
      )

  are_again : (streams : List Streams) (old new : Snapshot) → new.is_stopped ≡ false → AreServed was old streams new
      → AreServed end old streams new
  are_again [] old new going same = same
  are_again (s ∷ streams) old new going (mid, before, one, rest) = (
    mid,
    before,
    is_again s old mid (goes_before was streams mid new going rest) one,
    are_again streams mid new going rest,
  )

-- ---- one connection more

served_on : (end : DeskState) (streams : List Streams) (s : Streams) (old mid new : Snapshot)
    → AreServed end old streams mid → mid.is_stopped ≡ false → IsServed end mid s new
    → AreServed end old (streams ++ s ∷ []) new
served_on end [] s old mid new same going one =
    subst (λ (o : Snapshot). AreServed end o (s ∷ []) new) same (new, going, one, refl)
served_on end (t ∷ streams) s old mid new (next, before, first, rest) going one =
    (next, before, first, served_on end streams s next mid new rest going one)

module _ {N R W : Type 0} (g : Listening N R W) where
  -- so many connections were served, as they came
  abbrev pub ServesFrom : ℕ → (end : DeskState) → (first last : Snapshot) → N → N → Type 0
  ServesFrom count end first last old new =
      (streams : List Streams) × (length streams ≡ count) × AreServed end first streams last × Pass g old streams new

  -- it came so, and was closed so
  pub passes : (old busy new : N) (reader reader_then : R) (writer writer_then : W) → g.comes old reader writer busy
      → g.closes busy reader_then writer_then new
      → Passes g old (streams (g.remaining reader) (g.remaining reader_then) (g.contents writer) (g.contents writer_then)) new
  passes old busy new reader reader_then writer writer_then came closed = record {
    reader = reader;
    writer = writer;
    busy = busy;
    came = came;
    reads = refl;
    writes = refl;
    reader_then = reader_then;
    writer_then = writer_then;
    closed = closed;
    has_read = refl;
    has_written = refl;
  }

  passed_on : (streams : List Streams) (s : Streams) (old mid new : N) → Pass g old streams mid → Passes g mid s new
      → Pass g old (streams ++ s ∷ []) new
  passed_on [] s old mid new same one = (new, subst (λ o. Passes g o s new) same one, refl)
  passed_on (t ∷ streams) s old mid new (next, first, rest) one = (next, first, passed_on streams s next mid new rest one)

  pub serves_one : (count : ℕ) (s : Streams) (was end : DeskState) (first mid last : Snapshot) (old now new : N)
      → mid.is_stopped ≡ false → ServesFrom count was first mid old now → Passes g now s new → IsServed end mid s last
      → ServesFrom (count + 1) end first last old new
  serves_one count s was end first mid last old now new going (streams, size, are, come) pass one =
      let more = length-append streams (s ∷ []) in (
        streams ++ s ∷ [],
        omega (arith, size, more),
        served_on end streams s first mid last (are_again was end streams first mid going are) going one,
        passed_on streams s old now new come pass,
      )

  -- those so far
  pub serves_so_far : (count most : ℕ) (end : DeskState) (first last : Snapshot) (old now then : N) → count ≤ most
      → IsLeft g now then → ServesFrom count end first last old now
      → (streams : List Streams) × (length streams ≤ most) × AreServed end first streams last × (mid : N)
      × Pass g old streams mid × IsLeft g mid then
  serves_so_far count most end first last old now then few left (streams, size, are, come) =
      (streams, omega (arith, size, few), are, now, come, left)

-- ---- the port

pub port_whole : (W w : Option (List ℕ)) → PortTold W w → PortBegun W w
port_whole W w (port, (is, writes)) = (
  port,
  length (listening_line port),
  is,
  omega arith,
  subst (λ (t : List ℕ). Appends W w t)
      (sym (take_all (length (listening_line port)) (listening_line port) (omega arith))) writes,
)

pub port_begun : (W w : Option (List ℕ)) → PortCut W w → PortBegun W w
port_begun W w (port, count, is, few, writes) = (port, count, is, omega (arith, few), writes)

pub port_unwritten : (W w : Option (List ℕ)) → Keeps W w → PortBegun W w
port_unwritten W w kept = (0, 0, omega arith, omega arith, Appends-kept _ _ _ _ (Appends-nil W) kept)
