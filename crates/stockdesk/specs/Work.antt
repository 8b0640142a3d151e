-- What a session does on the desk that a keeper holds.
use Rattle.std.specs.Prelude.{◌≡◌, List, None, Result, Err, IfErr, OnOk}
use Rattle.std.specs.Io.KnownBytes.{Keeps}
use Rattle.ledger.specs.Ledger.{Ledger}
use Rattle.keep.specs.declared.keep.Keep.{Ghosts}
use Rattle.desk.specs.Desk.{DeskState, DeskView, Goes, TellsStop, desk_state}
use Rattle.desk.specs.Headline.{IsFoundAfterItems, IsFoundAfterLines, LeavesRowsOf}
use Rattle.desk.specs.Lists.{most_together}
use Rattle.desk.specs.Dialogue.{EndsWhole}
use Rattle.desk.specs.Script.{Writes, lines}
use Rattle.desk.specs.Streams.{IsSilent, Streams}
use Rattle.desk.specs.Text.{items_of}
use Rattle.words.specs.declared.command.Request.{Request}
use Rattle.rounds.specs.Services.{HasServedEnough}
use Rattle.stockdesk.specs.Connections.{IsFoundAfterMany, IsFoundAfterService, ManyCut, ServesAll, ServesMany, ServiceCut}
use Rattle.stockdesk.specs.Outside.{Outside}
use Rattle.stockdesk.specs.Requests.{BlamesFileAt, FileCut, IsFileAt, RequestsAnswered}
use Rattle.stockdesk.specs.Sessions.{IsNoDesk, ScriptCut, Session, SessionInPart, SessionWhole, desk_left}
use Rattle.stockdesk.specs.Sheets.{SheetCut, SheetWritten}
use Rattle.stockdesk.specs.declared.session.Fault.{Fault}
use Rattle.command_line.specs.declared.work.Work.{Work}
use Rattle.command_line.specs.declared.work.Work.TheVariants.{Requests, Script, Serve, ServeAtOnce, Sheet}

-- ---- what is done

-- The work is done, on a desk that was `old` before it and is `new` after it. All of the input was read, and its text
-- written; or the requests of the file are answered; or the sheet was written, and the ledger is as it was; or the
-- port was written, and as many connections as asked for that came there were served, one after the other or many at
-- once; or many at once until so many places were taken as were asked for.
abbrev pub WorkDone : {C L R W G T : Type 0} → Outside C L R W G T → Work → (old new : DeskState) → Streams → Type 0
WorkDone out Script old new s = EndsWhole lines old new s
WorkDone out (Requests kind csv together) old new s = Keeps s.reader_old s.reader_new
    × ((requests : List Request) × IsFileAt out.files kind csv.now requests
    × RequestsAnswered requests old.ledger new.ledger s)
WorkDone out (Sheet of) old new s = Keeps s.reader_old s.reader_new × (new.ledger ≡ old.ledger)
    × SheetWritten of old.ledger s.writer_old s.writer_new
WorkDone out (Serve service) old new s = Keeps s.reader_old s.reader_new × ServesAll out service old new s
WorkDone out (ServeAtOnce service at_once) old new s = Keeps s.reader_old s.reader_new
    × ServesMany out service (λ count loss. HasServedEnough service.connections at_once.places count old.ledger new.ledger
    × (loss ≡ None)) old new s.writer_old s.writer_new

-- the work is cut
abbrev pub WorkCut : {C L R W G T : Type 0} → Outside C L R W G T → Work → Fault → (old new : DeskState) → Streams → Type 0
WorkCut out Script fault old new s = ScriptCut fault old new s
WorkCut out (Requests kind csv together) fault old new s = Keeps s.reader_old s.reader_new
    × FileCut (IsFileAt out.files kind csv.now) together fault old new s × BlamesFileAt out.files kind csv.now fault
WorkCut out (Sheet of) fault old new s = Keeps s.reader_old s.reader_new × (new.ledger ≡ old.ledger)
    × SheetCut of fault old.ledger s.writer_old s.writer_new
WorkCut out (Serve service) fault old new s =
    Keeps s.reader_old s.reader_new × ServiceCut out service fault old new s
WorkCut out (ServeAtOnce service at_once) fault old new s =
    Keeps s.reader_old s.reader_new × ManyCut out service fault old new s.writer_old s.writer_new

-- However work ends, on a desk of which the keeper comes back: the whole is done, or a part.
pub record EndsWork {K : Type 0} (k : Ghosts K) (ended : Result (Unit {0}) Fault) (old new : DeskView K)
    (Whole : (old new : DeskState) → Type 0) (Part : Fault → (old new : DeskState) → Type 0) : Type 0 where
  pub whole : OnOk ended (Whole (desk_state k old) (desk_state k new))
  pub cut : IfErr ended (λ fault. Part fault (desk_state k old) (desk_state k new))
  pub desk : IfErr ended (λ fault. ¬ IsNoDesk fault)
  pub stop : TellsStop (ended ≡ Err Fault.Store) (desk_state k old) (desk_state k new)
  pub goes : Goes k old new

-- the work ends so, at some ledger
abbrev pub Ends : {K : Type 0} → Ghosts K → K × Result (Unit {0}) Fault → DeskView K
    → (Whole : (old new : DeskState) → Type 0) → (Part : Fault → (old new : DeskState) → Type 0) → Type 0
Ends k ended old Whole Part =
    (last : Ledger) × EndsWork k ended.1 old (record { ledger = last; keep = ended.0 }) Whole Part

-- the work is done on one desk, which is lent for it
abbrev pub IsOnOneDesk : Work → Type 0
IsOnOneDesk (ServeAtOnce service at_once) = ⊥
IsOnOneDesk _ = Unit {0}

-- the desk was opened, and the work done
abbrev pub WorkWhole : {K C L R W G T : Type 0} → Outside C L R W G T → Session K → Work → Streams → Type 0
WorkWhole out on work s = SessionWhole on (λ old new. WorkDone out work old new s)

-- no desk was opened, and nothing is read or written; or one was, and the work is cut
abbrev pub WorkInPart : {K C L R W G T : Type 0} → Outside C L R W G T → Session K → Work → Fault → Streams → Type 0
WorkInPart out on work fault s = SessionInPart on fault (IsSilent s) (λ old new. WorkCut out work fault old new s)

-- ---- what is found after a session

-- B is the ledger after a prefix of what such work may do from the ledger of `first`. After a script, or a file of some
-- requests, the prefix holds all whose answer was written whole, and at most one accepted request more, or as many as are
-- carried out together. After a service it is a prefix for some connections, or some messages, and the definition ties
-- these neither to the session nor to what was written there. What `first` says about the disk holds at the end.
abbrev pub IsFoundAfterWork : Work → (first : DeskState) → Streams → Ledger → Type 0
IsFoundAfterWork Script first s B = IsFoundAfterLines first.ledger s B
IsFoundAfterWork (Requests kind csv together) first s B =
    (requests : List Request) × Writes s.writer_old s.writer_new
    (λ written. IsFoundAfterItems (most_together together) first.ledger (items_of requests) written B)
IsFoundAfterWork (Sheet of) first s B = B ≡ first.ledger
IsFoundAfterWork (Serve service) first s B = IsFoundAfterService service.connections first B
IsFoundAfterWork (ServeAtOnce service at_once) first s B = IsFoundAfterMany first.ledger B

-- A session on the rows of the ledger A opens its desk, or fails for want of memory or by the store; and a stop
-- leaves nothing but what is found after its work.
pub record GoesOnFrom {K : Type 0} (on : Session K) (work : Work) (ended : Result (Unit {0}) Fault) (A : Ledger)
    (s : Streams) : Type 0 where
  pub opens : IfErr ended (λ fault. ¬ IsNoDesk fault)
  pub leaves : LeavesRowsOf (on.ghosts.leaves on.keep) (IsFoundAfterWork work (desk_left on A) s)
