-- What is found after a session.
use Rattle.std.proofs.Common.{◌≡◌, ◌≢◌, ◌⊎◌, ◌∙◌, ◌++◌, ℕ, Bool, false, true, true≢false, List, [], ◌∷◌, Some, Result}
use Rattle.std.proofs.Common.{Ok, Err, IfErr, OnOk, ap, arith, refl, subst, sym}
use Rattle.std.proofs.Math.Logic.{inl, inr}
use Rattle.std.proofs.KnownBytes.{Appends-kept, Appends-nil, Consumes-kept, Consumes-nil}
use Rattle.words.specs.declared.command.Request.{Request}
use Rattle.ledger.specs.Answers.{IsAccepted}
use Rattle.ledger.specs.Good.{Good}
use Rattle.ledger.specs.Ledger.{Ledger}
use Rattle.ledger.specs.Next.{accept}
use Rattle.ledger.specs.Rows.{Content}
use Rattle.desk.specs.Desk.{DeskState, IsStored, LeavesEither, TellsStop, Snapshot, going_at, snapshot}
use Rattle.desk.specs.Headline.{IsFoundAfterItems, LeavesRowsOf}
use Rattle.desk.specs.Script.{Writes}
use Rattle.desk.specs.Streams.{IsSilent, Streams}
use Rattle.desk.proofs.Faults.{other_error}
use Rattle.desk.proofs.LineAnswers.{text_written}
use Rattle.desk.proofs.FoundAfter.{either_left, stored_left}
use Rattle.desk.proofs.FoundLines.{ends_cut_left, found_all, found_told, found_whole, left_as, lists_left}
use Rattle.stockdesk.specs.Connections.{AreServed, IsFoundAfterService, IsServed, ServesSome, as_stood}
use Rattle.desk.specs.Text.{items_of}
use Rattle.desk.specs.Lists.{most_together}
use Rattle.stockdesk.specs.Outside.{Outside}
use Rattle.stockdesk.specs.Sessions.{IsNoDesk}
use Rattle.stockdesk.specs.Work.{IsFoundAfterWork, WorkCut, WorkDone}
use Rattle.stockdesk.specs.declared.session.Fault.{Fault}
use Rattle.command_line.specs.declared.work.Work.{Work}
use Rattle.command_line.specs.declared.work.Work.TheVariants.{Requests, Script, Serve, ServeAtOnce, Sheet}
use Rattle.stockdesk.proofs.Meetings.{many_left}
use Rattle.stockdesk.proofs.SessionParts.{not_unbegun}

-- ---- after connections

module _ (end : DeskState) where
  -- a request is accepted, and a stop leaves the rows before it or behind it
  abbrev StopsNow : Ledger → Type 0
  StopsNow A = (r : Request) × IsAccepted A r × LeavesEither end.leaves A (accept A r)

  one_stops : (old new : Snapshot) (s : Streams) → old.is_stopped ≡ false → new.is_stopped ≡ true → end.is_honest
      → IsServed end old s new → StopsNow new.ledger
  one_stops old new s going halted honest (inl (served, ends, tells)) =
      let stops = ends.stops going halted honest in (stops.request, stops.accepted, stops.either)
  one_stops old new s going halted honest (inr (fault, ends)) =
      let stops = ends.cut.stops going halted honest in (stops.request, stops.accepted, stops.either)

  none_behind : (old new : Snapshot) (streams : List Streams) → old.is_stopped ≡ true → AreServed end old streams new → new ≡ old
  none_behind old new [] halted same = same
  none_behind old new (s ∷ streams) halted (mid, going, one, more) = absurd (true≢false (sym halted ∙ going))

  -- the connection that stopped the desk is the last
  last_stops : (old new : Snapshot) (streams : List Streams) → old.is_stopped ≡ false → new.is_stopped ≡ true
      → end.is_honest → AreServed end old streams new → StopsNow new.ledger
  last_stops old new [] going halted honest same = absurd (true≢false (sym halted ∙ ap (λ s. s.is_stopped) same ∙ going))
  last_stops old new (s ∷ streams) going halted honest (mid, was, one, more) =
      by (λ e. last_stops mid new streams e halted honest more) mid.is_stopped refl
    where
      by : (mid.is_stopped ≡ false → StopsNow new.ledger) → (b : Bool) → mid.is_stopped ≡ b → StopsNow new.ledger
      by later false e = later e
      by later true e =
          subst (λ (s : Snapshot). StopsNow s.ledger) (sym (none_behind mid new streams e more))
          (one_stops old mid s going e honest one)

  -- of the desk at the end only what is said of the disk matters
  as_first : (A : Ledger) (b : Bool) (streams : List Streams) (old new : Snapshot) → AreServed end old streams new
      → AreServed (as_stood end (record { ledger = A; is_stopped = b })) old streams new
  as_first A b [] old new same = same
  as_first A b (s ∷ streams) old new (mid, going, one, more) = (mid, going, one, as_first A b streams mid new more)

-- the first ledger, and what is known of the disk at the end
abbrev first_of : (old new : DeskState) → DeskState
first_of old new = as_stood new (record { ledger = old.ledger; is_stopped = new.is_stopped })

service_left : (count : ℕ) (holds : Content → Type 0) (old new : DeskState) → old.is_stopped ≡ false → Good new.ledger
    → new.is_honest → ServesSome count new (snapshot old) (snapshot new)
    → (new.is_stopped ≡ false → IsStored holds new.leaves new.ledger)
    → LeavesRowsOf new.leaves (IsFoundAfterService count (first_of old new))
service_left count holds old new went good honest (streams, few, served) stored = by new.is_stopped refl
  where
    some : ServesSome count (first_of old new) (record { ledger = old.ledger; is_stopped = false }) (snapshot new)
    some = (
      streams,
      few,
      subst (λ (b : Bool).
          AreServed (first_of old new) (record { ledger = old.ledger; is_stopped = b }) streams (snapshot new)) went
          (as_first new old.ledger new.is_stopped streams (snapshot old) (snapshot new) served),
    )

    by : (b : Bool) → new.is_stopped ≡ b → LeavesRowsOf new.leaves (IsFoundAfterService count (first_of old new))
    by false e =
        stored_left new.ledger (IsFoundAfterService count (first_of old new)) holds new.leaves good
        (snapshot new, some, inl refl) (stored e)
    by true e =
        let (r, accepted, either) = last_stops new (snapshot old) (snapshot new) streams went e honest served in
        either_left new.ledger (accept new.ledger r) (IsFoundAfterService count (first_of old new)) new.leaves
        (snapshot new, some, inl refl) (snapshot new, some, inr (e, r, accepted, refl)) either

-- ---- where nothing is done

module _ (first : DeskState) (s : Streams) (silent : IsSilent s) where
  no_items : (most : ℕ)
      → Writes s.writer_old s.writer_new (λ written. IsFoundAfterItems most first.ledger [] written first.ledger)
  no_items most = (
    [],
    Appends-kept _ _ _ _ (Appends-nil s.writer_old) silent.1,
    found_told most first.ledger [] first.ledger [] [] [] refl (refl, refl),
  )

  pub nothing_found : (work : Work) → IsFoundAfterWork work first s first.ledger
  nothing_found Script = (
    [],
    [],
    Consumes-kept _ _ _ _ (Consumes-nil s.reader_old) silent.0,
    record { ended = []; rest = Some []; feeds = (refl, refl); all = refl },
    no_items 1,
  )
  nothing_found (Requests kind csv together) = ([], no_items (most_together together))
  nothing_found (Sheet of) = refl
  nothing_found (Serve service) = (record { ledger = first.ledger; is_stopped = false }, ([], omega arith, refl), inl refl)
  nothing_found (ServeAtOnce service at_once) = ([], going_at first.ledger, refl, refl)

-- ---- after work

module _ {C L R W G T : Type 0} (out : Outside C L R W G T) (old new : DeskState) (s : Streams)
    (holds : Content → Type 0) (went : old.is_stopped ≡ false) (good : Good new.ledger) (honest : new.is_honest)
    (stored : new.is_stopped ≡ false → IsStored holds new.leaves new.ledger) where
  abbrev Found : Work → Ledger → Type 0
  Found work B = IsFoundAfterWork work (first_of old new) s B

  only_last : (work : Work) → new.is_stopped ≡ false → Found work new.ledger → LeavesRowsOf new.leaves (Found work)
  only_last work going found = stored_left new.ledger (Found work) holds new.leaves good found (stored going)

  done_left : (work : Work) → new.is_stopped ≡ false → WorkDone out work old new s → LeavesRowsOf new.leaves (Found work)
  done_left Script going ends = only_last Script going (found_whole old.ledger new.ledger s (text_written old new s ends))
  done_left (Requests kind csv together) going (kept, (requests, its, answered)) =
      only_last (Requests kind csv together) going (
        requests,
        found_all (most_together together) old.ledger (items_of requests) new.ledger s.writer_old s.writer_new
            answered,
      )
  done_left (Sheet of) going (kept, same, sheet) = only_last (Sheet of) going same
  done_left (ServeAtOnce service at_once) going (kept, all) = many_left holds old new went good honest all.meets stored
  done_left (Serve service) going (kept, all) =
      service_left service.connections holds old new went good honest
      (all.streams, omega (arith, all.as_many), all.served) stored

  found_same : (work : Work) → IsSilent s → new.ledger ≡ old.ledger → Found work new.ledger
  found_same work silent same = subst (λ (A : Ledger). Found work A) (sym same) (nothing_found (first_of old new) s silent work)

  module _ (fault : Fault) (going : fault ≢ Fault.Store → new.is_stopped ≡ false) where
    work_cut_left : (work : Work) → WorkCut out work fault old new s → LeavesRowsOf new.leaves (Found work)
    work_cut_left Script (cause, told, ends) = ends_cut_left old new holds good went honest stored cause s ends
    work_cut_left (Requests kind csv together) (reads, inl (inl is, same, writes), blames) =
        only_last (Requests kind csv together) (going (λ e. cc))
        (found_same (Requests kind csv together) (reads, writes) same)
    work_cut_left (Requests kind csv together) (reads, inl (inr (inl is), same, writes), blames) =
        only_last (Requests kind csv together) (going (λ e. cc))
        (found_same (Requests kind csv together) (reads, writes) same)
    work_cut_left (Requests kind csv together) (reads, inl (inr (inr (number, is)), same, writes), blames) =
        only_last (Requests kind csv together) (going (λ e. cc))
        (found_same (Requests kind csv together) (reads, writes) same)
    work_cut_left (Requests kind csv together) (reads, inr (requests, its, (cause, told, (cut, writes))), blames) =
        left_as new.leaves
        (IsFoundAfterItems (most_together together) old.ledger (items_of requests) (cut.lines ++ cut.begun))
        (Found (Requests kind csv together))
        (λ B found. (requests, (cut.lines ++ cut.begun, writes, found)))
        (lists_left old new holds good went honest stored cause together requests cut)
    work_cut_left (Sheet of) (reads, same, inl (is, nothing)) = only_last (Sheet of) (going (λ e. cc)) same
    work_cut_left (Sheet of) (reads, same, inr (is, begun)) = only_last (Sheet of) (going (λ e. cc)) same
    work_cut_left (Serve service) (reads, inl (inl is, begun, same)) =
        only_last (Serve service) (going (λ e. cc))
        (record { ledger = old.ledger; is_stopped = false }, ([], omega arith, refl), inl same)
    work_cut_left (Serve service) (reads, inl (inr (inl is), begun, same)) =
        only_last (Serve service) (going (λ e. cc))
        (record { ledger = old.ledger; is_stopped = false }, ([], omega arith, refl), inl same)
    work_cut_left (Serve service) (reads, inl (inr (inr is), begun, same)) =
        only_last (Serve service) (going (λ e. cc))
        (record { ledger = old.ledger; is_stopped = false }, ([], omega arith, refl), inl same)
    work_cut_left (ServeAtOnce service at_once) (reads, inl (inl is, begun, same)) =
        only_last (ServeAtOnce service at_once) (going (λ e. cc)) ([], going_at old.ledger, refl, same)
    work_cut_left (ServeAtOnce service at_once) (reads, inl (inr (inl is), begun, same)) =
        only_last (ServeAtOnce service at_once) (going (λ e. cc)) ([], going_at old.ledger, refl, same)
    work_cut_left (ServeAtOnce service at_once) (reads, inl (inr (inr is), begun, same)) =
        only_last (ServeAtOnce service at_once) (going (λ e. cc)) ([], going_at old.ledger, refl, same)
    work_cut_left (ServeAtOnce service at_once) (reads, inr (why, some)) =
        many_left holds old new went good honest some.meets stored
    work_cut_left (Serve service) (reads, inr (why, some)) =
        service_left service.connections holds old new went good honest (some.streams, some.as_many, some.served) stored

  -- however it ended
  pub work_left : {T : Type 0} (ended : Result T Fault) (work : Work) → OnOk ended (WorkDone out work old new s)
      → IfErr ended (λ fault. WorkCut out work fault old new s) → TellsStop (ended ≡ Err Fault.Store) old new
      → LeavesRowsOf new.leaves (Found work)
  work_left (Ok done) work whole cut stop = done_left work (stop.going (λ e. cc) ∙ went) whole
  work_left (Err fault) work whole cut stop =
      work_cut_left fault (λ other. stop.going (other_error (Err fault) fault Fault.Store refl other) ∙ went) work cut

-- a failing opening of the rows of a desk does not call them none
pub opens_desk : (fault : Fault) → (fault ≡ Fault.Memory) ⊎ (fault ≡ Fault.Store) → ¬ IsNoDesk fault
opens_desk fault (inl is) none = not_unbegun fault _ is refl (inl none)
opens_desk fault (inr is) none = not_unbegun fault _ is refl (inl none)
