-- What a session has read and written.
use Rattle.std.proofs.Common.{◌≡◌, ◌≢◌, ◌⊎◌, ◌∙◌, [], ◌∷◌, Bool, Err, IfErr, List, ℕ, Ok, OnErr, OnOk, Option, Result}
use Rattle.std.proofs.Common.{Some, ap, arith, false, refl, subst, sym, true, true≢false}
use Rattle.std.proofs.Math.Logic.{inl, inr}
use Rattle.std.proofs.KnownBytes.{Appends-kept, Appends-nil, Consumes-kept, Consumes-nil, Keeps-refl}
use Rattle.std.proofs.lemmas.Result.{IfErr-at_err}
use Rattle.ledger.specs.Good.{Good}
use Rattle.ledger.specs.Ledger.{Ledger, new_ledger}
use Rattle.ledger.specs.Rows.{Content, IsRowsOf}
use Rattle.ledger.proofs.Runs.{good_new}
use Rattle.ledger.proofs.EqualRows.{told_by_rows}
use Rattle.keep.specs.Content.{new_content, new_row}
use Rattle.keep.specs.declared.keep.Keep.{Ghosts}
use Rattle.desk.specs.Desk.{DeskState, DeskView, IsStored, Snapshot, TellsStop, desk_state, going_at, snapshot}
use Rattle.desk.specs.Opening.{IsLeft}
use Rattle.desk.specs.Dialogue.{EndsWhole, IsPrompt}
use Rattle.desk.specs.Script.{WritesText, lines}
use Rattle.desk.specs.Streams.{IsSilent, Streams, streams}
use Rattle.desk.specs.declared.fault.ScriptFault.{ScriptFault}
use Rattle.desk.proofs.Faults.{other_error}
use Rattle.desk.proofs.LineAnswers.{cut_told, text_written}
use Rattle.desk.proofs.SomeText.{text_from}
use Rattle.stockdesk.specs.Runs.{AnswersLines, AnswersText, BeginsText}
use Rattle.stockdesk.specs.Sessions.{IsBadFile, IsNoDesk, IsToldAs, IsUnbegun, OpensAndDoes, HoldsOnly, ScriptCut}
use Rattle.stockdesk.specs.Sessions.{Session, SessionCut, SessionInPart, SessionRefused, SessionWhole, StillHolds, desk_left}
use Rattle.stockdesk.specs.Sessions.{session_in, session_on}
use Rattle.stockdesk.specs.declared.session.Fault.{Fault}

rows_new : IsRowsOf new_ledger new_content
rows_new = record { desk = refl; fields = tt; moves = refl; orders = refl; lines = refl; kept = refl; firms = refl }

-- a good ledger whose rows are those of a new desk is that of one
is_new : (A : Ledger) → Good A → IsRowsOf A new_content → A ≡ new_ledger
is_new A good rows = told_by_rows A new_ledger new_content good good_new rows rows_new

-- nothing is read, and nothing written
pub nothing_read : (A : Ledger) (s : Streams) → IsSilent s → BeginsText A s
nothing_read A s (reads, writes) = record {
  read = [];
  written = [];
  unwritten = [];
  last = A;
  reads = Consumes-kept _ _ _ _ (Consumes-nil s.reader_old) reads;
  writes = Appends-kept _ _ _ _ (Appends-nil s.writer_old) writes;
  text = record {
    items = [];
    are_items = record { ended = []; rest = Some []; feeds = (refl, refl); all = refl };
    replies = (refl, refl);
  };
  prompt = record {
    before = [];
    piece = [];
    questions = [];
    kinds = [];
    answers = [];
    behind = going_at A;
    begun = [];
    read_is = refl;
    short = omega arith;
    come = (Some [], (refl, refl));
    are_answers = refl;
    written_is = refl;
  };
}

nothing_so_far : (A : Ledger) (s : Streams) → IsSilent s → AnswersLines A s
nothing_so_far A s (reads, writes) = record {
  read = [];
  written = [];
  ended = [];
  rest = Some [];
  ledger = A;
  reads = Consumes-kept _ _ _ _ (Consumes-nil s.reader_old) reads;
  writes = Appends-kept _ _ _ _ (Appends-nil s.writer_old) writes;
  feeds = (refl, refl);
  replies = (refl, refl);
}

-- ---- faults

abbrev is_unbegun : Fault → Bool
is_unbegun Fault.Memory = false
is_unbegun Fault.Store = false
is_unbegun Fault.Read = false
is_unbegun Fault.Write = false
is_unbegun Fault.Socket = false
is_unbegun _ = true

pub not_unbegun : (fault told : Fault) → fault ≡ told → is_unbegun told ≡ false → IsUnbegun fault → ⊥
not_unbegun fault told e begun (inl (inl is)) = true≢false (sym (ap is_unbegun is) ∙ ap is_unbegun e ∙ begun)
not_unbegun fault told e begun (inl (inr (inl is))) = true≢false (sym (ap is_unbegun is) ∙ ap is_unbegun e ∙ begun)
not_unbegun fault told e begun (inl (inr (inr is))) = true≢false (sym (ap is_unbegun is) ∙ ap is_unbegun e ∙ begun)
not_unbegun fault told e begun (inr (inl is)) = true≢false (sym (ap is_unbegun is) ∙ ap is_unbegun e ∙ begun)
not_unbegun fault told e begun (inr (inr (number, is))) = true≢false (sym (ap is_unbegun is) ∙ ap is_unbegun e ∙ begun)

-- what a script is cut by is told as a fault of something begun
pub told_begun : (cause : ScriptFault) (fault : Fault) → IsToldAs cause fault → IsUnbegun fault → ⊥
told_begun ScriptFault.Memory fault told = not_unbegun fault _ (told.memory.1 refl) refl
told_begun ScriptFault.Stopped fault told = not_unbegun fault _ (told.store.1 refl) refl
told_begun ScriptFault.Read fault told = not_unbegun fault _ (told.read.1 refl) refl
told_begun ScriptFault.Write fault told = not_unbegun fault _ (told.write.1 refl) refl

-- ---- answers and errors

-- a status that is neither 0 nor 1 tells of something not begun
pub told_unbegun : (status : ℕ) (fault : Fault)
    → (status ≡ 1) ⊎ (((status ≡ 3) × IsNoDesk fault) ⊎ ((status ≡ 4) × IsBadFile fault))
    → (status ≡ 2) ⊎ ((status ≡ 3) ⊎ (status ≡ 4)) → IsUnbegun fault
told_unbegun status fault (inl one) (inl e) = absurd (omega arith)
told_unbegun status fault (inl one) (inr (inl e)) = absurd (omega arith)
told_unbegun status fault (inl one) (inr (inr e)) = absurd (omega arith)
told_unbegun status fault (inr (inl (three, none))) h = inl none
told_unbegun status fault (inr (inr (four, bad))) h = inr bad

module _ {K : Type 0} (on : Session K) (r : Result (Unit {0}) Fault) (first : DeskView K) (last : Ledger)
    (Done : DeskState → DeskState → Type 0) (began : on.ghosts.stopped first.keep ≡ false) (good : Good first.ledger)
    (rows : on.ghosts.is_honest on.keep → (x : Content) → on.held x → IsRowsOf first.ledger x)
    (stop : TellsStop (r ≡ Err Fault.Store) (desk_state on.ghosts first) (desk_left on last))
    (stored : on.ghosts.stopped on.keep ≡ false → on.ghosts.is_honest on.keep
    → IsStored (on.ghosts.holds on.keep) (on.ghosts.leaves on.keep) last) where
  -- all was done on a desk
  pub whole_by : OnOk r (Done (desk_state on.ghosts first) (desk_left on last)) → OnOk r (SessionWhole on Done)
  whole_by = by r refl
    where
      by : (ended : Result (Unit {0}) Fault) → r ≡ ended
          → OnOk ended (Done (desk_state on.ghosts first) (desk_left on last)) → OnOk ended (SessionWhole on Done)
      by (Ok done) is ends =
          let going : on.ghosts.stopped on.keep ≡ false = stop.going (λ e. let both = sym is ∙ e in cc both) ∙ began in
          record {
            on = record { first = first; last = last; began = began; good = good; rows = rows; done = ends };
            going = going;
            kept = stored going;
          }
      by (Err fault) is ends = tt

  -- what was done on it is cut by an error
  pub cut_by : (fault : Fault) → r ≡ Err fault → Done (desk_state on.ghosts first) (desk_left on last)
      → IfErr r (λ f. ¬ IsNoDesk f) → SessionCut on fault Done
  cut_by fault is ends desk =
      let going : fault ≢ Fault.Store → on.ghosts.stopped on.keep ≡ false =
      λ other. stop.going (other_error r fault Fault.Store is other) ∙ began in
      record {
        on = record { first = first; last = last; began = began; good = good; rows = rows; done = ends };
        desk = IfErr-at_err (λ f. ¬ IsNoDesk f) is desk;
        stopped = λ e. stop.stopped (is ∙ ap (λ f. Err f) e);
        going = going;
        kept = λ other. stored (going other);
      }

-- ---- scripts

-- a script that is cut has begun its text
pub cut_begins : (fault : Fault) (old new : DeskState) (s : Streams) → Good old.ledger → old.is_stopped ≡ false
    → ScriptCut fault old new s → BeginsText old.ledger s
cut_begins fault old new s good going (cause, told, ends) =
    let (unwritten, last, text) =
    text_from cause old new ends.read ends.written ends.questions good ends.are_questions ends.cut in
    let began : snapshot old ≡ going_at old.ledger = ap (λ (b : Bool). record { ledger = old.ledger; is_stopped = b }) going in
    record {
      read = ends.read;
      written = ends.written;
      unwritten = unwritten;
      last = last;
      reads = ends.reads;
      writes = ends.writes;
      text = text;
      prompt = subst (λ (first : Snapshot). IsPrompt lines first ends.read ends.written) began ends.prompt;
    }

-- ---- over a new desk

module _ {K : Type 0} (on : Session K) (s : Streams) (honest : on.ghosts.is_honest on.keep) (new : on.held new_content) where
  -- it begins at the ledger of one
  from_new : (Done : DeskState → DeskState → Type 0) (begun : OpensAndDoes on Done) (Is : Ledger → Type 0)
      → Is begun.first.ledger → Is new_ledger
  from_new Done begun Is h = subst Is (is_new begun.first.ledger begun.good (begun.rows honest new_content new)) h

  pub runs_whole : SessionWhole on (λ old new. EndsWhole lines old new s) → AnswersText new_ledger s
  runs_whole all = (
    all.on.last,
    from_new _ all.on (λ A. WritesText A all.on.last s)
        (text_written (desk_state on.ghosts all.on.first) (desk_left on all.on.last) s all.on.done),
  )

  module _ (fault : Fault) where
    pub runs_part : SessionInPart on fault (IsSilent s) (λ old new. ScriptCut fault old new s) → BeginsText new_ledger s
    runs_part (inl (refused, silent)) = nothing_read new_ledger s silent
    runs_part (inr cut) =
        from_new _ cut.on (λ A. BeginsText A s)
        (cut_begins fault (desk_state on.ghosts cut.on.first) (desk_left on cut.on.last) s cut.on.good cut.on.began
        cut.on.done)

    pub runs_so_far : SessionInPart on fault (IsSilent s) (λ old new. ScriptCut fault old new s) → fault ≡ Fault.Read
        → AnswersLines new_ledger s
    runs_so_far (inl (refused, silent)) is = nothing_so_far new_ledger s silent
    runs_so_far (inr cut) is =
        let (cause, told, ends) = cut.on.done in
        let (rest, feeds) = ends.come (told.read.0 is) in
        from_new _ cut.on (λ A. AnswersLines A s) (record {
          read = ends.read;
          written = ends.written;
          ended = ends.cut.answered;
          rest = rest;
          ledger = cut.on.last;
          reads = ends.reads;
          writes = ends.writes;
          feeds = feeds;
          replies =
              cut_told cause (desk_state on.ghosts cut.on.first) (desk_left on cut.on.last) ends.questions ends.written
              ends.cut (λ e. let both = sym e ∙ told.read.0 is in cc both);
        })

    -- a new desk is a desk, and not damaged
    pub opens_new : on.tables new_content → SessionInPart on fault (IsSilent s) (λ old new. ScriptCut fault old new s)
        → IsUnbegun fault → ⊥
    opens_new there (inl (refused, silent)) un = by refused.opening
      where
        by : IsNoDesk fault ⊎ ((fault ≡ Fault.Memory) ⊎ (fault ≡ Fault.Store)) → ⊥
        by (inl (inl is)) = refused.not_a_desk is honest new_content there (new_row, refl, refl)
        by (inl (inr (inl is))) = refused.damaged is honest new_content new new_ledger good_new rows_new
        by (inl (inr (inr is))) = refused.old_version is honest new_content there
        by (inr (inl is)) = not_unbegun fault _ is refl un
        by (inr (inr is)) = not_unbegun fault _ is refl un
    opens_new there (inr cut) un = let (cause, told, ends) = cut.on.done in told_begun cause fault told un

-- ---- over what the bytes of a file hold

module _ {K : Type 0} (g : Ghosts K) (keep : K) (was : Content → Type 0) (opened : K) (opens : HoldsOnly g was opened)
    (back : g.is_honest keep → g.is_honest opened) where
  abbrev begun : (Done : DeskState → DeskState → Type 0) → OpensAndDoes (session_on g opened keep) Done
      → OpensAndDoes (session_in g was keep) Done
  begun Done s = record {
    first = s.first;
    last = s.last;
    began = s.began;
    good = s.good;
    rows = λ honest x there. s.rows honest x (opens.held (back honest) x there);
    done = s.done;
  }

  pub starts_whole : (AllDone : DeskState → DeskState → Type 0) → SessionWhole (session_on g opened keep) AllDone
      → SessionWhole (session_in g was keep) AllDone
  starts_whole AllDone s = record { on = begun AllDone s.on; going = s.going; kept = s.kept }

  pub stays : g.is_honest keep → IsLeft g opened keep → StillHolds g was keep
  stays honest left = record {
    held = λ going x there. (left.same going x).0 (opens.held (back honest) x there);
    alone = λ x there. left.adds.adds_nothing (x ∷ []) (opens.alone (back honest) x there);
  }

  pub starts_refused : ((x : Content) → g.holds opened x → g.has_tables opened x) → (fault : Fault)
      → SessionRefused (session_on g opened keep) fault → SessionRefused (session_in g was keep) fault
  starts_refused in_tables fault s = record {
    not_a_desk = λ is honest x there. s.not_a_desk is honest x (in_tables x (opens.held (back honest) x there));
    old_version = λ is honest x there. s.old_version is honest x (in_tables x (opens.held (back honest) x there));
    damaged = λ is honest x there. s.damaged is honest x (opens.held (back honest) x there);
    opening = s.opening;
    stopped = s.stopped;
    going = s.going;
    left = λ honest. stays honest (s.left honest);
  }

  pub starts_part : ((x : Content) → g.holds opened x → g.has_tables opened x)
      → (fault : Fault) (Untouched : Type 0) (PartDone : DeskState → DeskState → Type 0)
      → SessionInPart (session_on g opened keep) fault Untouched PartDone
      → SessionInPart (session_in g was keep) fault Untouched PartDone
  starts_part in_tables fault Untouched PartDone (inl (s, kept)) = inl (starts_refused in_tables fault s, kept)
  starts_part in_tables fault Untouched PartDone (inr s) =
      inr (record { on = begun PartDone s.on; desk = s.desk; stopped = s.stopped; going = s.going; kept = s.kept })

pub runs_nothing : (R W : Option (List ℕ)) → BeginsText new_ledger (streams R R W W)
runs_nothing R W = nothing_read new_ledger (streams R R W W) (Keeps-refl R, Keeps-refl W)

-- ---- answers and errors

pub on_err : {T E P : Type 0} (r : Result T E) → P → OnErr r P
on_err (Ok value) p = tt
on_err (Err fault) p = p

pub on_error : {T E : Type 0} (r : Result T E) (P : E → Type 0) (Q : Type 0) → ((e : E) → P e → Q) → IfErr r P → OnErr r Q
on_error (Ok value) P Q on p = tt
on_error (Err e) P Q on p = on e p
