-- How what is answered in a dialogue goes on, and how it ends.
use Rattle.std.proofs.Common.{◌≡◌, ◌≢◌, ◌≤◌, ◌∙◌, ◌+◌, Bool, true, false, true≢false, ℕ, List, [], ◌∷◌, ◌++◌, Option}
use Rattle.std.proofs.Common.{ap, append-nil, append_assoc, arith, inl, inr, length, refl, subst, sym}
use Rattle.std.specs.Io.KnownBytes.{Appends, Consumes, IsAtEnd, Keeps}
use Rattle.std.proofs.KnownBytes.{Appends-nil, Appends-trans, Consumes-kept, Consumes-nil, Consumes-trans}
use Rattle.std.proofs.lemmas.List.{length-append}
use Rattle.ledger.specs.Answers.{IsAccepted}
use Rattle.ledger.specs.Ledger.{Ledger}
use Rattle.ledger.specs.Next.{accept}
use Rattle.desk.specs.Desk.{DeskState, LeavesEither, Snapshot, snapshot}
use Rattle.desk.specs.Dialogue.{AlmostWritten, AnswerKind, Answered, AnswersOne, AreAnswers, Begins, BeginsTranscript}
use Rattle.desk.specs.Dialogue.{EndsCut, EndsUntaken, EndsWhole, FailsOne, IsCut, IsNoStop, IsStoppedBy, Language}
use Rattle.desk.specs.Dialogue.{StopsDesk, is_end, longest_piece, most, no_memory, ordinary, stopping, text_of}
use Rattle.desk.specs.Script.{Writes}
use Rattle.desk.specs.Streams.{Streams, streams}
use Rattle.desk.specs.declared.fault.CallFault.{CallFault}
use Rattle.desk.specs.declared.fault.ScriptFault.{ScriptFault}
use Rattle.desk.proofs.Faults.{memory_stops_nothing, read_stops_nothing, write_stops_nothing}
use Rattle.desk.proofs.Answering.{answers_on, each_both, first_behind, first_on, first_wider, text_on}

module _ {Q A : Type 0} (L : Language Q A) where
  -- ---- one question

  pub answered_none : (desk : DeskState) (W : Option (List ℕ)) → Answered L desk [] desk W W
  answered_none desk W = record {
    kinds = [];
    answers = [];
    are_answers = refl;
    writes = Appends-nil W;
    none_stopped = λ going. tt;
    stops = λ going halted honest. absurd (true≢false (sym halted ∙ going));
  }

  pub answered_one : (old new : DeskState) (question : Q) (text : List ℕ) (W w : Option (List ℕ))
      → AnswersOne L old question text new → Appends W w text → Answered L old (question ∷ []) new W w
  answered_one old new question text W w one writes = record {
    kinds = one.kind ∷ [];
    answers = one.answer ∷ [];
    are_answers = (snapshot new, one.is_answer, refl);
    writes = subst (λ (t : List ℕ). Appends W w t) (one.text_is ∙ sym (append-nil (L.text one.answer))) writes;
    none_stopped = λ going. (by one.kind one.halts going, tt);
    stops = λ going halted honest. one_stop old new question one going halted honest;
  }
    where
      by : (kind : AnswerKind) → (kind ≡ stopping → new.is_stopped ≡ true) → new.is_stopped ≡ false → IsNoStop kind
      by ordinary halts going = tt
      by no_memory halts going = tt
      by stopping halts going = true≢false (sym (halts refl) ∙ going)

      one_stop : (old new : DeskState) (question : Q) (one : AnswersOne L old question text new)
          → old.is_stopped ≡ false → new.is_stopped ≡ true → new.is_honest
          → StopsDesk L new (question ∷ []) (one.kind ∷ [])
      one_stop old new question one going halted honest =
          let (request, kind, calls, accepted, either) = one.stops going halted honest in
          record {
            request = request;
            first = subst (λ (k : AnswerKind). IsStoppedBy L (question ∷ []) (k ∷ []) request) (sym kind) calls;
            accepted = accepted;
            either = either;
          }

  -- its answer is written but for a rest
  pub cut_within : (fault : ScriptFault) (old new : DeskState) (question : Q) (text begun left : List ℕ)
      → fault ≡ ScriptFault.Write → AnswersOne L old question text new → text ≡ begun ++ left
      → IsCut L fault old (question ∷ []) begun new
  unfolding answered_one
  cut_within fault old new question text begun left is one split = record {
    answered = question ∷ [];
    left = [];
    kinds = one.kind ∷ [];
    answers = one.answer ∷ [];
    behind = snapshot new;
    split = refl;
    are_answers = (snapshot new, one.is_answer, refl);
    almost =
        inr (record {
          before = [];
          last = one.answer;
          begun = begun;
          left = left;
          split = refl;
          cut = sym one.text_is ∙ split;
          written_are = refl;
        });
    told = λ other. absurd (other is);
    same = refl;
    going = λ other. refl;
    stopped = λ e. absurd (write_stops_nothing (sym is ∙ e));
    stops = λ going halted honest. (answered_one old new question text Option.None Option.None one tt).stops going halted honest;
  }

  -- it is not answered
  pub cut_unanswered : (fault : ScriptFault) (desk new : DeskState) (questions : List Q) → fault ≢ ScriptFault.Stopped
      → new.ledger ≡ desk.ledger → new.is_stopped ≡ desk.is_stopped → IsCut L fault desk questions [] new
  cut_unanswered fault desk new questions other same still = record {
    answered = [];
    left = questions;
    kinds = [];
    answers = [];
    behind = snapshot desk;
    split = refl;
    are_answers = refl;
    almost = inl refl;
    told = λ e. refl;
    same = same;
    going = λ e. still;
    stopped = λ e. absurd (other e);
    stops = λ going halted honest. absurd (true≢false (sym halted ∙ still ∙ going));
  }

  pub cut_failed : (fault : CallFault) (told : ScriptFault) (old new : DeskState) (question : Q)
      → FailsOne L fault old question new → (fault ≡ CallFault.Memory → told ≡ ScriptFault.Memory)
      → (fault ≡ CallFault.Stopped → told ≡ ScriptFault.Stopped)
      → IsCut L told old (question ∷ []) [] new
  cut_failed CallFault.Memory told old new question (same, still, asked) memory stopped =
      subst (λ (f : ScriptFault). IsCut L f old (question ∷ []) [] new) (sym (memory refl))
      (cut_unanswered ScriptFault.Memory old new (question ∷ []) memory_stops_nothing same still)
  cut_failed CallFault.Stopped told old new question (request, calls, same, halted, call) memory stopped = record {
    answered = [];
    left = question ∷ [];
    kinds = [];
    answers = [];
    behind = snapshot old;
    split = refl;
    are_answers = refl;
    almost = inl refl;
    told = λ e. refl;
    same = same;
    going = λ other. absurd (other (stopped refl));
    stopped = λ e. (halted, (question, [], request, refl, calls));
    stops = λ going is honest. record {
      request = request;
      first = calls;
      accepted = subst (λ (B : Ledger). IsAccepted B request) (sym same) (call going).accepted;
      either = subst (λ (B : Ledger). LeavesEither new.leaves B (accept B request)) (sym same) ((call going).either honest);
    };
  }

  -- ---- one after the other

  is_going : (b : Bool) → (b ≡ true → ⊥) → b ≡ false
  is_going true h = absurd (h refl)
  is_going false h = refl

  module _ (old mid new : DeskState) (before : List Q) (W v : Option (List ℕ)) (done : Answered L old before mid W v)
      (untouched : mid.is_stopped ≡ true → new ≡ mid) where
    -- a desk that goes on then went on between
    went : new.is_stopped ≡ false → mid.is_stopped ≡ false
    went going =
        is_going mid.is_stopped
        (λ halted. true≢false (sym (ap (λ (d : DeskState). d.is_stopped) (untouched halted) ∙ halted) ∙ going))

    -- it was stopped then, or only behind it
    stopped_by : (others : List Q) (more : List AnswerKind)
        → (mid.is_stopped ≡ false → new.is_stopped ≡ true → new.is_honest → StopsDesk L new others more)
        → old.is_stopped ≡ false → new.is_stopped ≡ true → new.is_honest → StopsDesk L new (before ++ others) (done.kinds ++ more)
    stopped_by others more stops began halted honest = by mid.is_stopped refl
      where
        by : (b : Bool) → mid.is_stopped ≡ b → StopsDesk L new (before ++ others) (done.kinds ++ more)
        by true then =
            let same = untouched then in
            let s =
            subst (λ (d : DeskState). StopsDesk L d before done.kinds) (sym same)
            (done.stops began then (subst (λ (d : DeskState). d.is_honest) same honest)) in
            record {
              request = s.request;
              first =
                  first_on L before others done.kinds more done.answers (snapshot old) (snapshot mid) s.request
                  done.are_answers s.first;
              accepted = s.accepted;
              either = s.either;
            }
        by false then =
            let s = stops then halted honest in
            record {
              request = s.request;
              first =
                  first_behind L before others done.kinds more done.answers (snapshot old) (snapshot mid) s.request
                  done.are_answers (done.none_stopped then) s.first;
              accepted = s.accepted;
              either = s.either;
            }

    pub answered_on : (others : List Q) (w : Option (List ℕ)) → Answered L mid others new v w
        → Answered L old (before ++ others) new W w
    answered_on others w more = record {
      kinds = done.kinds ++ more.kinds;
      answers = done.answers ++ more.answers;
      are_answers =
          answers_on L before others done.kinds more.kinds done.answers more.answers (snapshot old) (snapshot mid)
          (snapshot new) done.are_answers more.are_answers;
      writes =
          subst (λ (t : List ℕ). Appends W w t) (sym (text_on L done.answers more.answers))
          (Appends-trans _ _ _ _ _ done.writes more.writes);
      none_stopped = λ going. each_both L done.kinds more.kinds (done.none_stopped (went going)) (more.none_stopped going);
      stops = stopped_by others more.kinds more.stops;
    }

    pub cut_on : (fault : ScriptFault) (others : List Q) (written : List ℕ) → IsCut L fault mid others written new
        → IsCut L fault old (before ++ others) (text_of L done.answers ++ written) new
    cut_on fault others written cut = record {
      answered = before ++ cut.answered;
      left = cut.left;
      kinds = done.kinds ++ cut.kinds;
      answers = done.answers ++ cut.answers;
      behind = cut.behind;
      split = ap (λ (xs : List Q). before ++ xs) cut.split ∙ sym (append_assoc before cut.answered cut.left);
      are_answers =
          answers_on L before cut.answered done.kinds cut.kinds done.answers cut.answers (snapshot old) (snapshot mid)
          cut.behind done.are_answers cut.are_answers;
      almost = almost cut.almost;
      told = λ other.
          ap (λ (t : List ℕ). text_of L done.answers ++ t) (cut.told other) ∙ sym (text_on L done.answers cut.answers);
      same = cut.same;
      going = cut.going;
      stopped = cut.stopped;
      stops = stopped_by others cut.kinds cut.stops;
    }
      where
        almost : AlmostWritten L cut.answers written
            → AlmostWritten L (done.answers ++ cut.answers) (text_of L done.answers ++ written)
        almost (inl all) = inl (ap (λ (t : List ℕ). text_of L done.answers ++ t) all ∙ sym (text_on L done.answers cut.answers))
        almost (inr l) = inr (record {
          before = done.answers ++ l.before;
          last = l.last;
          begun = l.begun;
          left = l.left;
          split = ap (λ (xs : List A). done.answers ++ xs) l.split ∙ sym (append_assoc done.answers l.before (l.last ∷ []));
          cut = l.cut;
          written_are =
              ap (λ (t : List ℕ). text_of L done.answers ++ t) l.written_are
              ∙ sym (append_assoc (text_of L done.answers) (text_of L l.before) l.begun)
              ∙ ap (λ (t : List ℕ). t ++ l.begun) (sym (text_on L done.answers l.before));
        })

  length_one : (question : Q) (kinds : List AnswerKind) (xs : List A) (old new : Snapshot)
      → AreAnswers L old (question ∷ []) kinds xs new → length xs ≡ 1
  length_one question [] xs old new h = absurd h
  length_one question (kind ∷ kinds) [] old new h = absurd h
  length_one question (kind ∷ []) (x ∷ []) old new h = refl
  length_one question (kind ∷ []) (x ∷ y ∷ xs) old new h = absurd (h.2)
  length_one question (kind ∷ other ∷ kinds) (x ∷ xs) old new h = absurd (h.2)

  -- these are answered, and so many answers counted in all
  abbrev pub Counted : (old : DeskState) (questions : List Q) (now : DeskState) (W w : Option (List ℕ))
      → (before after : ℕ) → Type 0
  Counted old questions now W w before after =
      (done : Answered L old questions now W w) × ((count : ℕ) → before ≡ most count → after ≡ most (count + length done.answers))

  pub counted_none : (desk : DeskState) (W : Option (List ℕ)) (count : ℕ) → Counted desk [] desk W W count count
  unfolding answered_none
  counted_none desk W count = (answered_none desk W, λ n e. e ∙ ap most (omega arith))

  -- one more
  pub counted_on : (old mid new : DeskState) (before : List Q) (question : Q) (W v w : Option (List ℕ))
      (first count next : ℕ) → (mid.is_stopped ≡ true → new ≡ mid) → Counted old before mid W v first count
      → Answered L mid (question ∷ []) new v w → next ≡ most (count + 1)
      → Counted old (before ++ question ∷ []) new W w first next
  unfolding answered_on
  counted_on old mid new before question W v w first count next untouched (done, counts) one more = (
    answered_on old mid new before W v done untouched (question ∷ []) w one,
    λ n e.
        let was = counts n e in
        let single = length_one question one.kinds one.answers (snapshot mid) (snapshot new) one.are_answers in
        let both = length-append done.answers one.answers in
        omega (arith, was, single, both, more),
  )

  -- whatever is asked behind them
  pub cut_wider : (fault : ScriptFault) (old new : DeskState) (questions others : List Q) (written : List ℕ)
      → IsCut L fault old questions written new → IsCut L fault old (questions ++ others) written new
  cut_wider fault old new questions others written cut = record {
    answered = cut.answered;
    left = cut.left ++ others;
    kinds = cut.kinds;
    answers = cut.answers;
    behind = cut.behind;
    split = ap (λ (xs : List Q). xs ++ others) cut.split ∙ append_assoc cut.answered cut.left others;
    are_answers = cut.are_answers;
    almost = cut.almost;
    told = cut.told;
    same = cut.same;
    going = cut.going;
    stopped = λ e.
        let (halted, (question, more, request, next, calls)) = cut.stopped e in
        (halted, (question, more ++ others, request, ap (λ (xs : List Q). xs ++ others) next, calls));
    stops = λ began halted honest.
        let s = cut.stops began halted honest in
        record {
          request = s.request;
          first = first_wider L questions others cut.kinds s.request s.first;
          accepted = s.accepted;
          either = s.either;
        };
  }

  -- ---- the whole dialogue

  -- what was read is answered: the questions in it that have come whole
  pub record Conversed (old : DeskState) (s : Streams) (now : DeskState) : Type 0 where
    pub read : List ℕ
    pub questions : List Q
    pub reads : Consumes s.reader_old s.reader_new read
    pub done : Answered L old questions now s.writer_old s.writer_new
    pub come : L.have_come read questions
    pub settled : (more : List ℕ) → Begins L (read ++ more) questions

  -- with the dialogue where it stands, and the count of its answers
  abbrev pub InDialogue : (old : DeskState) (s : Streams) (now : DeskState) → (List ℕ → List Q → Type 0) → (count : ℕ) → Type 0
  InDialogue old s now Stands count =
      (on : Conversed old s now) × Stands on.read on.questions × (count ≡ most (length on.done.answers))

  pub conversed_first : (desk : DeskState) (R W : Option (List ℕ)) → L.have_come [] []
      → ((more : List ℕ) → Begins L more []) → Conversed desk (streams R R W W) desk
  conversed_first desk R W come settled = record {
    read = [];
    questions = [];
    reads = Consumes-nil R;
    done = answered_none desk W;
    come = come;
    settled = settled;
  }

  pub first_counted : (desk : DeskState) (R W : Option (List ℕ)) (Stands : List ℕ → List Q → Type 0) → L.have_come [] []
      → ((more : List ℕ) → Begins L more []) → Stands [] [] → InDialogue desk (streams R R W W) desk Stands 0
  unfolding conversed_first answered_none
  first_counted desk R W Stands come settled stands = (conversed_first desk R W come settled, stands, omega arith)

  module _ (old mid : DeskState) (R r W w : Option (List ℕ)) (at : Conversed old (streams R r W w) mid) where
    -- nothing more is answered, with a piece more that was read
    ends_still : (fault : ScriptFault) (piece : List ℕ) (s : Option (List ℕ)) → fault ≢ ScriptFault.Stopped
        → length piece ≤ longest_piece → Consumes r s piece
        → (fault ≡ ScriptFault.Read → L.have_come (at.read ++ piece) at.questions)
        → EndsCut L fault old mid (streams R s W w)
    ends_still fault piece s other short more come =
        let (others, are) = at.settled piece in
        record {
          read = at.read ++ piece;
          written = text_of L at.done.answers;
          questions = at.questions ++ others;
          reads = Consumes-trans _ _ _ _ _ at.reads more;
          writes = at.done.writes;
          are_questions = are;
          cut = record {
            answered = at.questions;
            left = others;
            kinds = at.done.kinds;
            answers = at.done.answers;
            behind = snapshot mid;
            split = refl;
            are_answers = at.done.are_answers;
            almost = inl refl;
            told = λ e. refl;
            same = refl;
            going = λ e. refl;
            stopped = λ e. absurd (other e);
            stops = λ began halted honest.
                let s = at.done.stops began halted honest in
                record {
                  request = s.request;
                  first = first_wider L at.questions others at.done.kinds s.request s.first;
                  accepted = s.accepted;
                  either = s.either;
                };
          };
          settled = λ behind ended. subst (λ (input : List ℕ). Begins L input at.questions)
              (sym (append_assoc at.read piece behind)) (at.settled (piece ++ behind));
          come = come;
          prompt = record {
            before = at.read;
            piece = piece;
            questions = at.questions;
            kinds = at.done.kinds;
            answers = at.done.answers;
            behind = snapshot mid;
            begun = [];
            read_is = refl;
            short = short;
            come = at.come;
            are_answers = at.done.are_answers;
            written_is = sym (append-nil (text_of L at.done.answers));
          };
        }

    -- and nothing of it is answered
    pub ends_before : (piece : List ℕ) (s : Option (List ℕ)) → length piece ≤ longest_piece → (piece ≡ [] → ⊥)
        → Consumes r s piece → EndsUntaken L old mid (streams R s W w)
    ends_before piece s short some more = record {
      before = at.read;
      piece = piece;
      questions = at.questions;
      kinds = at.done.kinds;
      answers = at.done.answers;
      reads = Consumes-trans _ _ _ _ _ at.reads more;
      short = short;
      first = λ e. absurd (some e);
      come = at.come;
      are_answers = at.done.are_answers;
      writes = at.done.writes;
    }

    -- a read fails
    pub ends_unread : (s : Option (List ℕ)) → Keeps r s → EndsCut L ScriptFault.Read old mid (streams R s W w)
    ends_unread s kept = ends_still ScriptFault.Read [] s read_stops_nothing (omega arith)
        (Consumes-kept _ _ _ _ (Consumes-nil r) kept)
        (λ e. subst (λ (input : List ℕ). L.have_come input at.questions) (sym (append-nil at.read)) at.come)

    -- there is no memory for a piece
    pub ends_untaken : (fault : ScriptFault) (piece : List ℕ) (s : Option (List ℕ)) → fault ≡ ScriptFault.Memory
        → length piece ≤ longest_piece → Consumes r s piece → EndsCut L fault old mid (streams R s W w)
    ends_untaken fault piece s is short more =
        ends_still fault piece s (λ e. memory_stops_nothing (sym is ∙ e)) short more
        (λ e. absurd (memory_reads_nothing (sym is ∙ e)))
      where
        memory_reads_nothing : ScriptFault.Memory ≢ ScriptFault.Read
        memory_reads_nothing e = cc e

    module _ (new : DeskState) (untouched : mid.is_stopped ≡ true → new ≡ mid) (piece : List ℕ) (s v : Option (List ℕ))
        (more : Consumes r s piece) (others : List Q) where
      -- the answers behind a piece are cut
      pub ends_within : (fault : ScriptFault) → fault ≢ ScriptFault.Read → length piece ≤ longest_piece
          → ((behind : List ℕ) → (IsAtEnd s → behind ≡ [])
          → Begins L ((at.read ++ piece) ++ behind) (at.questions ++ others))
          → Writes w v (λ written. IsCut L fault mid others written new) → EndsCut L fault old new (streams R s W v)
      unfolding cut_wider cut_on
      ends_within fault other short settled (written, writes, cut) =
          let (unasked, are) = settled [] (λ e. refl) in
          let same = append-nil (at.read ++ piece) in
          record {
            read = at.read ++ piece;
            written = text_of L at.done.answers ++ written;
            questions = (at.questions ++ others) ++ unasked;
            reads = Consumes-trans _ _ _ _ _ at.reads more;
            writes = Appends-trans _ _ _ _ _ at.done.writes writes;
            are_questions = subst (λ (input : List ℕ). L.are_questions input ((at.questions ++ others) ++ unasked)) same are;
            cut =
                cut_wider fault old new (at.questions ++ others) unasked (text_of L at.done.answers ++ written)
                (cut_on old mid new at.questions W w at.done untouched fault others written cut);
            settled = λ behind ended.
                let (last, begins) = settled behind ended in
                let split : (at.questions ++ others) ++ last ≡ (at.questions ++ cut.answered) ++ (cut.left ++ last) =
                ap (λ (xs : List Q). (at.questions ++ xs) ++ last) cut.split
                ∙ ap (λ (xs : List Q). xs ++ last) (sym (append_assoc at.questions cut.answered cut.left))
                ∙ append_assoc (at.questions ++ cut.answered) cut.left last in
                (cut.left ++ last, subst (λ (xs : List Q). L.are_questions ((at.read ++ piece) ++ behind) xs) split begins);
            come = λ e. absurd (other e);
            prompt = record {
              before = at.read;
              piece = piece;
              questions = at.questions;
              kinds = at.done.kinds;
              answers = at.done.answers;
              behind = snapshot mid;
              begun = written;
              read_is = refl;
              short = short;
              come = at.come;
              are_answers = at.done.are_answers;
              written_is = refl;
            };
          }

      -- they are written whole
      module _ (done : Answered L mid others new w v) where
        pub conversed_on : L.have_come (at.read ++ piece) (at.questions ++ others)
            → ((behind : List ℕ) → Begins L ((at.read ++ piece) ++ behind) (at.questions ++ others))
            → Conversed old (streams R s W v) new
        conversed_on come settled = record {
          read = at.read ++ piece;
          questions = at.questions ++ others;
          reads = Consumes-trans _ _ _ _ _ at.reads more;
          done = answered_on old mid new at.questions W w at.done untouched others v done;
          come = come;
          settled = settled;
        }

        -- and the dialogue is over
        pub ends_whole : (has_ended : Bool) → (has_ended ≡ true → IsAtEnd s)
            → L.are_questions (at.read ++ piece) (at.questions ++ others) → L.ends has_ended (at.questions ++ others)
            → ((behind : List ℕ) → (has_ended ≡ true → behind ≡ [])
            → Begins L ((at.read ++ piece) ++ behind) (at.questions ++ others))
            → EndsWhole L old new (streams R s W v)
        ends_whole has_ended at_end are ends settled =
            let all = answered_on old mid new at.questions W w at.done untouched others v done in
            record {
              read = at.read ++ piece;
              questions = at.questions ++ others;
              kinds = all.kinds;
              answers = all.answers;
              has_ended = has_ended;
              reads = Consumes-trans _ _ _ _ _ at.reads more;
              at_end = at_end;
              are_questions = are;
              ends = ends;
              settled = λ behind ended. settled behind (λ e. ended (at_end e));
              are_answers = all.are_answers;
              writes = all.writes;
              stops = all.stops;
            }

        -- with its count of answers, and the dialogue where it stands
        pub ends_counted : (Stands : List ℕ → Bool → List Q → Type 0) (before count : ℕ) (has_ended : Bool)
            → (has_ended ≡ true → IsAtEnd s) → L.are_questions (at.read ++ piece) (at.questions ++ others)
            → L.ends has_ended (at.questions ++ others)
            → ((behind : List ℕ) → (has_ended ≡ true → behind ≡ [])
            → Begins L ((at.read ++ piece) ++ behind) (at.questions ++ others))
            → Stands (at.read ++ piece) has_ended (at.questions ++ others)
            → before ≡ most (length at.done.answers) → ((n : ℕ) → before ≡ most n → count ≡ most (n + length done.answers))
            → (whole : EndsWhole L old new (streams R s W v)) × (count ≡ most (length whole.answers))
            × Stands whole.read whole.has_ended whole.questions
        unfolding ends_whole answered_on
        ends_counted Stands before count has_ended at_end are ends settled stands was counts = (
          ends_whole has_ended at_end are ends settled,
          counts _ was ∙ ap most (sym (length-append at.done.answers done.answers)),
          stands,
        )

        pub counted_behind : (Stands : List ℕ → Bool → List Q → Type 0) (before count : ℕ) (ended : Bool)
            → ended ≡ false → L.have_come (at.read ++ piece) (at.questions ++ others)
            → ((behind : List ℕ) → Begins L ((at.read ++ piece) ++ behind) (at.questions ++ others))
            → Stands (at.read ++ piece) ended (at.questions ++ others) → before ≡ most (length at.done.answers)
            → ((n : ℕ) → before ≡ most n → count ≡ most (n + length done.answers))
            → InDialogue old (streams R s W v) new (λ read questions. Stands read false questions) count
        unfolding conversed_on answered_on
        counted_behind Stands before count ended still come settled stands was counts = (
          conversed_on come settled,
          subst (λ (b : Bool). Stands (at.read ++ piece) b (at.questions ++ others)) still stands,
          counts _ was ∙ ap most (sym (length-append at.done.answers done.answers)),
        )

module _ {Q A : Type 0} (L : Language Q A) where
  -- what was written goes on, where what is left has answers
  pub transcript_begins : (fault : ScriptFault) (old new : DeskState) (s : Streams) (ends : EndsCut L fault old new s)
      (kinds : List AnswerKind) (ys : List A) (last : Snapshot)
      → AreAnswers L ends.cut.behind ends.cut.left kinds ys last
      → BeginsTranscript L (snapshot old) s
  transcript_begins fault old new s ends kinds ys last more = by ends.cut.almost
    where
      by : AlmostWritten L ends.cut.answers ends.written → BeginsTranscript L (snapshot old) s
      by almost =
          let (rest, whole) = goes almost in
          record {
            read = ends.read;
            written = ends.written;
            kinds = ends.cut.kinds ++ kinds;
            unwritten = rest ++ text_of L ys;
            last = last;
            reads = ends.reads;
            writes = ends.writes;
            transcript = record {
              questions = ends.questions;
              answers = ends.cut.answers ++ ys;
              are_questions = ends.are_questions;
              are_answers = subst (λ (qs : List Q).
                  AreAnswers L (snapshot old) qs (ends.cut.kinds ++ kinds) (ends.cut.answers ++ ys) last)
                  (sym ends.cut.split)
                  (answers_on L ends.cut.answered ends.cut.left ends.cut.kinds kinds ends.cut.answers ys (snapshot old)
                  ends.cut.behind last ends.cut.are_answers more);
              out_is =
                  sym (append_assoc ends.written rest (text_of L ys))
                  ∙ ap (λ (t : List ℕ). t ++ text_of L ys) (sym whole) ∙ sym (text_on L ends.cut.answers ys);
            };
          }
        where
          goes : AlmostWritten L ends.cut.answers ends.written
              → (rest : List ℕ) × (text_of L ends.cut.answers ≡ ends.written ++ rest)
          goes (inl all) = ([], sym all ∙ sym (append-nil ends.written))
          goes (inr l) = (
            l.left,
            ap (text_of L) l.split ∙ text_on L l.before (l.last ∷ [])
                ∙ ap (λ (t : List ℕ). text_of L l.before ++ t) (append-nil (L.text l.last) ∙ l.cut)
                ∙ sym (append_assoc (text_of L l.before) l.begun l.left) ∙ ap (λ (t : List ℕ). t ++ l.left) (sym l.written_are),
          )

-- a piece is the end only where it has no bytes
pub end_empty : (piece : List ℕ) → is_end piece ≡ true → piece ≡ []
end_empty [] e = refl
end_empty (byte ∷ bytes) e = absurd (true≢false (sym e))
