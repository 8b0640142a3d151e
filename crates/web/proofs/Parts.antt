-- The parts of a stream that are found in it one by one.
use Rattle.std.proofs.Common.{◌≡◌, ◌∙◌, ◌<◌, Bool, false, true, true≢false, ℕ, List, [], ◌∷◌, ◌++◌, Option, ap}
use Rattle.std.proofs.Common.{append-nil, append_assoc, arith, inl, refl, subst, sym}
use Rattle.std.specs.List.{AllByRecursion as Each}
use Rattle.httparse.specs.Grammar.{ReadsRequest, print_request}
use Rattle.httparse.proofs.GrammarLemmas.{ReadsRequest-append}
use Rattle.std.proofs.KnownBytes.{Appends-nil, Consumes-nil}
use Rattle.desk.specs.Desk.{DeskState, snapshot}
use Rattle.desk.specs.Dialogue.{EndsCut, EndsUntaken, is_end}
use Rattle.desk.specs.Streams.{streams}
use Rattle.desk.specs.declared.fault.ScriptFault.TheVariants as ScriptFault
use Rattle.web.specs.Messages.{AreParts, AwaitsMessage, BeginsWith, IsUnreadable, Message, Part, unreadable, whole}
use Rattle.web.specs.Turns.{AreFirst, HasFound, NoneComes, Passes, ending_of, left_to_find}
use Rattle.web.specs.Web.{EndsAt, HaveCome, IsWholePart, http}
use Rattle.web.specs.declared.served.Ending.{Ending}
use Rattle.web.specs.declared.served.Ending.TheVariants.{BadMessage, Input}
use Rattle.web.proofs.NoHead.{awaits_head, is_small_head, small_head}
use Rattle.web.proofs.OneStream.{head_some}
use Rattle.web.proofs.SomeParts.{rest_shorter, some_parts}

-- ---- messages, and what stands behind them

-- the parts of what stands behind messages stand behind these
parts_behind : (ps : List Part) (stream rest : List ℕ) (parts : List Part) → Passes stream ps rest → AreParts rest parts
    → AreParts stream (ps ++ parts)
parts_behind [] stream rest parts h k = subst (λ (s : List ℕ). AreParts s parts) (sym h) k
parts_behind (whole m ∷ ps) stream rest parts (mid, begins, more) k = (mid, begins, parts_behind ps mid rest parts more k)
parts_behind (unreadable ∷ ps) stream rest parts h k = absurd h

-- what comes behind stays behind
begins_on : (stream rest more : List ℕ) (m : Message) → BeginsWith stream m rest → BeginsWith (stream ++ more) m (rest ++ more)
begins_on stream rest more m b = record {
  reads =
      subst (λ (t : List ℕ). ReadsRequest (stream ++ more) m.head t) (append_assoc m.body rest more)
      (ReadsRequest-append stream m.head (m.body ++ rest) more b.reads);
  announces = b.announces;
}

pub passes_on : (ps : List Part) (stream rest more : List ℕ) → Passes stream ps rest → Passes (stream ++ more) ps (rest ++ more)
passes_on [] stream rest more h = ap (λ (s : List ℕ). s ++ more) h
passes_on (whole m ∷ ps) stream rest more (mid, begins, h) =
    (mid ++ more, begins_on stream mid more m begins, passes_on ps mid rest more h)
passes_on (unreadable ∷ ps) stream rest more h = absurd h

-- one message more
pub passes_more : (ps : List Part) (stream rest left : List ℕ) (m : Message) → Passes stream ps rest
    → BeginsWith rest m left → Passes stream (ps ++ whole m ∷ []) left
passes_more [] stream rest left m h b = (left, subst (λ (s : List ℕ). BeginsWith s m left) (sym h) b, refl)
passes_more (whole n ∷ ps) stream rest left m (mid, begins, h) b = (mid, begins, passes_more ps mid rest left m h b)
passes_more (unreadable ∷ ps) stream rest left m h b = absurd h

pub have_come : (ps : List Part) (stream rest : List ℕ) → Passes stream ps rest → AwaitsMessage rest → HaveCome stream ps
have_come [] stream rest h none = subst AwaitsMessage (sym h) none
have_come (whole m ∷ ps) stream rest (mid, begins, h) none = (mid, begins, have_come ps mid rest h none)
have_come (unreadable ∷ ps) stream rest h none = absurd h

pub all_whole : (ps : List Part) (stream rest : List ℕ) → Passes stream ps rest → Each IsWholePart ps
all_whole [] stream rest h = tt
all_whole (whole m ∷ ps) stream rest (mid, begins, h) = (tt, all_whole ps mid rest h)
all_whole (unreadable ∷ ps) stream rest h = absurd h

-- what is unreadable has not come whole
none_come : (before : List Part) (stream : List ℕ) → HaveCome stream (before ++ unreadable ∷ []) → ⊥
none_come [] stream h = h
none_come (whole m ∷ before) stream (rest, begins, h) = none_come before rest h
none_come (unreadable ∷ before) stream h = h

-- ---- where a dialogue stands

-- behind a message fewer are left, and none behind what is none
pub fewer_left : (is_over : Bool) (held left : List ℕ) (m : Message) → is_over ≡ false → BeginsWith held m left
    → left_to_find is_over left < left_to_find is_over held
fewer_left false held left m e b = let shorter = rest_shorter held left m b in omega (arith, shorter)
fewer_left true held left m e b = cc e

-- a piece more
pub found_on : (is_over : Bool) (held read piece : List ℕ) (found : List Part) → HasFound is_over held read false found
    → HaveCome read found → (ended : Bool) → HasFound is_over (held ++ piece) (read ++ piece) ended found
found_on false held read piece found h come ended = passes_on found read held piece h
found_on true held read piece found (before, is, h, none) come ended =
    absurd (none_come before read (subst (HaveCome read) is come))

-- a message more
pub found_message : (is_over : Bool) (held left read : List ℕ) (ended : Bool) (found : List Part) (m : Message)
    → is_over ≡ false → BeginsWith held m left → HasFound is_over held read ended found
    → HasFound is_over left read ended (found ++ whole m ∷ [])
found_message false held left read ended found m e b h = passes_more found read held left m h b
found_message true held left read ended found m e b h = cc e

-- no message
pub found_bad : (is_over : Bool) (held read : List ℕ) (ended : Bool) (found : List Part) → is_over ≡ false
    → NoneComes ended held → HasFound is_over held read ended found
    → HasFound true held read ended (found ++ unreadable ∷ [])
found_bad false held read ended found e none h = (found, refl, h, none)
found_bad true held read ended found e none h = cc e

pub found_come : (is_over : Bool) (held read : List ℕ) (ended : Bool) (found : List Part) → is_over ≡ false
    → AwaitsMessage held → HasFound is_over held read ended found → HaveCome read found
found_come false held read ended found e none h = have_come found read held h none
found_come true held read ended found e none h = cc e

-- all is found where the input has ended and nothing is held, or what is held is no message
abbrev IsAllFound : Bool → List ℕ → Bool → Type 0
IsAllFound false held ended = (held ≡ []) × (ended ≡ true)
IsAllFound true held ended = Unit {0}

unread_here : (ended : Bool) (held : List ℕ) → NoneComes ended held → IsUnreadable held
unread_here ended held none = subst IsUnreadable (append-nil held) (none [] (λ e. refl))

found_parts : (is_over : Bool) (held read : List ℕ) (ended : Bool) (found : List Part) → IsAllFound is_over held ended
    → HasFound is_over held read ended found → AreParts read found
found_parts false held read ended found (none, end) h =
    subst (AreParts read) (append-nil found) (parts_behind found read held [] h none)
found_parts true held read ended found all (before, is, h, none) =
    subst (AreParts read) (sym is)
    (parts_behind before read held (unreadable ∷ []) h (unread_here ended held none, refl))

no_message_last : (before : List Part) (stream rest : List ℕ) → Passes stream (before ++ unreadable ∷ []) rest → ⊥
no_message_last [] stream rest h = h
no_message_last (whole m ∷ before) stream rest (mid, begins, h) = no_message_last before mid rest h
no_message_last (unreadable ∷ before) stream rest h = h

pub found_ends : (is_over : Bool) (held read : List ℕ) (ended : Bool) (found : List Part) (ending : Ending)
    → EndsAt ending ended found → HasFound is_over held read ended found → EndsAt (ending_of is_over) ended found
found_ends false held read ended found Input ends h = ends
found_ends false held read ended found BadMessage (before, is) h =
    absurd (no_message_last before read held (subst (λ (ps : List Part). Passes read ps held) is h))
found_ends true held read ended found ending ends (before, is, h, none) = (before, is)

-- all is found
pub found_over : (is_over : Bool) (held read : List ℕ) (ended : Bool) (found : List Part)
    → IsAllFound is_over held ended → HasFound is_over held read ended found
    → AreParts read found × ((ending : Ending) × EndsAt ending ended found)
found_over false held read ended found all h =
    (found_parts false held read ended found all h, (Input, (all.1, all_whole found read held h)))
found_over true held read ended found all h = (found_parts true held read ended found all h, (BadMessage, (h.0, h.1)))

-- what is held is no message, and that was found
pub all_over : (is_over : Bool) (held : List ℕ) (ended : Bool) → is_over ≡ true → IsAllFound is_over held ended
all_over true held ended e = tt
all_over false held ended e = cc e

-- the input has ended, and nothing is held
pub all_ended : (is_over : Bool) (held : List ℕ) (ended : Bool) → is_over ≡ false → held ≡ [] → ended ≡ true
    → IsAllFound is_over held ended
all_ended false held ended e none end = (none, end)
all_ended true held ended e none end = absurd (true≢false e)

-- whatever comes, these parts are the first
pub found_first : (is_over : Bool) (held read : List ℕ) (ended : Bool) (found : List Part)
    → HasFound is_over held read ended found → AreFirst read ended found
found_first false held read ended found h = λ more end.
    let others = some_parts (held ++ more) in
    (others.0, parts_behind found (read ++ more) (held ++ more) others.0 (passes_on found read held more h) others.1)
found_first true held read ended found (before, is, h, none) = λ more end.
    let all : AreParts (read ++ more) (before ++ unreadable ∷ []) =
    parts_behind before (read ++ more) (held ++ more) (unreadable ∷ []) (passes_on before read held more h)
    (none more end, refl) in
    ([], subst (AreParts (read ++ more)) (sym is ∙ sym (append-nil found)) all)

-- ---- a piece more

-- the input has ended
pub taken_end : (is_over : Bool) (held read piece : List ℕ) (found : List Part) → piece ≡ []
    → HasFound is_over held read false found → HaveCome read found
    → (true ≡ is_end piece) × HasFound is_over held (read ++ piece) (is_end piece) found
    × AreFirst (read ++ piece) (is_end piece) found
taken_end is_over held read piece found none h come =
    let on : HasFound is_over held (read ++ []) true found =
    subst (λ (t : List ℕ). HasFound is_over t (read ++ []) true found) (append-nil held)
    (found_on is_over held read [] found h come true) in
    subst (λ (t : List ℕ).
    (true ≡ is_end t) × HasFound is_over held (read ++ t) (is_end t) found × AreFirst (read ++ t) (is_end t) found)
    (sym none)
    (refl, on, found_first is_over held (read ++ []) true found on)

pub taken_more : (is_over : Bool) (held new read piece : List ℕ) (ended : Bool) (found : List Part)
    → new ≡ held ++ piece → HasFound is_over held read false found → HaveCome read found
    → HasFound is_over new (read ++ piece) ended found × AreFirst (read ++ piece) ended found
taken_more is_over held new read piece ended found is h come =
    let on : HasFound is_over new (read ++ piece) ended found =
    subst (λ (t : List ℕ). HasFound is_over t (read ++ piece) ended found) (sym is)
    (found_on is_over held read piece found h come ended) in
    (on, found_first is_over new (read ++ piece) ended found on)

-- ---- nothing is read

pub none_yet : AwaitsMessage []
none_yet =
    awaits_head [] (λ head rest reads. let some = head_some [] rest head reads in omega (arith, some))
    (inl (print_request small_head ++ [], small_head, (is_small_head, refl))) (omega arith)

pub nothing_cut : (desk : DeskState) (r w : Option (List ℕ)) → EndsCut http ScriptFault.Memory desk desk (streams r r w w)
nothing_cut desk r w = record {
  read = [];
  written = [];
  questions = [];
  reads = Consumes-nil r;
  writes = Appends-nil w;
  are_questions = refl;
  cut = record {
    answered = [];
    left = [];
    kinds = [];
    answers = [];
    behind = snapshot desk;
    split = refl;
    are_answers = refl;
    almost = inl refl;
    told = λ e. refl;
    same = refl;
    going = λ e. refl;
    stopped = λ e. cc e;
    stops = λ going stopped honest. absurd (true≢false (sym stopped ∙ going));
  };
  settled = λ more end. some_parts more;
  come = λ e. cc e;
  prompt = record {
    before = [];
    piece = [];
    questions = [];
    kinds = [];
    answers = [];
    behind = snapshot desk;
    begun = [];
    read_is = refl;
    short = omega arith;
    come = none_yet;
    are_answers = refl;
    written_is = refl;
  };
}

-- memory is refused before anything is read
pub nothing_taken : (desk : DeskState) (r w : Option (List ℕ)) → EndsUntaken http desk desk (streams r r w w)
nothing_taken desk r w = record {
  before = [];
  piece = [];
  questions = [];
  kinds = [];
  answers = [];
  reads = Consumes-nil r;
  short = omega arith;
  first = λ e. refl;
  come = none_yet;
  are_answers = refl;
  writes = Appends-nil w;
}
