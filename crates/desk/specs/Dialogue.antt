-- A dialogue with a desk: bytes come in, the questions in them are answered in their order, and each answer is written
-- before the next question is answered.
use Rattle.std.specs.Prelude.{◌≡◌, ◌≢◌, ◌⊎◌, ◌≤◌, ◌-◌, ◌^◌, Bool, IsTrue, false, true, ℕ, List, [], ◌∷◌, ◌++◌, Option}
use Rattle.std.specs.Prelude.{flat_map, length, min}
use Rattle.std.specs.Io.KnownBytes.{Appends, Consumes, IsAtEnd}
use Rattle.std.specs.List.{AllByRecursion as Each}
use Rattle.words.specs.declared.command.Request.{Request}
use Rattle.ledger.specs.Answers.{IsAccepted}
use Rattle.ledger.specs.Next.{accept}
use Rattle.desk.specs.Desk.{DeskState, LeavesEither, Snapshot, StopsCall, snapshot}
use Rattle.desk.specs.Streams.{Streams}
use Rattle.desk.specs.declared.answer.Answer.{Answer as Text}
use Rattle.desk.specs.declared.answer.Answer.TheVariants.{Fixed, Made}
use Rattle.desk.specs.declared.fault.CallFault.{CallFault}
use Rattle.desk.specs.declared.fault.ScriptFault.{ScriptFault}

-- ---- what is spoken

-- Where an answer comes from: from the ledger, as the language says; from memory that was refused for it; or from a
-- desk that its request has stopped.
pub data AnswerKind : Type 0 where
  ordinary : AnswerKind
  no_memory : AnswerKind
  stopping : AnswerKind

-- A language in which a desk is asked.
pub record Language (Question Answer : Type 0) : Type 1 where
  -- the questions of an input
  pub are_questions : List ℕ → List Question → Type 0
  -- the questions that have come whole in the beginning of an input
  pub have_come : List ℕ → List Question → Type 0
  -- whether the dialogue may end behind these questions, where the input has ended or has not
  pub ends : Bool → List Question → Type 0
  -- the answer to a question, of this kind, and the desk behind it
  pub answers : Snapshot → Question → AnswerKind → Answer → Snapshot → Type 0
  -- the question is this request
  pub calls : Question → Request → Type 0
  -- the bytes of an answer
  pub text : Answer → List ℕ

-- the bytes of answers, one behind the other
abbrev pub text_of : {Q A : Type 0} → Language Q A → List A → List ℕ
text_of L answers = flat_map L.text answers

-- The answers to questions in their order, each of its kind, and the desk behind them.
abbrev pub AreAnswers : {Q A : Type 0} → Language Q A → Snapshot → List Q → List AnswerKind → List A → Snapshot → Type 0
AreAnswers L old [] [] [] new = new ≡ old
AreAnswers L old (question ∷ questions) (kind ∷ kinds) (answer ∷ answers) new =
    (mid : Snapshot) × L.answers old question kind answer mid × AreAnswers L mid questions kinds answers new
AreAnswers L old _ _ _ new = ⊥

-- What is answered to an input by answers of these kinds: the bytes that are written, and the desk behind them.
pub record IsTranscript {Q A : Type 0} (L : Language Q A) (old : Snapshot) (input : List ℕ) (kinds : List AnswerKind)
    (out : List ℕ) (new : Snapshot) : Type 0 where
  pub questions : List Q
  pub answers : List A
  pub are_questions : L.are_questions input questions
  pub are_answers : AreAnswers L old questions kinds answers new
  pub out_is : out ≡ text_of L answers

-- A part of the input was read, and what was written is a beginning of what is answered to that part, by answers of
-- these kinds.
pub record BeginsTranscript {Q A : Type 0} (L : Language Q A) (old : Snapshot) (s : Streams) : Type 0 where
  pub read : List ℕ
  pub written : List ℕ
  pub kinds : List AnswerKind
  pub unwritten : List ℕ
  pub last : Snapshot
  pub reads : Consumes s.reader_old s.reader_new read
  pub writes : Appends s.writer_old s.writer_new written
  pub transcript : IsTranscript L old read kinds (written ++ unwritten) last

-- ---- what is read

-- the first questions of an input
abbrev pub Begins : {Q A : Type 0} → Language Q A → List ℕ → List Q → Type 0
Begins {Q} L input questions = (others : List Q) × L.are_questions input (questions ++ others)

-- What was read settles these questions: whatever is left of the input, these are its first questions. Where the
-- reader is at its end, nothing is left.
abbrev pub SettlesQuestions : {Q A : Type 0} → Language Q A → List ℕ → Option (List ℕ) → List Q → Type 0
SettlesQuestions L read reader questions = (more : List ℕ) → (IsAtEnd reader → more ≡ []) → Begins L (read ++ more) questions

-- ---- a stop

-- The request is the question that stopped the desk: the first question whose answer is of the kind `stopping`, or
-- else the first that has no answer.
abbrev pub IsStoppedBy : {Q A : Type 0} → Language Q A → List Q → List AnswerKind → Request → Type 0
IsStoppedBy L (question ∷ questions) (stopping ∷ kinds) request = L.calls question request
IsStoppedBy L (question ∷ questions) (ordinary ∷ kinds) request = IsStoppedBy L questions kinds request
IsStoppedBy L (question ∷ questions) (no_memory ∷ kinds) request = IsStoppedBy L questions kinds request
IsStoppedBy L (question ∷ questions) [] request = L.calls question request
IsStoppedBy L [] kinds request = ⊥

-- a stop leaves the ledger's rows, or those after the request that stopped the desk, which is accepted
pub record StopsDesk {Q A : Type 0} (L : Language Q A) (desk : DeskState) (questions : List Q) (kinds : List AnswerKind)
    : Type 0 where
  pub request : Request
  pub first : IsStoppedBy L questions kinds request
  pub accepted : IsAccepted desk.ledger request
  pub either : LeavesEither desk.leaves desk.ledger (accept desk.ledger request)

-- ---- whole

-- All that was read is answered, and the answers are written whole. Where they stopped the desk and the disk is
-- honest, `stops` says what a stop leaves.
pub record EndsWhole {Q A : Type 0} (L : Language Q A) (old new : DeskState) (s : Streams) : Type 0 where
  pub read : List ℕ
  pub questions : List Q
  pub kinds : List AnswerKind
  pub answers : List A
  pub has_ended : Bool
  pub reads : Consumes s.reader_old s.reader_new read
  pub at_end : has_ended ≡ true → IsAtEnd s.reader_new
  pub are_questions : L.are_questions read questions
  pub ends : L.ends has_ended questions
  pub settled : SettlesQuestions L read s.reader_new questions
  pub are_answers : AreAnswers L (snapshot old) questions kinds answers (snapshot new)
  pub writes : Appends s.writer_old s.writer_new (text_of L answers)
  pub stops : old.is_stopped ≡ false → new.is_stopped ≡ true → new.is_honest → StopsDesk L new questions kinds

-- ---- cut

-- the answers are written, except for a rest of the last one
pub record LacksRest {Q A : Type 0} (L : Language Q A) (answers : List A) (written : List ℕ) : Type 0 where
  pub before : List A
  pub last : A
  pub begun : List ℕ
  pub left : List ℕ
  pub split : answers ≡ before ++ last ∷ []
  pub cut : L.text last ≡ begun ++ left
  pub written_are : written ≡ text_of L before ++ begun

-- of the answers at most the last is missing or cut
abbrev pub AlmostWritten : {Q A : Type 0} → Language Q A → List A → List ℕ → Type 0
AlmostWritten L answers written = (written ≡ text_of L answers) ⊎ LacksRest L answers written

-- the next question is a request
abbrev pub IsRequestNext : {Q A : Type 0} → Language Q A → List Q → Type 0
IsRequestNext {Q} L questions =
    (question : Q) × (more : List Q) × (request : Request) × (questions ≡ question ∷ more) × L.calls question request

-- How far the answers to questions have come at a fault. Unless a write failed, all answers are written whole. The
-- fault is `Stopped` only where the desk is stopped and the next question is a request, which is not answered. Where
-- these questions stopped the desk and the disk is honest, `stops` says what a stop leaves.
pub record IsCut {Q A : Type 0} (L : Language Q A) (fault : ScriptFault) (old : DeskState) (questions : List Q)
    (written : List ℕ) (new : DeskState) : Type 0 where
  pub answered : List Q
  pub left : List Q
  pub kinds : List AnswerKind
  pub answers : List A
  pub behind : Snapshot
  pub split : questions ≡ answered ++ left
  pub are_answers : AreAnswers L (snapshot old) answered kinds answers behind
  pub almost : AlmostWritten L answers written
  pub told : fault ≢ ScriptFault.Write → written ≡ text_of L answers
  pub same : new.ledger ≡ behind.ledger
  pub going : fault ≢ ScriptFault.Stopped → new.is_stopped ≡ behind.is_stopped
  pub stopped : fault ≡ ScriptFault.Stopped → IsTrue new.is_stopped × IsRequestNext L left
  pub stops : old.is_stopped ≡ false → new.is_stopped ≡ true → new.is_honest → StopsDesk L new questions kinds

-- how many bytes a piece of the input has, at the most
abbrev pub longest_piece : ℕ
longest_piece = 512

-- all that was read but a last piece is answered, and the answers are written whole
pub record IsPrompt {Q A : Type 0} (L : Language Q A) (old : Snapshot) (read written : List ℕ) : Type 0 where
  pub before : List ℕ
  pub piece : List ℕ
  pub questions : List Q
  pub kinds : List AnswerKind
  pub answers : List A
  pub behind : Snapshot
  pub begun : List ℕ
  pub read_is : read ≡ before ++ piece
  pub short : length piece ≤ longest_piece
  pub come : L.have_come before questions
  pub are_answers : AreAnswers L old questions kinds answers behind
  pub written_is : written ≡ text_of L answers ++ begun

-- A part of the input was read, and its first questions are answered; where a read failed, all questions that have
-- come whole are.
pub record EndsCut {Q A : Type 0} (L : Language Q A) (fault : ScriptFault) (old new : DeskState) (s : Streams)
    : Type 0 where
  pub read : List ℕ
  pub written : List ℕ
  pub questions : List Q
  pub reads : Consumes s.reader_old s.reader_new read
  pub writes : Appends s.writer_old s.writer_new written
  pub are_questions : L.are_questions read questions
  pub cut : IsCut L fault old questions written new
  pub settled : SettlesQuestions L read s.reader_new cut.answered
  pub come : fault ≡ ScriptFault.Read → L.have_come read cut.answered
  pub prompt : IsPrompt L (snapshot old) read written

-- Memory was refused before anything was read, or for the last piece. The questions that had come whole before that
-- piece are answered, and the answers are written whole; nothing of the piece is answered.
pub record EndsUntaken {Q A : Type 0} (L : Language Q A) (old new : DeskState) (s : Streams) : Type 0 where
  pub before : List ℕ
  pub piece : List ℕ
  pub questions : List Q
  pub kinds : List AnswerKind
  pub answers : List A
  pub reads : Consumes s.reader_old s.reader_new (before ++ piece)
  pub short : length piece ≤ longest_piece
  pub first : piece ≡ [] → before ≡ []
  pub come : L.have_come before questions
  pub are_answers : AreAnswers L (snapshot old) questions kinds answers (snapshot new)
  pub writes : Appends s.writer_old s.writer_new (text_of L answers)

-- the count, or the greatest that 64 bits hold
abbrev pub most : ℕ → ℕ
most count = min count (2 ^ 64 - 1)

-- ---- one question

-- the bytes of an answer that can be sent
abbrev pub bytes_of : Text → List ℕ
bytes_of (Fixed text) = text.now
bytes_of (Made text) = text.items

-- The answer to one question. Where this stopped the desk and the disk is honest, `stops` says what a stop leaves.
pub record AnswersOne {Q A : Type 0} (L : Language Q A) (old : DeskState) (question : Q) (text : List ℕ)
    (new : DeskState) : Type 0 where
  pub kind : AnswerKind
  pub answer : A
  pub is_answer : L.answers (snapshot old) question kind answer (snapshot new)
  pub text_is : text ≡ L.text answer
  pub halts : kind ≡ stopping → new.is_stopped ≡ true
  pub stops : old.is_stopped ≡ false → new.is_stopped ≡ true → new.is_honest
      → (request : Request) × (kind ≡ stopping) × L.calls question request × IsAccepted new.ledger request
      × LeavesEither new.leaves new.ledger (accept new.ledger request)

-- The question was not answered. For want of memory: nothing has changed, and it was no request to a stopped desk.
-- Since the desk is stopped: it is a request, and the desk was stopped by it or before.
abbrev pub FailsOne : {Q A : Type 0} → Language Q A → CallFault → DeskState → Q → DeskState → Type 0
FailsOne L CallFault.Memory old question new = (new.ledger ≡ old.ledger) × (new.is_stopped ≡ old.is_stopped)
    × (IsTrue old.is_stopped → (request : Request) → ¬ L.calls question request)
FailsOne L CallFault.Stopped old question new = (request : Request) × L.calls question request
    × (new.ledger ≡ old.ledger) × IsTrue new.is_stopped × (old.is_stopped ≡ false → StopsCall request old new)

-- ---- so far (private)

-- whether a piece is the end of the input
abbrev pub is_end : List ℕ → Bool
is_end [] = true
is_end (byte ∷ bytes) = false

abbrev pub IsNoStop : AnswerKind → Type 0
IsNoStop ordinary = Unit {0}
IsNoStop no_memory = Unit {0}
IsNoStop stopping = ⊥

-- these questions are answered, and the answers written whole
pub record Answered {Q A : Type 0} (L : Language Q A) (old : DeskState) (questions : List Q) (new : DeskState)
    (writer_old writer_new : Option (List ℕ)) : Type 0 where
  pub kinds : List AnswerKind
  pub answers : List A
  pub are_answers : AreAnswers L (snapshot old) questions kinds answers (snapshot new)
  pub writes : Appends writer_old writer_new (text_of L answers)
  pub none_stopped : new.is_stopped ≡ false → Each IsNoStop kinds
  pub stops : old.is_stopped ≡ false → new.is_stopped ≡ true → new.is_honest → StopsDesk L new questions kinds
