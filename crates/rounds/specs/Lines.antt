-- One connection of many: what has come on it, what was answered to that, and what of the answers is written.
use Rattle.std.specs.Prelude.{◌≡◌, ◌≢◌, ◌≤◌, Bool, false, true, ℕ, List, [], ◌∷◌, ◌++◌, Option, length, map}
use Rattle.desk.specs.declared.dialogue.Dialogue.{Ghosts as Dialogue}
use Rattle.desk.specs.Dialogue.{AnswerKind, Begins, Language, is_end, text_of}
use Rattle.rounds.specs.declared.stream.Stream.{Ghosts as Stream}
use Rattle.rounds.specs.declared.phase.Phase.{Phase}
use Rattle.rounds.specs.declared.phase.Phase.TheVariants.{Gone, Over, Wants}

-- A connection at its place, as contracts see it. Its dialogue has the type `S`, a question as the program holds it
-- the type `P`, and its stream the type `T`. The connections have numbers from 0, in the order in which they came.
-- Some questions are answered in this round, and their answers are hidden until they are kept; others wait for their
-- answers. The output is what is to be written.
pub record LineView (S P T : Type 0) : Type 0 where
  pub dialogue : S
  pub stream : T
  pub connection : ℕ
  pub phase : Phase
  pub asked : List P
  pub waiting : List P
  pub hidden : List ℕ
  pub output : List ℕ

-- What is known of a connection: the bytes that have come, whether the input has ended there, the questions in them that are
-- answered, the answers, and the bytes that are written.
pub record Heard (Q A : Type 0) : Type 0 where
  pub read : List ℕ
  pub has_ended : Bool
  pub questions : List Q
  pub answers : List A
  pub written : List ℕ

-- nothing has come yet
abbrev pub unheard : {Q A : Type 0} → Heard Q A
unheard = record { read = []; has_ended = false; questions = []; answers = []; written = [] }

-- a piece more has come; one without bytes is the end
abbrev pub with_piece : {Q A : Type 0} → Heard Q A → List ℕ → Heard Q A
with_piece h piece = record h { read = h.read ++ piece; has_ended = is_end piece }

-- these bytes more are written
abbrev pub with_written : {Q A : Type 0} → Heard Q A → List ℕ → Heard Q A
with_written h bytes = record h { written = h.written ++ bytes }

-- a question that came on a connection, and its answer, of that kind
pub record Said (Q A : Type 0) : Type 0 where
  pub connection : ℕ
  pub question : Q
  pub kind : AnswerKind
  pub answer : A

abbrev pub questions_of : {Q A : Type 0} → List (Said Q A) → List Q
questions_of said = map (λ s. s.question) said

abbrev pub answers_of : {Q A : Type 0} → List (Said Q A) → List A
answers_of said = map (λ s. s.answer) said

-- these questions more are answered
abbrev pub with_said : {Q A : Type 0} → Heard Q A → List (Said Q A) → Heard Q A
with_said h said = record h { questions = h.questions ++ questions_of said; answers = h.answers ++ answers_of said }

-- these questions, as the program holds them, are those of the language, one by one
abbrev pub Ask : {P Q : Type 0} → (P → Q → Type 0) → List P → List Q → Type 0
Ask asks [] [] = Unit {0}
Ask asks (p ∷ held) (q ∷ questions) = asks p q × Ask asks held questions
Ask asks _ _ = ⊥

-- A language; how its questions are found and held; and what is left to read of a stream, and was written to it.
pub record Speaks (S P T Q A : Type 0) : Type 1 where
  pub language : Language Q A
  pub has_found : S → List ℕ → Bool → List Q → Type 0
  pub asks : P → Q → Type 0
  pub remaining : T → Option (List ℕ)
  pub contents : T → Option (List ℕ)

-- how a kind of dialogue speaks over a kind of stream
abbrev pub speaks : {S P T : Type 0} → (d : Dialogue S P) → Stream T → Speaks S P T d.Asked d.Told
speaks d s = record {
  language = d.language;
  has_found = d.has_found;
  asks = d.asks;
  remaining = s.remaining;
  contents = s.contents;
}

-- What holds for a connection, whether it is still there or not: the answered questions are the first ones of what
-- has come, whatever comes behind that; and what is written is a beginning of the texts of their answers.
pub record IsTold {Q A : Type 0} (L : Language Q A) (h : Heard Q A) : Type 0 where
  pub first : (more : List ℕ) → (h.has_ended ≡ true → more ≡ []) → Begins L (h.read ++ more) h.questions
  pub unwritten : List ℕ
  pub text : text_of L h.answers ≡ h.written ++ unwritten

-- How a connection stands, where h is known of it and this was said in this round. The questions that were found are
-- those answered before, those answered now, and those that wait. What is written and the output are together the
-- texts of the answers; what is hidden is the texts of the answers given now. No question waits where more bytes are
-- wanted, or where the dialogue is over.
pub record IsHeard {S P T Q A : Type 0} (g : Speaks S P T Q A) (v : LineView S P T) (h : Heard Q A)
    (said : List (Said Q A)) : Type 0 where
  pub waiting : List Q
  pub are_asked : Ask g.asks v.asked (questions_of said)
  pub are_waiting : Ask g.asks v.waiting waiting
  pub found : g.has_found v.dialogue h.read h.has_ended ((h.questions ++ questions_of said) ++ waiting)
  pub text : text_of g.language h.answers ≡ h.written ++ v.output
  pub hidden : v.hidden ≡ text_of g.language (answers_of said)
  pub quiet : 1 ≤ length said → v.output ≡ []
  pub wants : v.phase ≡ Wants → (waiting ≡ []) × (h.has_ended ≡ false)
      × g.language.have_come h.read (h.questions ++ questions_of said)
  pub over : v.phase ≡ Over → (waiting ≡ []) × g.language.are_questions h.read (h.questions ++ questions_of said)
      × g.language.ends h.has_ended (h.questions ++ questions_of said)

-- the connection stands so, or memory was refused for it
abbrev pub Stands : {S P T Q A : Type 0} → Speaks S P T Q A → LineView S P T → Heard Q A → List (Said Q A) → Type 0
Stands g v h said = v.phase ≢ Gone → IsHeard g v h said
