-- How a part of a stream is found and answered (private: how a connection is served).
use Rattle.std.specs.Prelude.{◌≡◌, Bool, false, true, ℕ, List, [], ◌∷◌, ◌++◌, length, suc}
use Rattle.words.specs.declared.command.Request.{Request}
use Rattle.ledger.specs.Ledger.{Ledger}
use Rattle.desk.specs.Desk.{DeskState, Snapshot}
use Rattle.desk.specs.Dialogue.{AnswersOne, Begins, bytes_of}
use Rattle.desk.specs.declared.answer.Answer.{Answer as Text}
use Rattle.web.specs.Answers.{Answer, answer_bytes}
use Rattle.web.specs.Asks.{AsksFor}
use Rattle.web.specs.Messages.{BeginsWith, IsUnreadable, Message, Part, unreadable, whole}
use Rattle.web.specs.Replies.{AnswersView}
use Rattle.web.specs.Web.{RepliesAt, http}
use Rattle.web.specs.declared.ask.Ask.{Ask}
use Rattle.web.specs.declared.ask.Ask.TheVariants as ask
use Rattle.web.specs.declared.served.Ending.{Ending}
use Rattle.web.specs.declared.served.Ending.TheVariants.{BadMessage, Input}
use Rattle.web.specs.declared.connection.Asked.{Asked}
use Rattle.web.specs.declared.connection.Asked.TheVariants as asked

-- ---- answers

-- what is to be written to a message that calls no request, by the ledger
abbrev pub ShowsView : Ledger → Ask → Text → Type 0
ShowsView A a text = (answer : Answer) × AnswersView A a answer × (bytes_of text ≡ answer_bytes answer)

-- the same, by how the desk stands
abbrev pub Shows : Snapshot → Ask → Text → Type 0
Shows at a text = (answer : Answer) × RepliesAt at a answer at × (bytes_of text ≡ answer_bytes answer)

-- the ask calls no request
abbrev pub IsNoCall : Ask → Type 0
IsNoCall a = (r : Request) → a ≡ ask.Call r → ⊥

-- what is to be written to a message that asks for this
abbrev pub IsAnswered : DeskState → Ask → Text → DeskState → Type 0
IsAnswered old a text new = (m : Message) → AsksFor m a → AnswersOne http old (whole m) (bytes_of text) new

-- ---- parts that are found

-- the part is read as this, where memory was not refused for it
abbrev pub IsAsked : Asked → Part → Type 0
IsAsked (asked.Message a) (whole m) = AsksFor m a
IsAsked (asked.Message a) unreadable = ⊥
IsAsked asked.NoMemory (whole m) = Unit {0}
IsAsked asked.NoMemory unreadable = ⊥
IsAsked asked.Unreadable (whole m) = ⊥
IsAsked asked.Unreadable unreadable = Unit {0}

-- the stream begins with these messages, and the rest stands behind them
abbrev pub Passes : List ℕ → List Part → List ℕ → Type 0
Passes stream [] rest = stream ≡ rest
Passes stream (whole m ∷ parts) rest = (mid : List ℕ) × BeginsWith stream m mid × Passes mid parts rest
Passes stream (unreadable ∷ parts) rest = ⊥

-- whatever comes, no message stands at the front of what is held
abbrev pub NoneComes : Bool → List ℕ → Type 0
NoneComes has_ended held = (more : List ℕ) → (has_ended ≡ true → more ≡ []) → IsUnreadable (held ++ more)

-- these parts were found in what was read, and this is held behind the messages
abbrev pub HasFound : (is_over : Bool) → (held read : List ℕ) → (has_ended : Bool) → List Part → Type 0
HasFound false held read has_ended parts = Passes read parts held
HasFound true held read has_ended parts =
    (before : List Part) × (parts ≡ before ++ unreadable ∷ []) × Passes read before held × NoneComes has_ended held

-- whatever comes, the first parts are these
abbrev pub AreFirst : (read : List ℕ) → (has_ended : Bool) → List Part → Type 0
AreFirst read has_ended parts = (more : List ℕ) → (has_ended ≡ true → more ≡ []) → Begins http (read ++ more) parts

-- how many more parts can be found, at the most
abbrev pub left_to_find : (is_over : Bool) → (held : List ℕ) → ℕ
left_to_find false held = suc (length held)
left_to_find true held = 0

abbrev pub ending_of : (is_over : Bool) → Ending
ending_of false = Input
ending_of true = BadMessage
