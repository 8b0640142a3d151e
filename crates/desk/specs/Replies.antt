-- The lines of replies.
use Rattle.std.specs.Prelude.{◌≡◌, ℕ, List, [], ◌∷◌, ◌++◌, MatchOption, codes, decimal}
use Rattle.words.specs.OpenLines.{way_word}
use Rattle.words.specs.Replies.{reply_text}
use Rattle.words.specs.Words.{after_space}
use Rattle.words.specs.declared.reply.Reply.{Reply}
use Rattle.words.specs.declared.reply.Reply.TheVariants.{Done, Refused}
use Rattle.ledger.specs.Ledger.{Field, Ledger, Order, field_named, order_numbered, name_of, shown_state}
use Rattle.book.specs.Views.{ShowsField}
use Rattle.book.specs.declared.book.views.FieldView.{FieldView}
use Rattle.ledger.specs.declared.order.Kind.{Kind}
use Rattle.ledger.specs.declared.order.Kind.TheVariants.{Plain, Transfer}
use Rattle.ledger.specs.declared.order.Line.{Line}
use Rattle.ledger.specs.declared.order.Standing.{Standing}
use Rattle.ledger.specs.declared.order.Standing.TheVariants.{Aborted, Committed, Firm, Open}

-- the reply line to a bad line
abbrev pub bad_line : List ℕ
bad_line = codes "- refused 20 BadCommand 0\n"

-- the reply line to a request: its key, a space and the reply
abbrev pub request_line : List ℕ → Reply → List ℕ
request_line key reply = key ++ (codes " " ++ (reply_text reply ++ codes "\n"))

-- the number in a reply: the place of a command that is done, or the line at fault
abbrev pub number_of : Reply → ℕ
number_of (Done place) = place
number_of (Refused refusal line) = line

-- the answer to a question for what is not there
abbrev pub none_line : List ℕ
none_line = codes "? none\n"

-- ---- fields

-- the numbers of a field, each behind its name
abbrev pub number_words : FieldView → List (List ℕ)
number_words v = codes "lo" ∷ decimal v.lo ∷ codes "hi" ∷ decimal v.hi ∷ codes "value" ∷ decimal v.value
    ∷ codes "inf" ∷ decimal v.inf ∷ codes "sup" ∷ decimal v.sup ∷ []

abbrev pub field_line : FieldView → List ℕ
field_line v = codes "? field" ++ (after_space (v.branch ∷ v.article ∷ number_words v) ++ codes "\n")

-- the line of a field, with its settled value, its infimum and its supremum
abbrev pub AnswersField : Ledger → Field → List ℕ → Type 0
AnswersField A f line = (view : FieldView) × ShowsField A f view × (line ≡ field_line view)

-- the answer to a question for a field
abbrev pub AnswersFieldAsk : Ledger → List ℕ → List ℕ → List ℕ → Type 0
AnswersFieldAsk A b a line = MatchOption (field_named A (name_of b a)) (line ≡ none_line) (λ f. AnswersField A f line)

-- ---- orders

abbrev pub kind_word : Kind → List ℕ
kind_word Plain = codes "plain"
kind_word Transfer = codes "transfer"

abbrev pub state_word : Standing → List ℕ
state_word Open = codes "open"
state_word Firm = codes "firm"
state_word Committed = codes "committed"
state_word Aborted = codes "aborted"

-- the words of an order's lines: five for each
abbrev pub held_words : List Line → List (List ℕ)
held_words [] = []
held_words (l ∷ ls) = way_word l.way ∷ l.branch ∷ l.article ∷ decimal l.held ∷ decimal l.used ∷ held_words ls

-- the line of an order that is shown with these
abbrev pub shown_line : ℕ → Kind → ℕ → Standing → List Line → List ℕ
shown_line number kind until state lines = codes "? order"
    ++ (after_space (decimal number ∷ kind_word kind ∷ decimal until ∷ state_word state ∷ held_words lines)
    ++ codes "\n")

abbrev pub order_line : Order → List ℕ
order_line o = shown_line o.number o.kind o.until (shown_state o.state o.firm) o.lines

-- the answer to a question for an order
abbrev pub AnswersOrderAsk : Ledger → ℕ → List ℕ → Type 0
AnswersOrderAsk A n line = MatchOption (order_numbered A n) (line ≡ none_line) (λ o. line ≡ order_line o)
