-- What is answered to what a message asks for.
use Rattle.std.specs.Prelude.{◌≡◌, ℕ, List, MatchOption, Option}
use Rattle.serde_json.specs.Data.{Data}
use Rattle.words.specs.declared.reply.Reply.{Reply}
use Rattle.ledger.specs.Answers.{Answers}
use Rattle.ledger.specs.Ledger.{Field, Ledger, field_named, kept_under, name_of, order_numbered}
use Rattle.book.specs.Views.{ShowsField}
use Rattle.book.specs.declared.book.views.FieldView.{FieldView}
use Rattle.files.specs.Sheets.{IsArticleSheet, IsBranchSheet}
use Rattle.web.specs.Answers.{Answer, bad_answer, json_answer, none_answer, reply_answer, stopped_answer, text_answer}
use Rattle.web.specs.Branches.{AreBranches}
use Rattle.web.specs.Orders.{due, open_above}
use Rattle.web.specs.declared.ask.Ask.{Ask}
use Rattle.web.specs.declared.ask.Ask.TheVariants as ask
use Rattle.web.specs.Objects.{branches_object, desk_object, field_object, kept_object, order_object, orders_object}

-- the object of what is found, or that nothing is there
abbrev pub TellsFound : {X : Type 0} → (X → Data) → Option X → Answer → Type 0
TellsFound object found answer = MatchOption found (answer ≡ none_answer) (λ x. answer ≡ json_answer 200 (object x))

-- the answer shows the field's object
abbrev pub TellsField : Ledger → Field → Answer → Type 0
TellsField A f answer = (view : FieldView) × ShowsField A f view × (answer ≡ json_answer 200 (field_object view))

-- the answer shows the branches that have a field, each once
abbrev pub TellsBranches : Ledger → Answer → Type 0
TellsBranches A answer =
    (branches : List (List ℕ)) × AreBranches A.fields branches × (answer ≡ json_answer 200 (branches_object branches))

-- the answer is a text with this property
abbrev pub TellsText : (List ℕ → Type 0) → Answer → Type 0
TellsText IsText answer = (text : List ℕ) × IsText text × (answer ≡ text_answer text)

-- the answer to a message that calls no request: what the ledger shows
abbrev pub AnswersView : Ledger → Ask → Answer → Type 0
AnswersView A ask.Desk answer = answer ≡ json_answer 200 (desk_object A)
AnswersView A ask.Branches answer = TellsBranches A answer
AnswersView A (ask.Field branch article) answer =
    MatchOption (field_named A (name_of branch article)) (answer ≡ none_answer) (λ f. TellsField A f answer)
AnswersView A (ask.Order number) answer = TellsFound order_object (order_numbered A number) answer
AnswersView A (ask.Sheet branch) answer = TellsText (IsBranchSheet A branch) answer
AnswersView A (ask.Article article) answer = TellsText (IsArticleSheet A article) answer
AnswersView A (ask.Kept key) answer = TellsFound kept_object (kept_under A key) answer
AnswersView A (ask.Open floor) answer = answer ≡ json_answer 200 (orders_object (open_above A floor))
AnswersView A (ask.Due moment) answer = answer ≡ json_answer 200 (orders_object (due A moment))
AnswersView A ask.BadCall answer = answer ≡ bad_answer
AnswersView A ask.Nothing answer = answer ≡ none_answer
AnswersView A (ask.Call request) answer = ⊥

-- The answer of a desk that is not stopped to what a message asks for at a ledger, and the ledger after it.
abbrev pub AnswersAsk : Ledger → Ask → Answer → Ledger → Type 0
AnswersAsk A (ask.Call request) answer B = (reply : Reply) × Answers A request reply B × (answer ≡ reply_answer reply)
AnswersAsk A ask answer B = AnswersView A ask answer × (B ≡ A)

-- the answer of a desk that is stopped
abbrev pub reply_of_stopped : Ask → Answer
reply_of_stopped ask.BadCall = bad_answer
reply_of_stopped ask.Nothing = none_answer
reply_of_stopped ask = stopped_answer
