-- What is to be written for a view.
use Rattle.std.proofs.Common.{◌≡◌, ◌++◌, ℕ, Contains, List, [], Option, Some, None, IsSomeAnd, MatchOption, ap, false}
use Rattle.std.proofs.Common.{refl, subst, sym}
use Rattle.std.proofs.lemmas.List.Elements.{All-contains, All-from_recursion}
use Rattle.std.specs.Str.{IsUtf8, bytes_eq}
use Rattle.serde_json.specs.Data.{Data}
use Rattle.book.proofs.ShownNumbers.{Contains-of_find}
use Rattle.book.proofs.Texts.{spelling_utf8}
use Rattle.ledger.specs.Good.{Good, IsGoodKept}
use Rattle.ledger.specs.Ledger.{Field, Kept, Ledger, field_named, kept_under, name_of}
use Rattle.book.specs.Views.{ShowsField, ShowsKept}
use Rattle.book.specs.declared.book.views.FieldView.{FieldView}
use Rattle.book.specs.declared.book.views.KeptView.{KeptView}
use Rattle.desk.specs.Desk.{Snapshot}
use Rattle.desk.specs.declared.answer.Answer.{Answer as Text}
use Rattle.web.specs.Answers.{Answer, answer_bytes, json_answer, none_answer, stopped_answer, text_answer}
use Rattle.web.specs.Objects.{field_object, kept_object, placed_object}
use Rattle.web.specs.Replies.{AnswersAsk, AnswersView, TellsField, TellsFound, TellsText, reply_of_stopped}
use Rattle.web.specs.Turns.{Shows, ShowsView}
use Rattle.web.specs.declared.ask.Ask.{Ask}
use Rattle.web.specs.declared.ask.Ask.TheVariants as ask
use Rattle.web.proofs.CommandAnswers.{replies_going}

-- ---- of a desk, stopped or not

view_replies : (A : Ledger) (a : Ask) (answer : Answer) → AnswersView A a answer → AnswersAsk A a answer A
view_replies A (ask.Call r) answer h = absurd h
view_replies A a answer h = (h, refl)

pub going_shown : (at : Snapshot) (B : Ledger) (a : Ask) (text : Text) → at.is_stopped ≡ false → B ≡ at.ledger
    → ShowsView B a text → Shows at a text
going_shown at B a text e same h =
    let (answer, told, bytes) = subst (λ (A : Ledger). ShowsView A a text) same h in
    (answer, replies_going at at a answer e e (view_replies at.ledger a answer told), bytes)

-- what it answers that is neither a wrong command nor nothing
pub stopped_else : (a : Ask) → (a ≡ ask.BadCall → ⊥) → (a ≡ ask.Nothing → ⊥) → stopped_answer ≡ reply_of_stopped a
stopped_else ask.BadCall bad none = absurd (bad refl)
stopped_else ask.Nothing bad none = absurd (none refl)
stopped_else a bad none = refl

-- ---- of a ledger

pub no_field : (A : Ledger) (b a : List ℕ) → field_named A (name_of b a) ≡ None → AnswersView A (ask.Field b a) none_answer
no_field A b a e =
    subst (λ (found : Option Field). MatchOption found (none_answer ≡ none_answer) (λ f. TellsField A f none_answer))
    (sym e) refl

pub some_field : (A : Ledger) (b a : List ℕ) (view : FieldView)
    → IsSomeAnd (field_named A (name_of b a)) (λ f. ShowsField A f view)
    → AnswersView A (ask.Field b a) (json_answer 200 (field_object view))
some_field A b a view h = by (field_named A (name_of b a)) h
  where
    by : (found : Option Field) → IsSomeAnd found (λ f. ShowsField A f view)
        → MatchOption found (json_answer 200 (field_object view) ≡ none_answer)
        (λ f. TellsField A f (json_answer 200 (field_object view)))
    by None h = absurd h
    by (Some f) h = (view, h, refl)

pub no_found : {X : Type 0} (object : X → Data) (found : Option X) → found ≡ None → TellsFound object found none_answer
no_found object found e = subst (λ o. TellsFound object o none_answer) (sym e) refl

-- what is found, of which this is shown
pub some_found : {X : Type 0} (object : X → Data) (IsShown : X → Type 0) (found : Option X) (bytes : List ℕ)
    → IsSomeAnd found IsShown
    → ((x : X) → IsShown x → bytes ≡ answer_bytes (json_answer 200 (object x)))
    → (answer : Answer) × TellsFound object found answer × (bytes ≡ answer_bytes answer)
some_found object IsShown None bytes shown made = absurd shown
some_found object IsShown (Some x) bytes shown made = (json_answer 200 (object x), refl, made x shown)

-- a text, as it was written
pub some_text : (IsText : List ℕ → Type 0) (text written bytes : List ℕ) → IsText text → written ≡ [] ++ text
    → bytes ≡ answer_bytes (text_answer written)
    → (answer : Answer) × TellsText IsText answer × (bytes ≡ answer_bytes answer)
some_text IsText text written bytes is all k = (text_answer written, (text, is, ap text_answer all), k)

pub kept_shown : (k : Kept) (view : KeptView) → ShowsKept k view
    → answer_bytes (json_answer 200 (placed_object view.words.now view.place)) ≡ answer_bytes (json_answer 200 (kept_object k))
kept_shown k view h = λ i. answer_bytes (json_answer 200 (placed_object (h.words i) (h.place i)))

-- what is kept is in UTF-8
pub kept_text : (A : Ledger) (key : List ℕ) (view : KeptView) → Good A
    → IsSomeAnd (kept_under A key) (λ k. ShowsKept k view) → IsUtf8 view.words.now
kept_text A key view good h = by (kept_under A key) refl h
  where
    by : (found : Option Kept) → kept_under A key ≡ found → IsSomeAnd found (λ k. ShowsKept k view) → IsUtf8 view.words.now
    by None e h = absurd h
    by (Some k) e h =
        let there : Contains A.kept k = Contains-of_find (λ k. bytes_eq k.key key) A.kept k e in
        let is : IsGoodKept k = All-contains IsGoodKept A.kept k (All-from_recursion IsGoodKept A.kept good.kept) there in
        subst IsUtf8 (sym h.words) (spelling_utf8 k.command is.command)
