-- A part has one answer under its kind.
use Rattle.std.proofs.Common.{◌≡◌, ◌∙◌, Bool, true, false, ℕ, List, [], ◌∷◌, Option, Some, None, MatchOption, MatchBool}
use Rattle.std.proofs.Common.{ap, refl, subst, sym}
use Rattle.std.specs.Str.{bytes_eq}
use Rattle.serde_json.specs.Data.{Data}
use Rattle.ledger.proofs.Runs.{answered_once}
use Rattle.ledger.specs.Ledger.{Field, Ledger, Name, field_named, kept_under, name_of, order_numbered}
use Rattle.book.specs.declared.book.views.FieldView.{FieldView}
use Rattle.desk.specs.Desk.{Snapshot}
use Rattle.desk.specs.Dialogue.{AnswerKind, AreAnswers, IsTranscript, no_memory, ordinary, stopping, text_of}
use Rattle.web.specs.Web.{AnswersPart, RepliesAt, http}
use Rattle.web.specs.Answers.{Answer, json_answer, none_answer, reply_answer, text_answer}
use Rattle.web.specs.declared.ask.Ask.{Ask}
use Rattle.web.specs.declared.ask.Ask.TheVariants as ask
use Rattle.web.specs.Messages.{Part, unreadable, whole}
use Rattle.web.specs.Objects.{branches_object, field_object, kept_object, order_object}
use Rattle.web.specs.Replies.{AnswersAsk, AnswersView, TellsBranches, TellsField, TellsFound, TellsText, reply_of_stopped}
use Rattle.files.specs.Sheets.{IsSheet}
use Rattle.files.proofs.OneSheet.{one_sheet, view_one}
use Rattle.web.proofs.FieldBranches.{one_list}
use Rattle.web.proofs.OneAsk.{asks_one}
use Rattle.web.proofs.OneStream.{parts_one}

field_one : (A : Ledger) (found : Option Field) (x y : Answer)
    → MatchOption found (x ≡ none_answer) (λ f. TellsField A f x)
    → MatchOption found (y ≡ none_answer) (λ f. TellsField A f y) → x ≡ y
field_one A None x y h k = h ∙ sym k
field_one A (Some f) x y (v, shows, e) (w, also, g) =
    e ∙ ap (λ (view : FieldView). json_answer 200 (field_object view)) (view_one A f v w shows also) ∙ sym g

found_one : {X : Type 0} (object : X → Data) (found : Option X) (x y : Answer) → TellsFound object found x
    → TellsFound object found y → x ≡ y
found_one object None x y h k = h ∙ sym k
found_one object (Some z) x y h k = h ∙ sym k

branches_one : (A : Ledger) (x y : Answer) → TellsBranches A x → TellsBranches A y → x ≡ y
branches_one A x y (branches, are, e) (others, also, f) =
    e ∙ ap (λ (bs : List (List ℕ)). json_answer 200 (branches_object bs)) (one_list A.fields branches others are also) ∙ sym f

sheet_one : (is_shown : Name → Bool) (title : FieldView → List ℕ) (A : Ledger) (x y : Answer)
    → TellsText (IsSheet is_shown title A) x → TellsText (IsSheet is_shown title A) y → x ≡ y
sheet_one is_shown title A x y (text, sheet, e) (other, also, f) =
    e ∙ ap text_answer (one_sheet is_shown title A text other sheet also) ∙ sym f

view_answered_once : (A : Ledger) (ask : Ask) (x y : Answer) → AnswersView A ask x → AnswersView A ask y → x ≡ y
view_answered_once A ask.Branches x y h k = branches_one A x y h k
view_answered_once A (ask.Field b a) x y h k = field_one A (field_named A (name_of b a)) x y h k
view_answered_once A (ask.Order n) x y h k = found_one order_object (order_numbered A n) x y h k
view_answered_once A (ask.Sheet b) x y h k = sheet_one (λ f. bytes_eq f.branch b) (λ v. v.article) A x y h k
view_answered_once A (ask.Article a) x y h k = sheet_one (λ f. bytes_eq f.article a) (λ v. v.branch) A x y h k
view_answered_once A (ask.Kept key) x y h k = found_one kept_object (kept_under A key) x y h k
view_answered_once A (ask.Call r) x y h k = absurd h
view_answered_once A ask x y h k = h ∙ sym k

reply_one : (A : Ledger) (ask : Ask) (x y : Answer) (B C : Ledger) → AnswersAsk A ask x B → AnswersAsk A ask y C
    → (x ≡ y) × (B ≡ C)
reply_one A (ask.Call r) x y B C h k =
    let same = answered_once A r h.0 k.0 B C h.1 k.1 in (h.2 ∙ ap reply_answer same.0 ∙ sym k.2, same.1)
reply_one A ask x y B C (told, same) (also, again) = (view_answered_once A ask x y told also, same ∙ sym again)

-- two snapshots of one ledger, stopped or not alike, are the same
stand_one : (B C : Snapshot) → B.ledger ≡ C.ledger → B.is_stopped ≡ C.is_stopped → B ≡ C
stand_one B C e f = λ i. record { ledger = e i; is_stopped = f i }

-- the ordinary answer, where the test says whether the desk is stopped
abbrev RepliesIf : Snapshot → Ask → Bool → Answer → Snapshot → Type 0
RepliesIf old ask b answer new =
    MatchBool b ((answer ≡ reply_of_stopped ask) × (new ≡ old))
    (AnswersAsk old.ledger ask answer new.ledger × (new.is_stopped ≡ false))

plain_one : (old : Snapshot) (ask : Ask) (x y : Answer) (B C : Snapshot) → RepliesAt old ask x B → RepliesAt old ask y C
    → (x ≡ y) × (B ≡ C)
plain_one old ask x y B C h k = by old.is_stopped h k
  where
    by : (b : Bool) → RepliesIf old ask b x B → RepliesIf old ask b y C → (x ≡ y) × (B ≡ C)
    by true h k = (h.0 ∙ sym k.0, h.1 ∙ sym k.1)
    by false h k =
        let same = reply_one old.ledger ask x y B.ledger C.ledger h.0 k.0 in
        (same.0, stand_one B C same.1 (h.1 ∙ sym k.1))

part_one : (old : Snapshot) (part : Part) (kind : AnswerKind) (x y : Answer) (B C : Snapshot)
    → AnswersPart old part kind x B → AnswersPart old part kind y C → (x ≡ y) × (B ≡ C)
part_one old (whole m) ordinary x y B C (a, asks, replies) (b, also, others) =
    plain_one old a x y B C replies (subst (λ (ask : Ask). RepliesAt old ask y C) (asks_one m b a also asks) others)
part_one old (whole m) no_memory x y B C h k = (h.0 ∙ sym k.0, h.1 ∙ sym k.1)
part_one old (whole m) stopping x y B C h k = (h.0 ∙ sym k.0, stand_one B C (h.1.same ∙ sym k.1.same) (h.1.after ∙ sym k.1.after))
part_one old unreadable ordinary x y B C h k = (h.0 ∙ sym k.0, h.1 ∙ sym k.1)
part_one old unreadable no_memory x y B C h k = absurd h
part_one old unreadable stopping x y B C h k = absurd h

pub answers_one : (parts : List Part) (kinds : List AnswerKind) (old : Snapshot) (xs ys : List Answer) (B C : Snapshot)
    → AreAnswers http old parts kinds xs B → AreAnswers http old parts kinds ys C → (xs ≡ ys) × (B ≡ C)
answers_one [] [] old [] [] B C h k = (refl, h ∙ sym k)
answers_one (part ∷ parts) (kind ∷ kinds) old (x ∷ xs) (y ∷ ys) B C (mid, first, more) (also, second, others) =
    let same = part_one old part kind x y mid also first second in
    let rest =
    answers_one parts kinds mid xs ys B C more
    (subst (λ (stand : Snapshot). AreAnswers http stand parts kinds ys C) (sym same.1) others) in
    (cc (same.0, rest.0), rest.1)
answers_one [] [] old [] (y ∷ ys) B C h k = absurd k
answers_one [] [] old (x ∷ xs) ys B C h k = absurd h
answers_one [] (kind ∷ kinds) old xs ys B C h k = absurd h
answers_one (part ∷ parts) [] old xs ys B C h k = absurd h
answers_one (part ∷ parts) (kind ∷ kinds) old [] ys B C h k = absurd h
answers_one (part ∷ parts) (kind ∷ kinds) old (x ∷ xs) [] B C h k = absurd k

pub web_one : (old : Snapshot) (stream : List ℕ) (kinds : List AnswerKind) (out other : List ℕ) (B C : Snapshot)
    → IsTranscript http old stream kinds out B → IsTranscript http old stream kinds other C → (out ≡ other) × (B ≡ C)
web_one old stream kinds out other B C h k =
    let parts = parts_one k.questions h.questions stream k.are_questions h.are_questions in
    let same =
    answers_one h.questions kinds old h.answers k.answers B C h.are_answers
    (subst (λ (ps : List Part). AreAnswers http old ps kinds k.answers C) parts k.are_answers) in
    (h.out_is ∙ ap (text_of http) same.0 ∙ sym k.out_is, same.1)
