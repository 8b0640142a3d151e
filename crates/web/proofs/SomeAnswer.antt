-- At a good ledger there are ordinary answers to each stream.
use Rattle.std.proofs.Common.{◌≡◌, Bool, true, false, ℕ, List, [], ◌∷◌, Option, Some, None, MatchOption, refl, subst, sym}
use Rattle.std.specs.List.{AllByRecursion as Each}
use Rattle.std.specs.Str.{bytes_eq}
use Rattle.serde_json.specs.Data.{Data}
use Rattle.ledger.proofs.Goodness.{good_answer}
use Rattle.ledger.proofs.Runs.{answered_if_good}
use Rattle.book.proofs.ShownNumbers.{Contains-of_find}
use Rattle.ledger.specs.Good.{Good}
use Rattle.ledger.specs.Ledger.{Field, Ledger, Name, field_named, kept_under, name_of, order_numbered, same_name}
use Rattle.desk.specs.Desk.{DeskState, Snapshot, snapshot}
use Rattle.desk.specs.Dialogue.{AnswerKind, AreAnswers, BeginsTranscript, EndsCut, IsTranscript, ordinary, text_of}
use Rattle.desk.specs.Streams.{Streams}
use Rattle.desk.specs.declared.fault.ScriptFault.{ScriptFault}
use Rattle.desk.proofs.Conversing.{transcript_begins}
use Rattle.web.specs.Web.{AnswersPart, http}
use Rattle.web.specs.Answers.{Answer, json_answer, message_answer, none_answer, reply_answer, text_answer}
use Rattle.web.specs.Asks.{AsksFor}
use Rattle.web.specs.declared.ask.Ask.{Ask}
use Rattle.web.specs.declared.ask.Ask.TheVariants as ask
use Rattle.web.specs.Messages.{Message, Part, unreadable, whole}
use Rattle.web.specs.Objects.{field_object, kept_object, order_object}
use Rattle.web.specs.Replies.{AnswersAsk, TellsField, TellsFound, TellsText, reply_of_stopped}
use Rattle.files.specs.Sheets.{IsSheet}
use Rattle.book.specs.declared.book.views.FieldView.{FieldView}
use Rattle.files.proofs.OneSheet.{some_sheet, view_of}
use Rattle.web.proofs.FieldBranches.{are_branches, branches_at, once}
use Rattle.web.proofs.SomeAsk.{some_ask}
use Rattle.web.proofs.SomeParts.{some_parts}

-- ---- answers

field_told : (A : Ledger) (b a : List ℕ) (g : Good A) (found : Option Field) → field_named A (name_of b a) ≡ found
    → (answer : Answer) × MatchOption found (answer ≡ none_answer) (λ f. TellsField A f answer)
field_told A b a g None e = (none_answer, refl)
field_told A b a g (Some f) e =
    let shown = view_of A f g (Contains-of_find (λ k. same_name (name_of b a) k.name) A.fields f e) in
    (json_answer 200 (field_object shown.0), (shown.0, shown.1, refl))

found_told : {X : Type 0} (object : X → Data) (found : Option X) → (answer : Answer) × TellsFound object found answer
found_told object None = (none_answer, refl)
found_told object (Some x) = (json_answer 200 (object x), refl)

sheet_told : (is_shown : Name → Bool) (title : FieldView → List ℕ) (A : Ledger) → Good A
    → (answer : Answer) × TellsText (IsSheet is_shown title A) answer
sheet_told is_shown title A g = let (text, sheet) = some_sheet is_shown title A g in (text_answer text, (text, sheet, refl))

some_reply : (A : Ledger) (ask : Ask) → Good A → (answer : Answer) × (B : Ledger) × AnswersAsk A ask answer B
some_reply A (ask.Call r) g = let answer = answered_if_good A r g in (reply_answer answer.0, answer.1, (answer.0, answer.2, refl))
some_reply A ask.Branches g = (_, A, ((once None (branches_at A.fields), are_branches A.fields g.fields_in_order, refl), refl))
some_reply A (ask.Field b a) g = let told = field_told A b a g (field_named A (name_of b a)) refl in (told.0, A, (told.1, refl))
some_reply A (ask.Order n) g = let told = found_told order_object (order_numbered A n) in (told.0, A, (told.1, refl))
some_reply A (ask.Sheet b) g =
    let told = sheet_told (λ f. bytes_eq f.branch b) (λ v. v.article) A g in (told.0, A, (told.1, refl))
some_reply A (ask.Article a) g =
    let told = sheet_told (λ f. bytes_eq f.article a) (λ v. v.branch) A g in (told.0, A, (told.1, refl))
some_reply A (ask.Kept key) g = let told = found_told kept_object (kept_under A key) in (told.0, A, (told.1, refl))
some_reply A ask g = (_, A, (refl, refl))

-- a good ledger stays good
good_reply : (A : Ledger) (m : Message) (ask : Ask) (answer : Answer) (B : Ledger) → Good A → AsksFor m ask
    → AnswersAsk A ask answer B → Good B
good_reply A m (ask.Call r) answer B g asks h = good_answer A r h.0 B g asks.1.key asks.1.command h.1
good_reply A m ask answer B g asks (told, same) = subst Good (sym same) g

-- a ordinary answer to a part, after which the ledger is good
abbrev Answered : Snapshot → Part → Type 0
Answered old part = (answer : Answer) × (new : Snapshot) × AnswersPart old part ordinary answer new × Good new.ledger

some_plain : (A : Ledger) (b : Bool) (m : Message) → Good A → Answered (record { ledger = A; is_stopped = b }) (whole m)
some_plain A true m g = let ask = some_ask m in (reply_of_stopped ask.0, _, (ask.0, ask.1, (refl, refl)), g)
some_plain A false m g =
    let ask = some_ask m in
    let reply = some_reply A ask.0 g in (
      reply.0,
      record { ledger = reply.1; is_stopped = false },
      (ask.0, ask.1, (reply.2, refl)),
      good_reply A m ask.0 reply.0 reply.1 g ask.1 reply.2,
    )

pub some_answer : (old : Snapshot) (part : Part) → Good old.ledger → Answered old part
some_answer old (whole m) g = some_plain old.ledger old.is_stopped m g
some_answer old unreadable g = (message_answer, old, (refl, refl), g)

-- ordinary answers to parts
pub record PlainAnswers (old : Snapshot) (parts : List Part) : Type 0 where
  pub kinds : List AnswerKind
  pub answers : List Answer
  pub new : Snapshot
  pub replies : AreAnswers http old parts kinds answers new
  pub plains : Each (λ kind. kind ≡ ordinary) kinds

pub some_answers : (parts : List Part) (old : Snapshot) → Good old.ledger → PlainAnswers old parts
some_answers [] old g = record { kinds = []; answers = []; new = old; replies = refl; plains = tt }
some_answers (part ∷ parts) old g =
    let first = some_answer old part g in
    let more = some_answers parts first.1 first.3 in
    record {
      kinds = ordinary ∷ more.kinds;
      answers = first.0 ∷ more.answers;
      new = more.new;
      replies = (first.1, first.2, more.replies);
      plains = (refl, more.plains);
    }

pub some_web : (old : Snapshot) (stream : List ℕ) → Good old.ledger
    → (kinds : List AnswerKind) × (out : List ℕ) × (new : Snapshot) × Each (λ kind. kind ≡ ordinary) kinds
    × IsTranscript http old stream kinds out new
some_web old stream g =
    let parts = some_parts stream in
    let all = some_answers parts.0 old g in (
      all.kinds,
      text_of http all.answers,
      all.new,
      all.plains,
      record {
        questions = parts.0;
        answers = all.answers;
        are_questions = parts.1;
        are_answers = all.replies;
        out_is = refl;
      },
    )

-- what is written at a fault is a beginning of what is answered
pub serve_begins : (fault : ScriptFault) (old new : DeskState) (s : Streams) → Good new.ledger
    → EndsCut http fault old new s → BeginsTranscript http (snapshot old) s
serve_begins fault old new s good ends =
    let more = some_answers ends.cut.left ends.cut.behind (subst Good ends.cut.same good) in
    transcript_begins http fault old new s ends more.kinds more.answers more.new more.replies
