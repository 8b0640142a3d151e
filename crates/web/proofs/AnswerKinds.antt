-- What answers tell of their kinds, and of how the desk stands.
use Rattle.std.proofs.Common.{◌≡◌, ◌≢◌, ◌∙◌, Bool, true, false, true≢false, ℕ, List, [], ◌∷◌, Option, Some, None}
use Rattle.std.proofs.Common.{MatchOption, MatchBool, ap, arith, length, refl, sym}
use Rattle.std.specs.List.{AllByRecursion as Each}
use Rattle.serde_json.proofs.OnLiterals.{serde_json_on_literals}
use Rattle.serde_json.specs.Data.{Data}
use Rattle.words.specs.declared.reply.Reply.{Reply}
use Rattle.words.specs.declared.reply.Reply.TheVariants.{Done, Refused}
use Rattle.ledger.specs.Ledger.{Field, Ledger, field_named, kept_under, name_of, order_numbered}
use Rattle.files.specs.Sheets.{IsArticleSheet, IsBranchSheet}
use Rattle.desk.specs.Desk.{Snapshot}
use Rattle.desk.specs.Dialogue.{AnswerKind, AreAnswers, no_memory, ordinary, stopping}
use Rattle.web.specs.Web.{AnswersPart, RepliesAt, http}
use Rattle.web.specs.Answers.{Answer, json_answer, memory_answer, none_answer, reply_answer, stopped_answer, text_answer}
use Rattle.web.specs.declared.ask.Ask.{Ask}
use Rattle.web.specs.declared.ask.Ask.TheVariants as ask
use Rattle.web.specs.Messages.{Part, unreadable, whole}
use Rattle.web.specs.Objects.{branches_object, desk_object, kept_object, order_object, orders_object}
use Rattle.web.specs.Orders.{due, open_above}
use Rattle.web.specs.Replies.{AnswersAsk, AnswersView, TellsField, TellsFound, TellsText, reply_of_stopped}

status_of : (x : Answer) (n : ℕ) (y : Answer) → x ≡ y → y.status ≡ n → x.status ≡ n
status_of x n y e s = ap (λ (a : Answer). a.status) e ∙ s

-- ---- a kind that is not ordinary has the status 503

kind_ordinary : (old : Snapshot) (part : Part) (kind : AnswerKind) (answer : Answer) (new : Snapshot)
    → AnswersPart old part kind answer new → answer.status ≢ 503 → kind ≡ ordinary
kind_ordinary old part ordinary answer new h other = refl
kind_ordinary old (whole m) no_memory answer new h other = absurd (other (status_of answer 503 memory_answer h.0 refl))
kind_ordinary old (whole m) stopping answer new h other = absurd (other (status_of answer 503 stopped_answer h.0 refl))
kind_ordinary old unreadable no_memory answer new h other = absurd h
kind_ordinary old unreadable stopping answer new h other = absurd h

pub kinds_ordinary : (parts : List Part) (kinds : List AnswerKind) (answers : List Answer) (old new : Snapshot)
    → AreAnswers http old parts kinds answers new
    → Each (λ answer. answer.status ≢ 503) answers → Each (λ kind. kind ≡ ordinary) kinds
kinds_ordinary [] [] [] old new h all = tt
kinds_ordinary (part ∷ parts) (kind ∷ kinds) (answer ∷ answers) old new (mid, first, more) all =
    (kind_ordinary old part kind answer mid first all.0, kinds_ordinary parts kinds answers mid new more all.1)
kinds_ordinary [] [] (answer ∷ answers) old new h all = absurd h
kinds_ordinary [] (kind ∷ kinds) answers old new h all = absurd h
kinds_ordinary (part ∷ parts) [] answers old new h all = absurd h
kinds_ordinary (part ∷ parts) (kind ∷ kinds) [] old new h all = absurd h

-- ---- a desk that is not stopped doesn't answer so

field_other : (A : Ledger) (found : Option Field) (x : Answer)
    → MatchOption found (x ≡ none_answer) (λ f. TellsField A f x) → x.status ≢ 503
field_other A None x h e = let s = status_of x 404 none_answer h refl in absurd (omega (arith, s, e))
field_other A (Some f) x (view, shows, h) e = let s = ap (λ (a : Answer). a.status) h in absurd (omega (arith, s, e))

call_other : (reply : Reply) (x : Answer) → x ≡ reply_answer reply → x.status ≢ 503
call_other (Done place) x h e = let s = ap (λ (a : Answer). a.status) h in absurd (omega (arith, s, e))
call_other (Refused refusal line) x h e = let s = ap (λ (a : Answer). a.status) h in absurd (omega (arith, s, e))

made_other : (x : Answer) (d : Data) → x ≡ json_answer 200 d → x.status ≢ 503
made_other x d h e = let s = status_of x 200 (json_answer 200 d) h refl in absurd (omega (arith, s, e))

text_other : (IsText : List ℕ → Type 0) (x : Answer) → TellsText IsText x → x.status ≢ 503
text_other IsText x (text, is, h) e = let s = status_of x 200 (text_answer text) h refl in absurd (omega (arith, s, e))

found_other : {X : Type 0} (object : X → Data) (found : Option X) (x : Answer) → TellsFound object found x → x.status ≢ 503
found_other object None x h e = let s = status_of x 404 none_answer h refl in absurd (omega (arith, s, e))
found_other object (Some y) x h e = made_other x (object y) h e

view_other : (A : Ledger) (ask : Ask) (x : Answer) → AnswersView A ask x → x.status ≢ 503
view_other A ask.Desk x h = made_other x (desk_object A) h
view_other A ask.Branches x (branches, are, h) = made_other x (branches_object branches) h
view_other A (ask.Field b a) x h = field_other A (field_named A (name_of b a)) x h
view_other A (ask.Order n) x h = found_other order_object (order_numbered A n) x h
view_other A (ask.Sheet b) x h = text_other (IsBranchSheet A b) x h
view_other A (ask.Article a) x h = text_other (IsArticleSheet A a) x h
view_other A (ask.Kept key) x h = found_other kept_object (kept_under A key) x h
view_other A (ask.Open floor) x h = made_other x (orders_object (open_above A floor)) h
view_other A (ask.Due moment) x h = made_other x (orders_object (due A moment)) h
view_other A ask.BadCall x h = λ e. let s = ap (λ (a : Answer). a.status) h in absurd (omega (arith, s, e))
view_other A ask.Nothing x h = λ e. let s = ap (λ (a : Answer). a.status) h in absurd (omega (arith, s, e))
view_other A (ask.Call r) x h = absurd h

reply_other : (A : Ledger) (ask : Ask) (x : Answer) (B : Ledger) → AnswersAsk A ask x B → x.status ≢ 503
reply_other A (ask.Call r) x B h = call_other h.0 x h.2
reply_other A ask x B h = view_other A ask x h.0

other_status : (x y : Answer) (n : ℕ) → x.status ≢ n → y.status ≡ n → x ≢ y
other_status x y n other s e = other (status_of x n y e s)

-- the two answers of status 503 differ
memory≢stopped : memory_answer ≢ stopped_answer
unfolding serde_json_on_literals
memory≢stopped e = let size : 18 ≡ 19 = ap (λ (a : Answer). length a.body) e in absurd (omega (arith, size))

abbrev RepliesIf : Snapshot → Ask → Bool → Answer → Snapshot → Type 0
RepliesIf old ask b answer new =
    MatchBool b ((answer ≡ reply_of_stopped ask) × (new ≡ old))
    (AnswersAsk old.ledger ask answer new.ledger × (new.is_stopped ≡ false))

plain_stays : (old : Snapshot) (ask : Ask) (answer : Answer) (new : Snapshot) → old.is_stopped ≡ true
    → RepliesAt old ask answer new → new.is_stopped ≡ true
plain_stays old ask answer new e h = by old.is_stopped e h
  where
    by : (b : Bool) → b ≡ true → RepliesIf old ask b answer new → new.is_stopped ≡ true
    by true f h = ap (λ (s : Snapshot). s.is_stopped) h.1 ∙ e
    by false f h = absurd (true≢false (sym f))

part_stays : (old : Snapshot) (part : Part) (kind : AnswerKind) (answer : Answer) (new : Snapshot)
    → old.is_stopped ≡ true → AnswersPart old part kind answer new → new.is_stopped ≡ true
part_stays old (whole m) ordinary answer new e h = plain_stays old h.0 answer new e h.2
part_stays old (whole m) no_memory answer new e h = ap (λ (s : Snapshot). s.is_stopped) h.1 ∙ e
part_stays old (whole m) stopping answer new e h = h.1.after
part_stays old unreadable ordinary answer new e h = ap (λ (s : Snapshot). s.is_stopped) h.1 ∙ e
part_stays old unreadable no_memory answer new e h = absurd h
part_stays old unreadable stopping answer new e h = absurd h

-- a desk that is stopped stays so
pub stays_stopped : (parts : List Part) (kinds : List AnswerKind) (answers : List Answer) (old new : Snapshot)
    → old.is_stopped ≡ true → AreAnswers http old parts kinds answers new → new.is_stopped ≡ true
stays_stopped [] [] [] old new e h = ap (λ (s : Snapshot). s.is_stopped) h ∙ e
stays_stopped (part ∷ parts) (kind ∷ kinds) (answer ∷ answers) old new e (mid, first, more) =
    stays_stopped parts kinds answers mid new (part_stays old part kind answer mid e first) more
stays_stopped [] [] (answer ∷ answers) old new e h = absurd h
stays_stopped [] (kind ∷ kinds) answers old new e h = absurd h
stays_stopped (part ∷ parts) [] answers old new e h = absurd h
stays_stopped (part ∷ parts) (kind ∷ kinds) [] old new e h = absurd h

plain_tells : (old : Snapshot) (ask : Ask) (answer : Answer) (new : Snapshot) → RepliesAt old ask answer new
    → new.is_stopped ≡ false → answer ≢ stopped_answer
plain_tells old ask answer new h e = by old.is_stopped refl h
  where
    by : (b : Bool) → old.is_stopped ≡ b → RepliesIf old ask b answer new → answer ≢ stopped_answer
    by true f h = absurd (true≢false (sym f ∙ sym (ap (λ (s : Snapshot). s.is_stopped) h.1) ∙ e))
    by false f h = other_status answer stopped_answer 503 (reply_other old.ledger ask answer new.ledger h.0) refl

part_tells : (old : Snapshot) (part : Part) (kind : AnswerKind) (answer : Answer) (new : Snapshot)
    → AnswersPart old part kind answer new → new.is_stopped ≡ false → answer ≢ stopped_answer
part_tells old (whole m) ordinary answer new h e = plain_tells old h.0 answer new h.2 e
part_tells old (whole m) no_memory answer new h e = λ k. memory≢stopped (sym h.0 ∙ k)
part_tells old (whole m) stopping answer new h e = absurd (true≢false (sym h.1.after ∙ e))
part_tells old unreadable ordinary answer new h e = λ k.
    let s = ap (λ (a : Answer). a.status) (sym h.0 ∙ k) in absurd (omega (arith, s))
part_tells old unreadable no_memory answer new h e = absurd h
part_tells old unreadable stopping answer new h e = absurd h

going : (b : Bool) → (b ≡ true → ⊥) → b ≡ false
going true h = absurd (h refl)
going false h = refl

-- a desk that is not stopped after answers was not stopped between them
going_before : (parts : List Part) (kinds : List AnswerKind) (answers : List Answer) (old new : Snapshot)
    → AreAnswers http old parts kinds answers new → new.is_stopped ≡ false → old.is_stopped ≡ false
going_before parts kinds answers old new h e =
    going old.is_stopped (λ s. true≢false (sym (stays_stopped parts kinds answers old new s h) ∙ e))

pub stopped_told : (parts : List Part) (kinds : List AnswerKind) (answers : List Answer) (old new : Snapshot)
    → AreAnswers http old parts kinds answers new
    → new.is_stopped ≡ false → Each (λ answer. answer ≢ stopped_answer) answers
stopped_told [] [] [] old new h e = tt
stopped_told (part ∷ parts) (kind ∷ kinds) (answer ∷ answers) old new (mid, first, more) e = (
  part_tells old part kind answer mid first (going_before parts kinds answers mid new more e),
  stopped_told parts kinds answers mid new more e,
)
stopped_told [] [] (answer ∷ answers) old new h e = absurd h
stopped_told [] (kind ∷ kinds) answers old new h e = absurd h
stopped_told (part ∷ parts) [] answers old new h e = absurd h
stopped_told (part ∷ parts) (kind ∷ kinds) [] old new h e = absurd h
