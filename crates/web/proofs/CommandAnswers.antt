-- The answer to a message, by what it asks for.
use Rattle.std.proofs.Common.{◌≡◌, ◌∙◌, Bool, MatchBool, true, false, true≢false, ℕ, List, ap, refl, subst, sym}
use Rattle.words.specs.declared.command.Request.{Request}
use Rattle.ledger.specs.Answers.{IsAccepted}
use Rattle.ledger.specs.Next.{accept}
use Rattle.desk.specs.Desk.{DeskState, LeavesEither, Snapshot, StopsCall, snapshot}
use Rattle.desk.specs.Dialogue.{AnswerKind, AnswersOne, bytes_of, no_memory, ordinary, stopping}
use Rattle.desk.specs.declared.answer.Answer.{Answer as Text}
use Rattle.web.specs.Answers.{Answer, answer_bytes, memory_answer, message_answer, stopped_answer}
use Rattle.web.specs.Asks.{AsksFor}
use Rattle.web.specs.Messages.{Message, Part, unreadable, whole}
use Rattle.web.specs.Replies.{AnswersAsk, reply_of_stopped}
use Rattle.web.specs.Turns.{IsAnswered, IsAsked, Shows}
use Rattle.web.specs.Web.{RepliesAt, http}
use Rattle.web.specs.declared.ask.Ask.{Ask}
use Rattle.web.specs.declared.ask.Ask.TheVariants as ask
use Rattle.web.specs.declared.connection.Asked.{Asked}
use Rattle.web.specs.declared.connection.Asked.TheVariants as asked

-- the ordinary answer of a desk that is not stopped, and goes on
pub replies_going : (old new : Snapshot) (a : Ask) (answer : Answer) → old.is_stopped ≡ false → new.is_stopped ≡ false
    → AnswersAsk old.ledger a answer new.ledger → RepliesAt old a answer new
replies_going old new a answer e f h =
    subst (λ (b : Bool). MatchBool b ((answer ≡ reply_of_stopped a) × (new ≡ old))
    (AnswersAsk old.ledger a answer new.ledger × (new.is_stopped ≡ false))) (sym e) (h, f)

-- and that of one that is stopped
pub replies_stopped : (at : Snapshot) (a : Ask) (answer : Answer) → at.is_stopped ≡ true → answer ≡ reply_of_stopped a
    → RepliesAt at a answer at
replies_stopped at a answer e h =
    subst (λ (b : Bool). MatchBool b ((answer ≡ reply_of_stopped a) × (at ≡ at))
    (AnswersAsk at.ledger a answer at.ledger × (at.is_stopped ≡ false))) (sym e) (h, refl)

no_stop : (kind : AnswerKind) → kind ≡ ordinary → kind ≡ stopping → ⊥
no_stop kind e f = let g = sym e ∙ f in cc g

module _ (old new : DeskState) (text : List ℕ) where
  -- a desk that is not stopped, and goes on, answers
  pub goes_on : (a : Ask) (answer : Answer) → old.is_stopped ≡ false → new.is_stopped ≡ false
      → AnswersAsk old.ledger a answer new.ledger → text ≡ answer_bytes answer → (m : Message) → AsksFor m a
      → AnswersOne http old (whole m) text new
  goes_on a answer e f h bytes = λ m asks. record {
    kind = ordinary;
    answer = answer;
    is_answer = (a, asks, replies_going (snapshot old) (snapshot new) a answer e f h);
    text_is = bytes;
    halts = λ stops. absurd (no_stop ordinary refl stops);
    stops = λ going halted honest. absurd (true≢false (sym halted ∙ f));
  }

  -- memory was refused, and nothing has changed
  pub nothing_done : new ≡ old → text ≡ answer_bytes memory_answer → (m : Message) → AnswersOne http old (whole m) text new
  nothing_done e bytes = λ m. record {
    kind = no_memory;
    answer = memory_answer;
    is_answer = (refl, ap snapshot e);
    text_is = bytes;
    halts = λ stops. cc stops;
    stops = λ going halted honest. absurd (true≢false (sym halted ∙ ap (λ (d : DeskState). d.is_stopped) e ∙ going));
  }

  -- a command stops the desk
  stops_here : (r : Request) → old.is_stopped ≡ false → new.is_stopped ≡ true → new.ledger ≡ old.ledger
      → StopsCall r old new → text ≡ answer_bytes stopped_answer → (m : Message) → AsksFor m (ask.Call r)
      → AnswersOne http old (whole m) text new
  stops_here r e f same call bytes = λ m asks. record {
    kind = stopping;
    answer = stopped_answer;
    is_answer = (refl, record { request = r; asks = asks; accepted = call.accepted; before = e; after = f; same = same });
    text_is = bytes;
    halts = λ stops. f;
    stops = λ going halted honest. (
      r,
      refl,
      asks,
      subst (λ A. IsAccepted A r) (sym same) call.accepted,
      subst (λ A. LeavesEither new.leaves A (accept A r)) (sym same) (call.either honest),
    );
  }

-- what is shown is an answer
pub viewed : (desk : DeskState) (a : Ask) (text : Text) → Shows (snapshot desk) a text → IsAnswered desk a text desk
viewed desk a text (answer, told, bytes) = λ m asks. record {
  kind = ordinary;
  answer = answer;
  is_answer = (a, asks, told);
  text_is = bytes;
  halts = λ stops. absurd (no_stop ordinary refl stops);
  stops = λ going halted honest. absurd (true≢false (sym halted ∙ going));
}

-- the desk is stopped, now or before
pub called_stopped : (old new : DeskState) (r : Request) (text : Text) → new.is_stopped ≡ true → new.ledger ≡ old.ledger
    → (old.is_stopped ≡ false → StopsCall r old new) → (old.is_stopped ≡ true → new ≡ old)
    → bytes_of text ≡ answer_bytes stopped_answer
    → IsAnswered old (ask.Call r) text new
called_stopped old new r text halted same call stays bytes = by old.is_stopped refl
  where
    by : (b : Bool) → old.is_stopped ≡ b → IsAnswered old (ask.Call r) text new
    by false e = stops_here old new (bytes_of text) r e halted same (call e) bytes
    by true e =
        subst (λ (d : DeskState). IsAnswered old (ask.Call r) text d) (sym (stays e))
        (viewed old (ask.Call r) text
        (stopped_answer, replies_stopped (snapshot old) (ask.Call r) stopped_answer e refl, bytes))

-- what is no message is answered so
unread : (desk : DeskState) (text : List ℕ) → text ≡ answer_bytes message_answer → AnswersOne http desk unreadable text desk
unread desk text bytes = record {
  kind = ordinary;
  answer = message_answer;
  is_answer = (refl, refl);
  text_is = bytes;
  halts = λ stops. absurd (no_stop ordinary refl stops);
  stops = λ going halted honest. absurd (true≢false (sym halted ∙ going));
}

-- ---- parts, as they are asked

module _ (old new : DeskState) (text : Text) (q : Asked) where
  pub part_asked : (a : Ask) → q ≡ asked.Message a → IsAnswered old a text new → (p : Part) → IsAsked q p
      → AnswersOne http old p (bytes_of text) new
  part_asked a is answered (whole m) h = answered m (subst (λ (k : Asked). IsAsked k (whole m)) is h)
  part_asked a is answered unreadable h = absurd (subst (λ (k : Asked). IsAsked k unreadable) is h)

  pub part_unasked : q ≡ asked.NoMemory → new ≡ old → bytes_of text ≡ answer_bytes memory_answer → (p : Part)
      → IsAsked q p → AnswersOne http old p (bytes_of text) new
  part_unasked is same bytes (whole m) h = nothing_done old new (bytes_of text) same bytes m
  part_unasked is same bytes unreadable h = absurd (subst (λ (k : Asked). IsAsked k unreadable) is h)

pub part_unread : (desk : DeskState) (text : Text) (q : Asked) → q ≡ asked.Unreadable
    → bytes_of text ≡ answer_bytes message_answer → (p : Part) → IsAsked q p
    → AnswersOne http desk p (bytes_of text) desk
part_unread desk text q is bytes unreadable h = unread desk (bytes_of text) bytes
part_unread desk text q is bytes (whole m) h = absurd (subst (λ (k : Asked). IsAsked k (whole m)) is h)
