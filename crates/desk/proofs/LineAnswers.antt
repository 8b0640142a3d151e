-- What the dialogue in lines comes to: the text of replies.
use Rattle.std.proofs.Common.{◌≡◌, ◌≢◌, ◌⊎◌, ◌≤◌, ◌∙◌, Bool, false, true≢false, ℕ, List, [], ◌∷◌, ◌++◌, Option, Some}
use Rattle.std.proofs.Common.{ap, append-nil, append_assoc, arith, inl, inr, length, refl, subst, sym}
use Rattle.std.specs.Bool.{◌==◌}
use Rattle.words.specs.declared.command.Request.{Request}
use Rattle.words.specs.declared.item.Item.TheVariants as item
use Rattle.ledger.specs.Ledger.{Ledger}
use Rattle.std.specs.Prelude.{Err, IfErr, Ok, OnOk, Result}
use Rattle.desk.specs.Desk.{DeskState, Snapshot, TellsStop, snapshot}
use Rattle.desk.specs.Streams.{Streams}
use Rattle.desk.specs.declared.fault.ScriptFault.{ScriptFault}
use Rattle.desk.proofs.Answering.{last_answer, text_on}
use Rattle.desk.proofs.Faults.{error_or}
use Rattle.words.proofs.OneFeed.{feeds_one}
use Rattle.words.proofs.TwoPieces.{feeds_joined}
use Rattle.words.specs.Stream.{Feeds}
use Rattle.words.specs.declared.item.Item.{Item}
use Rattle.desk.specs.Dialogue.{AnswerKind, AreAnswers, EndsCut, EndsWhole, IsCut, IsStoppedBy, LacksRest, is_end}
use Rattle.desk.specs.Dialogue.{no_memory, ordinary, stopping, text_of}
use Rattle.desk.specs.Script.{HasFed, HaveEnded, WritesText, lines}
use Rattle.desk.specs.Text.{RepliesAll, unended}

-- the next of the items that wait is found
pub fed_next : (held : Option (List ℕ)) (next : Item) (waiting left : List Item) (read : List ℕ) (ended : Bool)
    (found : List Item) → waiting ≡ next ∷ left → HasFed held waiting read ended found
    → HasFed held left read ended (found ++ next ∷ [])
fed_next held next waiting left read ended found is h = record {
  all = h.all;
  rest = h.rest;
  feeds = h.feeds;
  going = λ e. (
    (h.going e).0,
    (h.going e).1 ∙ ap (λ (xs : List Item). found ++ xs) is ∙ sym (append_assoc found (next ∷ []) left),
  );
  split =
      h.split ∙ ap (λ (xs : List Item). found ++ (xs ++ unended held)) is
      ∙ sym (append_assoc found (next ∷ []) (left ++ unended held));
}

-- a piece more is taken in, where all items that have come are found
pub fed_on : (held new : Option (List ℕ)) (waiting items : List Item) (read piece : List ℕ) (found : List Item)
    (ended : Bool) → HasFed held waiting read false found → HaveEnded read found → Feeds held piece items new
    → HasFed new items (read ++ piece) ended found
fed_on held new waiting items read piece found ended fed (rest, feeds) more =
    let (same, all) = fed.going refl in
    let (is_all, is_rest) = feeds_one (Some []) rest fed.rest read found fed.all feeds fed.feeds in
    let joined =
    feeds_joined (Some []) held new read piece found items
    (subst (λ (r : Option (List ℕ)). Feeds (Some []) read found r) (is_rest ∙ sym same) feeds) more in
    record {
      all = found ++ items;
      rest = new;
      feeds = joined;
      going = λ e. (refl, refl);
      split = append_assoc found items (unended new);
    }

-- a piece with bytes is not the end
pub goes_on_behind : (piece : List ℕ) → false ≡ (length piece == 0) → false ≡ is_end piece
goes_on_behind [] h = absurd (true≢false (sym h))
goes_on_behind (byte ∷ bytes) h = refl

-- ---- answers are replies

pub replies_of : (items : List Item) (kinds : List AnswerKind) (out : List (List ℕ)) (old new : Snapshot)
    → AreAnswers lines old items kinds out new → RepliesAll old.ledger items (text_of lines out) new.ledger
replies_of [] [] [] old new h = (refl, ap (λ (s : Snapshot). s.ledger) h)
replies_of (x ∷ items) (ordinary ∷ kinds) (line ∷ out) old new (mid, first, more) =
    (line, mid.ledger, text_of lines out, first.0, replies_of items kinds out mid new more, refl)
replies_of (x ∷ items) (no_memory ∷ kinds) (line ∷ out) old new (mid, first, more) = absurd first
replies_of (x ∷ items) (stopping ∷ kinds) (line ∷ out) old new (mid, first, more) = absurd first
replies_of [] [] (line ∷ out) old new h = absurd h
replies_of [] (kind ∷ kinds) out old new h = absurd h
replies_of (x ∷ items) [] out old new h = absurd h
replies_of (x ∷ items) (kind ∷ kinds) [] old new h = absurd h

-- by a desk that goes on as it did
pub still_going : (items : List Item) (kinds : List AnswerKind) (out : List (List ℕ)) (old new : Snapshot)
    → AreAnswers lines old items kinds out new → new.is_stopped ≡ old.is_stopped
still_going [] [] [] old new h = ap (λ (s : Snapshot). s.is_stopped) h
still_going (x ∷ items) (ordinary ∷ kinds) (line ∷ out) old new (mid, first, more) =
    still_going items kinds out mid new more ∙ first.2
still_going (x ∷ items) (no_memory ∷ kinds) (line ∷ out) old new (mid, first, more) = absurd first
still_going (x ∷ items) (stopping ∷ kinds) (line ∷ out) old new (mid, first, more) = absurd first
still_going [] [] (line ∷ out) old new h = absurd h
still_going [] (kind ∷ kinds) out old new h = absurd h
still_going (x ∷ items) [] out old new h = absurd h
still_going (x ∷ items) (kind ∷ kinds) [] old new h = absurd h

module _ (old new : DeskState) (s : Streams) (ends : EndsWhole lines old new s) where
  -- all that was there was read, and its text written
  pub text_written : WritesText old.ledger new.ledger s
  text_written = record {
    read = ends.read;
    out = text_of lines ends.answers;
    reads = ends.reads;
    ends = ends.at_end ends.ends;
    text = record {
      items = ends.questions;
      are_items = ends.are_questions;
      replies = replies_of ends.questions ends.kinds ends.answers (snapshot old) (snapshot new) ends.are_answers;
    };
    writes = ends.writes;
  }

  pub whole_goes_on : new.is_stopped ≡ old.is_stopped
  whole_goes_on = still_going ends.questions ends.kinds ends.answers (snapshot old) (snapshot new) ends.are_answers

-- ---- where they are cut

-- The items that are answered, but for the lines of `last`, are told: their lines are written whole; of those of `last`,
-- one at the most, a beginning is.
pub record AreTold (A : Ledger) (answered : List Item) (written : List ℕ) (B : Ledger) : Type 0 where
  pub before : List Item
  pub last : List Item
  pub mid : Ledger
  pub lines : List ℕ
  pub begun : List ℕ
  pub left : List ℕ
  pub split : answered ≡ before ++ last
  pub one : length last ≤ 1
  pub written_are : written ≡ lines ++ begun
  pub replies : RepliesAll A before lines mid
  pub all : RepliesAll A answered (written ++ left) B

module _ (fault : ScriptFault) (old new : DeskState) (items : List Item) (written : List ℕ)
    (cut : IsCut lines fault old items written new) where
  all_replies : RepliesAll old.ledger cut.answered (text_of lines cut.answers) new.ledger
  all_replies =
      subst (λ (B : Ledger). RepliesAll old.ledger cut.answered (text_of lines cut.answers) B) (sym cut.same)
      (replies_of cut.answered cut.kinds cut.answers (snapshot old) cut.behind cut.are_answers)

  -- but for a failing write all that is answered is told
  pub cut_told : fault ≢ ScriptFault.Write → RepliesAll old.ledger cut.answered written new.ledger
  cut_told other = subst (λ (out : List ℕ). RepliesAll old.ledger cut.answered out new.ledger) (sym (cut.told other)) all_replies

  -- a desk that is not stopped then goes on as it did
  pub cut_goes_on : fault ≢ ScriptFault.Stopped → new.is_stopped ≡ old.is_stopped
  cut_goes_on other = cut.going other ∙ still_going cut.answered cut.kinds cut.answers (snapshot old) cut.behind cut.are_answers

  pub are_told : AreTold old.ledger cut.answered written new.ledger
  are_told = by cut.almost
    where
      by : (written ≡ text_of lines cut.answers) ⊎ LacksRest lines cut.answers written
          → AreTold old.ledger cut.answered written new.ledger
      by (inl all) =
          let replies = subst (λ (out : List ℕ). RepliesAll old.ledger cut.answered out new.ledger) (sym all) all_replies in
          record {
            before = cut.answered;
            last = [];
            mid = new.ledger;
            lines = written;
            begun = [];
            left = [];
            split = sym (append-nil cut.answered);
            one = omega arith;
            written_are = sym (append-nil written);
            replies = replies;
            all = subst (λ (out : List ℕ). RepliesAll old.ledger cut.answered out new.ledger) (sym (append-nil written)) replies;
          }
      by (inr l) =
          let (before, last, kinds, kind, mid, split, first, reply) = last_answer lines cut.answered cut.kinds l.before
          l.last (snapshot old) cut.behind
          (subst (λ (out : List (List ℕ)). AreAnswers lines (snapshot old) cut.answered cut.kinds out cut.behind)
          l.split cut.are_answers) in
          let whole : text_of lines cut.answers ≡ written ++ l.left =
          ap (text_of lines) l.split ∙ text_on lines l.before (l.last ∷ [])
          ∙ ap (λ (t : List ℕ). text_of lines l.before ++ t) (append-nil l.last ∙ l.cut)
          ∙ sym (append_assoc (text_of lines l.before) l.begun l.left) ∙ ap (λ (t : List ℕ). t ++ l.left) (sym l.written_are) in
          record {
            before = before;
            last = last ∷ [];
            mid = mid.ledger;
            lines = text_of lines l.before;
            begun = l.begun;
            left = l.left;
            split = split;
            one = omega arith;
            written_are = l.written_are;
            replies = replies_of before kinds l.before (snapshot old) mid first;
            all = subst (λ (out : List ℕ). RepliesAll old.ledger cut.answered out new.ledger) whole all_replies;
          }

  -- the request that stopped the desk comes next
  pub stopped_next : (r : Request) → IsStoppedBy lines items cut.kinds r → (more : List Item) × (cut.left ≡ item.Request r ∷ more)
  stopped_next r by =
      at_left cut.answered cut.kinds cut.answers (snapshot old) cut.are_answers
      (subst (λ (xs : List Item). IsStoppedBy lines xs cut.kinds r) cut.split by)
    where
      at_head : (left : List Item) → IsStoppedBy lines left [] r → (more : List Item) × (left ≡ item.Request r ∷ more)
      at_head [] by = absurd by
      at_head (x ∷ left) by = (left, ap (λ (y : Item). y ∷ left) by)

      at_left : (answered : List Item) (kinds : List AnswerKind) (out : List (List ℕ)) (before : Snapshot)
          → AreAnswers lines before answered kinds out cut.behind → IsStoppedBy lines (answered ++ cut.left) kinds r
          → (more : List Item) × (cut.left ≡ item.Request r ∷ more)
      at_left [] [] out before h by = at_head cut.left by
      at_left (x ∷ answered) (ordinary ∷ kinds) (line ∷ out) before (mid, first, more) by = at_left answered kinds out mid more by
      at_left (x ∷ answered) (no_memory ∷ kinds) (line ∷ out) before (mid, first, more) by = absurd first
      at_left (x ∷ answered) (stopping ∷ kinds) (line ∷ out) before (mid, first, more) by = absurd first
      at_left [] (kind ∷ kinds) out before h by = absurd h
      at_left (x ∷ answered) [] out before h by = absurd h
      at_left (x ∷ answered) (kind ∷ kinds) [] before h by = absurd h

-- it is told where a script has stopped the desk
pub script_tells : {T : Type 0} (ended : Result T ScriptFault) (old new : DeskState) (s : Streams)
    → OnOk ended (EndsWhole lines old new s) → IfErr ended (λ fault. EndsCut lines fault old new s)
    → TellsStop (ended ≡ Err ScriptFault.Stopped) old new
script_tells (Ok done) old new s whole cut = record { stopped = λ e. cc e; going = λ other. whole_goes_on old new s whole }
script_tells (Err fault) old new s whole cut = record {
  stopped = λ e. (cut.cut.stopped (ap (error_or fault) e)).0;
  going = λ other. cut_goes_on fault old new cut.questions cut.written cut.cut (λ e. other (ap (λ (f : ScriptFault). Err f) e));
}
