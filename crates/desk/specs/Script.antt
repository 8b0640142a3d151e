-- What a desk answers to lines.
use Rattle.std.specs.Prelude.{◌≡◌, Bool, true, false, ℕ, List, [], ◌++◌, Option, Some}
use Rattle.std.specs.Io.KnownBytes.{Appends, Consumes, IsAtEnd}
use Rattle.std.specs.List.{AllByRecursion as Each}
use Rattle.words.specs.Stream.{Feeds}
use Rattle.words.specs.declared.item.Item.{Item}
use Rattle.words.specs.declared.item.Item.TheVariants as item
use Rattle.ledger.specs.Ledger.{Ledger}
use Rattle.desk.specs.Desk.{DeskState, Snapshot, snapshot}
use Rattle.desk.specs.Dialogue.{AnswerKind, Language, no_memory, ordinary, stopping}
use Rattle.desk.specs.Streams.{Streams}
use Rattle.desk.specs.Text.{AreItems, IsText, Replies, RepliesAll, unended}

-- ---- the language of lines

-- a request is answered only by a desk that is not stopped
abbrev pub MayAnswer : Snapshot → Item → Type 0
MayAnswer desk (item.Request r) = desk.is_stopped ≡ false
MayAnswer desk (item.AskField b a) = Unit {0}
MayAnswer desk (item.AskOrder n) = Unit {0}
MayAnswer desk item.Bad = Unit {0}

-- The reply line for an item; the desk stays stopped or goes on as it did. No answer comes from refused memory or
-- from a desk that its request has stopped.
abbrev pub AnswersItem : Snapshot → Item → AnswerKind → List ℕ → Snapshot → Type 0
AnswersItem old x ordinary line new =
    Replies old.ledger x line new.ledger × MayAnswer old x × (new.is_stopped ≡ old.is_stopped)
AnswersItem old x no_memory line new = ⊥
AnswersItem old x stopping line new = ⊥

-- the items of lines that have ended
abbrev pub HaveEnded : List ℕ → List Item → Type 0
HaveEnded input items = (rest : Option (List ℕ)) × Feeds (Some []) input items rest

-- the language of scripts: lines in, lines out, until the input ends
abbrev pub lines : Language Item (List ℕ)
lines = record {
  are_questions = AreItems;
  have_come = HaveEnded;
  ends = λ has_ended items. has_ended ≡ true;
  answers = AnswersItem;
  calls = λ x request. x ≡ item.Request request;
  text = λ line. line;
}

-- ---- what is written

-- what was written has this property
abbrev pub Writes : (writer_old writer_new : Option (List ℕ)) → (List ℕ → Type 0) → Type 0
Writes writer_old writer_new Is = (written : List ℕ) × Appends writer_old writer_new written × Is written

-- the lines for the items were written, from one ledger to another
abbrev pub WritesLines : Ledger → List Item → Ledger → (writer_old writer_new : Option (List ℕ)) → Type 0
WritesLines old items new writer_old writer_new =
    (lines : List ℕ) × RepliesAll old items lines new × Appends writer_old writer_new lines

-- the items are answered and their lines written, and the desk stays stopped or goes on as it did
pub record AnswersAll (old : DeskState) (items : List Item) (new : DeskState)
    (writer_old writer_new : Option (List ℕ)) : Type 0 where
  pub told : WritesLines old.ledger items new.ledger writer_old writer_new
  pub may : Each (MayAnswer (snapshot old)) items
  pub same : new.is_stopped ≡ old.is_stopped

-- the whole input was read, and its text was written, which leads from one ledger to the other
pub record WritesText (old new : Ledger) (s : Streams) : Type 0 where
  pub read : List ℕ
  pub out : List ℕ
  pub reads : Consumes s.reader_old s.reader_new read
  pub ends : IsAtEnd s.reader_new
  pub text : IsText old read out new
  pub writes : Appends s.writer_old s.writer_new out

-- a part of the input was read, and a beginning was written of the text for that part, from this ledger on
pub record WritesBeginning (old : Ledger) (s : Streams) : Type 0 where
  pub read : List ℕ
  pub written : List ℕ
  pub unwritten : List ℕ
  pub last : Ledger
  pub reads : Consumes s.reader_old s.reader_new read
  pub writes : Appends s.writer_old s.writer_new written
  pub text : IsText old read (written ++ unwritten) last

-- ---- lines that come in pieces (private)

-- These bytes were taken in, and these items found. `held` is what has come of a line that has not ended; `waiting`
-- are the items of lines that have ended and were not found yet.
pub record HasFed (held : Option (List ℕ)) (waiting : List Item) (read : List ℕ) (ended : Bool) (found : List Item)
    : Type 0 where
  pub all : List Item
  pub rest : Option (List ℕ)
  pub feeds : Feeds (Some []) read all rest
  pub going : ended ≡ false → (held ≡ rest) × (all ≡ found ++ waiting)
  pub split : all ++ unended rest ≡ found ++ (waiting ++ unended held)
