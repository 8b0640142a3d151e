-- Requests that are answered in lists: one by one, or many together in a batch.
use Rattle.std.specs.Prelude.{◌≡◌, ◌≢◌, ◌≤◌, ◌+◌, ◌*◌, ◌++◌, IsTrue, false, ℕ, List, [], None, Option, Some, length, take}
use Rattle.std.specs.Int.NonZero.{non_zero_usize_get}
use Rattle.std.specs.Vec.{vec_capacity, vec_len}
use Rattle.std.specs.declared.num.NonZeroUsize.{NonZeroUsize}
use Rattle.words.specs.declared.command.Request.{Request}
use Rattle.words.specs.declared.reply.Reply.{Reply}
use Rattle.ledger.specs.Ledger.{Ledger}
use Rattle.desk.specs.Desk.{DeskState, HasAccepted, LeavesEither, TellsStop}
use Rattle.desk.specs.Headline.{answered}
use Rattle.desk.specs.Text.{RepliesAll, items_of}
use Rattle.desk.specs.Together.{IsBatch}
use Rattle.desk.specs.declared.fault.ScriptFault.{ScriptFault}
use Rattle.desk.specs.declared.reply.TheConstants.{LONGEST_LINE}
use Rattle.desk.specs.declared.run.Ending.TheVariants as ending
use Rattle.desk.specs.declared.run.Run.{Run}

-- how many requests are carried out at once, at the most: the given number, or one where none is given
abbrev pub most_together : Option NonZeroUsize → ℕ
most_together None = 1
most_together (Some most) = non_zero_usize_get most

-- the ledger that a desk shows once the store has stopped it: the one before the request, or the one behind the batch
abbrev pub shown_stopped : Option NonZeroUsize → (before behind : Ledger) → Ledger
shown_stopped None before behind = before
shown_stopped (Some most) before behind = behind

-- How far the answers to requests have come at a fault. What is written is `lines ++ begun`: the lines of `answered`
-- are written whole. Behind these may stand a request, or a batch, `last`. Either it is kept, and a beginning of its
-- lines is written; or the store failed at its commit, and over an honest disk a stop leaves the rows before it or
-- those behind it. Where memory was refused, the line of every request that is done is written.
pub record IsCutInLists (fault : ScriptFault) (together : Option NonZeroUsize) (old : DeskState) (requests : List Request)
    (new : DeskState) : Type 0 where
  pub answered : List Request
  pub last : List Request
  pub left : List Request
  pub split : requests ≡ answered ++ last ++ left
  pub few : length last ≤ most_together together
  pub before : Ledger
  pub behind : Ledger
  pub lines : List ℕ
  pub begun : List ℕ
  pub unwritten : List ℕ
  pub replies : RepliesAll old.ledger (items_of answered) lines before
  pub rest : RepliesAll before (items_of last) (begun ++ unwritten) behind
  pub batch : (untold : List Reply) × IsBatch before last untold behind
  pub shown : fault ≢ ScriptFault.Stopped → new.ledger ≡ behind
  pub unread : fault ≢ ScriptFault.Read
  pub told : fault ≢ ScriptFault.Write → begun ≡ []
  pub memory : fault ≡ ScriptFault.Memory → last ≡ []
  pub stop : TellsStop (fault ≡ ScriptFault.Stopped) old new
  pub stopped : fault ≡ ScriptFault.Stopped → old.is_stopped ≡ false
      → HasAccepted before last × (new.ledger ≡ shown_stopped together before behind)
      × (new.is_honest → LeavesEither new.leaves before behind)
  pub refused : IsTrue old.is_stopped
      → (fault ≡ ScriptFault.Stopped) × (answered ++ last ≡ []) × (1 ≤ length left)

-- ---- how a list is carried out (private)

-- there is room for so many replies more, and for their lines
abbrev pub HasRoom : ℕ → Run → Type 0
HasRoom count run = (vec_len run.replies + count ≤ vec_capacity run.replies)
    × (vec_len run.lines + count * LONGEST_LINE ≤ vec_capacity run.lines)

-- the store failed at the commit of the first `count` requests
pub record StopsIn (together : Option NonZeroUsize) (old : DeskState) (requests : List Request) (new : DeskState)
    : Type 0 where
  pub count : ℕ
  pub none_unasked : count ≤ length requests
  pub behind : Ledger
  pub untold : List Reply
  pub batch : IsBatch old.ledger (take count requests) untold behind
  pub accepted : HasAccepted old.ledger (take count requests)
  pub shown : new.ledger ≡ shown_stopped together old.ledger behind
  pub either : new.is_honest → LeavesEither new.leaves old.ledger behind

-- the first of the requests are carried out, and these are their lines; or the store failed
pub record RunsList (together : Option NonZeroUsize) (old : DeskState) (requests : List Request) (run : Run)
    (new : DeskState) : Type 0 where
  pub none_unasked : answered run ≤ length requests
  pub some : run.ending ≡ ending.All → 1 ≤ answered run
  pub batch : run.ending ≢ ending.Stopped
      → (told : List Reply) × IsBatch old.ledger (take (answered run) requests) told new.ledger
  pub lines : run.ending ≢ ending.Stopped
      → RepliesAll old.ledger (items_of (take (answered run) requests)) run.lines.items new.ledger
  pub stopped : run.ending ≡ ending.Stopped → StopsIn together old requests new
  pub stop : TellsStop (run.ending ≡ ending.Stopped) old new
