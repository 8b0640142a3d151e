-- What an opening finds after a stop: the headline.
use Rattle.std.specs.Prelude.{◌≡◌, ◌≢◌, ◌↔◌, ◌≤◌, ◌+◌, ◌++◌, IfSome, IsTrue, false, ℕ, List, [], ◌∷◌, Option, Result}
use Rattle.std.specs.Prelude.{drop, flat_map, length, take}
use Rattle.std.specs.Io.KnownBytes.{Consumes}
use Rattle.words.specs.declared.command.Request.{Request}
use Rattle.words.specs.declared.item.Item.{Item}
use Rattle.words.specs.declared.reply.Reply.{Reply}
use Rattle.ledger.specs.Answers.{After, Runs}
use Rattle.ledger.specs.Good.{Good}
use Rattle.ledger.specs.Ledger.{Ledger}
use Rattle.ledger.specs.Rows.{Content, IsRowsOf}
use Rattle.keep.specs.Content.{IsAmong}
use Rattle.keep.specs.declared.keep.Keep.{Ghosts}
use Rattle.desk.specs.Desk.{DeskView, Goes}
use Rattle.desk.specs.Opening.{keeper_after}
use Rattle.desk.specs.Script.{Writes}
use Rattle.desk.specs.Streams.{Streams}
use Rattle.desk.specs.Text.{AreItems, RepliesAll, items_of}
use Rattle.desk.specs.declared.fault.OpenFault.{OpenFault}
use Rattle.desk.specs.declared.run.Ending.TheVariants.{All, Stopped}
use Rattle.desk.specs.declared.run.Run.{Run}

-- how many requests a run has answered
abbrev pub answered : Run → ℕ
answered run = length run.replies.items

-- the replies are the model's to the first of the requests, one to each, and the lines are those of the replies; the
-- run ended `All` exactly where every request is answered
pub record IsRunOf (A : Ledger) (requests : List Request) (run : Run) : Type 0 where
  pub last : Ledger
  pub replies : Runs A (take (answered run) requests) run.replies.items last
  pub lines : RepliesAll A (items_of (take (answered run) requests)) run.lines.items last
  pub all : run.ending ≡ All ↔ answered run ≡ length requests

-- the keeper is stopped where the run ended `Stopped`, and goes on where it ended otherwise
pub record TellsEnding {K : Type 0} (g : Ghosts K) (run : Run) (keep : K) : Type 0 where
  pub stopped : run.ending ≡ Stopped → IsTrue (g.stopped keep)
  pub going : run.ending ≢ Stopped → g.stopped keep ≡ false

-- A desk that was found at some good ledger has gone on with these requests.
pub record GoesOnWith {K : Type 0} (g : Ghosts K) (requests : List Request) (run : Run) (desk : DeskView K)
    : Type 0 where
  pub found : Ledger
  pub good_found : Good found
  pub is_run : IsRunOf found requests run
  pub behind : desk.ledger ≡ is_run.last
  pub good : Good desk.ledger
  pub ending : TellsEnding g run desk.keep

-- B is the ledger after a prefix of the requests that holds every one which the run has answered. At most one more is
-- done, and that only where the run ended `Stopped`.
pub record IsFoundAfter (A : Ledger) (requests : List Request) (run : Run) (B : Ledger) : Type 0 where
  pub done : ℕ
  pub none_lost : answered run ≤ done
  pub one_more : done ≤ answered run + 1
  pub none_unasked : done ≤ length requests
  pub all_told : run.ending ≢ Stopped → done ≡ answered run
  pub after : After A requests done B

-- from each list of all that a stop could leave before, a stop now leaves one content and nothing else
abbrev pub LeavesOneOf : (before after : List Content → Type 0) → Type 0
LeavesOneOf before after =
    (these : List Content) → before these → ∥ ((x : Content) × IsAmong these x × after (x ∷ [])) ∥₁

-- B is the ledger after a prefix of the items. The prefix holds every item whose reply line was written whole, since
-- what was written is a beginning of the reply lines to the prefix. At most `most` items more are done.
pub record IsFoundAfterItems (most : ℕ) (A : Ledger) (items : List Item) (written : List ℕ) (B : Ledger)
    : Type 0 where
  -- what was written is the reply lines to the first `told` items, and perhaps a beginning behind them
  pub told : ℕ
  pub mid : Ledger
  pub lines : List ℕ
  pub begun : List ℕ
  pub replies : RepliesAll A (take told items) lines mid
  pub written_are : written ≡ lines ++ begun
  -- the first `done` items are done
  pub done : ℕ
  pub none_lost : told ≤ done
  pub few_more : done ≤ told + most
  pub none_unasked : done ≤ length items
  pub unwritten : List ℕ
  pub after : RepliesAll A (take done items) (written ++ unwritten) B

-- B is the ledger after such a prefix of the lines that were read
abbrev pub IsFoundAfterLines : Ledger → Streams → Ledger → Type 0
IsFoundAfterLines A s B =
    (read : List ℕ) × (items : List Item) × Consumes s.reader_old s.reader_new read × AreItems read items
    × Writes s.writer_old s.writer_new (λ written. IsFoundAfterItems 1 A items written B)

-- A desk has gone on to `last` and is cut off there. Where the disk is honest, a stop behind the opening leaves one
-- of the contents that a stop of the keeper of `last` could leave.
pub record IsCutOff {K : Type 0} (g : Ghosts K) (desk last : DeskView K)
    (opened : Option (Result (DeskView K) (OpenFault × K))) : Type 0 where
  pub goes : Goes g desk last
  pub opens : IfSome opened (λ r. g.is_honest (keeper_after r)
      → g.is_honest last.keep × LeavesOneOf (g.leaves last.keep) (g.leaves (keeper_after r)))

-- a stop leaves nothing but the rows of good ledgers of this kind
pub record LeavesRowsOf (leaves : List Content → Type 0) (Is : Ledger → Type 0) : Type 0 where
  pub these : List Content
  pub leaves_these : leaves these
  pub are_rows : (x : Content) → IsAmong these x → (A : Ledger) × Good A × IsRowsOf A x × Is A

-- A run that is cut again and again: each part begins at the ledger that was found, with the first request that has
-- no reply. B is the ledger that is found after the last part.
abbrev pub IsFoundAfterCuts : Ledger → List Request → List Run → Ledger → Type 0
IsFoundAfterCuts A requests [] B = B ≡ A
IsFoundAfterCuts A requests (run ∷ runs) B = (M : Ledger) × IsRunOf A requests run
    × IsFoundAfter A requests run M × IsFoundAfterCuts M (drop (answered run) requests) runs B

-- the replies of all parts, and their lines
abbrev pub all_replies : List Run → List Reply
all_replies runs = flat_map (λ run. run.replies.items) runs

abbrev pub all_lines : List Run → List ℕ
all_lines runs = flat_map (λ run. run.lines.items) runs
