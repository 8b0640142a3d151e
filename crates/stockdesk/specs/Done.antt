-- What the program does for a task, by what it reads and writes.
use Rattle.std.specs.Prelude.{◌≡◌, ◌⊎◌, ℕ, List, [], ◌++◌}
use Rattle.std.specs.Io.KnownBytes.{Appends, Keeps}
use Rattle.ledger.specs.Good.{Good}
use Rattle.ledger.specs.Ledger.{Ledger, new_ledger}
use Rattle.clap.specs.Words.{Text, subcommand_of}
use Rattle.desk.specs.Streams.{IsSilent, Streams}
use Rattle.desk.specs.Text.{RepliesAll, items_of}
use Rattle.words.specs.declared.command.Request.{Request}
use Rattle.words.specs.declared.item.Item.{Item}
use Rattle.stockdesk.specs.Connections.{PortBegun, PortTold}
use Rattle.stockdesk.specs.Requests.{RequestsAnswered}
use Rattle.stockdesk.specs.Runs.{AnswersText, BeginsText}
use Rattle.stockdesk.specs.Sheets.{SheetBegun, SheetWritten}
use Rattle.command_line.specs.Tasks.{Asks, stockdesk}
use Rattle.command_line.specs.declared.work.SheetOf.{SheetOf}
use Rattle.command_line.specs.declared.tasks.Task.{Task}
use Rattle.command_line.specs.declared.tasks.Task.TheVariants.{InFile, InMemory, Init, Roll, Upgrade}
use Rattle.command_line.specs.declared.work.Work.{Work}
use Rattle.command_line.specs.declared.work.Work.TheVariants.{Requests, Script, Serve, ServeAtOnce, Sheet}

-- ---- replies to requests

-- the replies of the desk of some good ledger to some requests were written
abbrev pub PrintsReplies : Streams → Type 0
PrintsReplies s = (first : Ledger) × (last : Ledger) × (requests : List Request) × Good first
    × RequestsAnswered requests first last s

-- a beginning of the replies to the first of some requests was written
pub record PrintsRepliesInPart (s : Streams) : Type 0 where
  pub first : Ledger
  pub last : Ledger
  pub requests : List Request
  pub answered : List Item
  pub left : List Item
  pub written : List ℕ
  pub unwritten : List ℕ
  pub good : Good first
  pub split : items_of requests ≡ answered ++ left
  pub replies : RepliesAll first answered (written ++ unwritten) last
  pub writes : Appends s.writer_old s.writer_new written

-- ---- sheets

-- the sheet of some good ledger was written
abbrev pub PrintsSheet : SheetOf → Streams → Type 0
PrintsSheet of s = (A : Ledger) × Good A × SheetWritten of A s.writer_old s.writer_new

-- nothing, or a beginning of the sheet of some good ledger was written
abbrev pub PrintsSheetInPart : SheetOf → Streams → Type 0
PrintsSheetInPart of s = Appends s.writer_old s.writer_new []
    ⊎ ((A : Ledger) × Good A × SheetBegun of A s.writer_old s.writer_new)

-- ---- work on the desk of some good ledger

-- the work is done
abbrev pub DoesWork : Work → Streams → Type 0
DoesWork Script s = (first : Ledger) × Good first × AnswersText first s
DoesWork (Requests kind csv together) s = Keeps s.reader_old s.reader_new × PrintsReplies s
DoesWork (Sheet of) s = Keeps s.reader_old s.reader_new × PrintsSheet of s
DoesWork (Serve service) s = Keeps s.reader_old s.reader_new × PortTold s.writer_old s.writer_new
DoesWork (ServeAtOnce service at_once) s = Keeps s.reader_old s.reader_new × PortTold s.writer_old s.writer_new

-- the work is done in part: what was written is a beginning
abbrev pub DoesWorkInPart : Work → Streams → Type 0
DoesWorkInPart Script s = (first : Ledger) × Good first × BeginsText first s
DoesWorkInPart (Requests kind csv together) s = Keeps s.reader_old s.reader_new × PrintsRepliesInPart s
DoesWorkInPart (Sheet of) s = Keeps s.reader_old s.reader_new × PrintsSheetInPart of s
DoesWorkInPart (Serve service) s = Keeps s.reader_old s.reader_new × PortBegun s.writer_old s.writer_new
DoesWorkInPart (ServeAtOnce service at_once) s = Keeps s.reader_old s.reader_new × PortBegun s.writer_old s.writer_new

-- ---- tasks

-- the task is done
abbrev pub Does : Task → Streams → Type 0
Does (Init path) s = IsSilent s
Does (Upgrade path) s = IsSilent s
Does (Roll roll_over) s = IsSilent s
Does InMemory s = AnswersText new_ledger s
Does (InFile path work) s = DoesWork work s

-- the task is done in part: what was written is a beginning
abbrev pub DoesInPart : Task → Streams → Type 0
DoesInPart (Init path) s = IsSilent s
DoesInPart (Upgrade path) s = IsSilent s
DoesInPart (Roll roll_over) s = IsSilent s
DoesInPart InMemory s = BeginsText new_ledger s
DoesInPart (InFile path work) s = DoesWorkInPart work s

-- the words ask for a task, and it is done
abbrev pub DoesAsked : List Text → Streams → Type 0
DoesAsked words s = (task : Task) × Asks (subcommand_of stockdesk words) task × Does task s

-- nothing is read or written; or the words ask for a task, and it is done in part
abbrev pub DoesAskedInPart : List Text → Streams → Type 0
DoesAskedInPart words s =
    IsSilent s ⊎ ((task : Task) × Asks (subcommand_of stockdesk words) task × DoesInPart task s)
