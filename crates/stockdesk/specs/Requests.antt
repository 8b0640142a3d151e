-- What a desk does with a file of requests.
use Rattle.std.specs.Prelude.{◌≡◌, ◌⊎◌, ◌↔◌, ◌++◌, ℕ, List, Option, IfSome}
use Rattle.std.specs.declared.num.NonZeroUsize.{NonZeroUsize}
use Rattle.std.specs.Io.KnownBytes.{Appends, Keeps}
use Rattle.ledger.specs.Ledger.{Ledger}
use Rattle.words.specs.declared.command.Request.{Request}
use Rattle.desk.specs.Desk.{DeskState}
use Rattle.desk.specs.Lists.{IsCutInLists}
use Rattle.desk.specs.Script.{WritesLines}
use Rattle.desk.specs.Streams.{Streams}
use Rattle.desk.specs.Text.{items_of}
use Rattle.files.specs.Bounds.{SayBounds, bounds_header}
use Rattle.files.specs.Deliveries.{SayDeliveries, delivery_header}
use Rattle.files.specs.Files.{IsFile, NamesFirst}
use Rattle.files.specs.Orders.{SayOrders, order_header}
use Rattle.files.specs.declared.fault.FileFault.{FileFault}
use Rattle.stockdesk.specs.Outside.{Paths}
use Rattle.stockdesk.specs.Sessions.{IsBadFile, IsCutAs}
use Rattle.command_line.specs.declared.work.Kind.{Kind}
use Rattle.command_line.specs.declared.work.Kind.TheVariants.{Bounds, Deliveries, Orders}
use Rattle.stockdesk.specs.declared.session.Fault.{Fault}

-- ---- the file

-- the bytes are a file of that kind, and say these requests
abbrev pub IsFileOf : Kind → List ℕ → List Request → Type 0
IsFileOf Orders bytes requests = IsFile order_header SayOrders bytes requests
IsFileOf Deliveries bytes requests = IsFile delivery_header SayDeliveries bytes requests
IsFileOf Bounds bytes requests = IsFile bounds_header SayBounds bytes requests

-- where a fault names a record, it is the first at fault in a file of that kind
abbrev pub NamesFirstOf : Kind → List ℕ → FileFault → Type 0
NamesFirstOf Orders bytes fault = NamesFirst order_header SayOrders bytes fault
NamesFirstOf Deliveries bytes fault = NamesFirst delivery_header SayDeliveries bytes fault
NamesFirstOf Bounds bytes fault = NamesFirst bounds_header SayBounds bytes fault

-- a fault of the file becomes this fault of the program
pub record IsFileFault (cause : FileFault) (fault : Fault) : Type 0 where
  pub record_at_fault : (number : ℕ) → fault ≡ Fault.BadRecord number ↔ cause ≡ FileFault.BadRecord number
  pub memory : fault ≡ Fault.Memory ↔ cause ≡ FileFault.Memory
  pub reading : fault ≡ Fault.Csv ↔ cause ≡ FileFault.Io

-- the file that opened at the path is of that kind, and says these requests
abbrev pub IsFileAt : {C : Type 0} → Paths C → Kind → List ℕ → List Request → Type 0
IsFileAt {C} files kind path requests =
    (file : C) × files.opens path file × IfSome (files.remaining file) (λ bytes. IsFileOf kind bytes requests)

-- where a fault names a record, it is the first at fault in the file that opened at the path, which is of that kind
abbrev pub BlamesFileAt : {C : Type 0} → Paths C → Kind → List ℕ → Fault → Type 0
BlamesFileAt {C} files kind path fault = (number : ℕ) → fault ≡ Fault.BadRecord number
    → (file : C) × files.opens path file
    × IfSome (files.remaining file) (λ bytes. NamesFirstOf kind bytes (FileFault.BadRecord number))

-- ---- answers

-- the requests are answered in the form of script replies
abbrev pub RequestsAnswered : List Request → Ledger → Ledger → Streams → Type 0
RequestsAnswered requests first last s = WritesLines first (items_of requests) last s.writer_old s.writer_new

-- the file was not read, and nothing is done or written
abbrev pub FileUnread : Fault → (old new : DeskState) → Streams → Type 0
FileUnread fault old new s = ((fault ≡ Fault.Memory) ⊎ IsBadFile fault) × (new.ledger ≡ old.ledger)
    × Keeps s.writer_old s.writer_new

-- the file was not read, and nothing is done; or these are its requests, and the answers to them are cut
abbrev pub FileCut : (AreIts : List Request → Type 0) → Option NonZeroUsize → Fault → (old new : DeskState) → Streams
    → Type 0
FileCut AreIts together fault old new s = FileUnread fault old new s
    ⊎ ((requests : List Request) × AreIts requests × IsCutAs fault (λ cause.
    (cut : IsCutInLists cause together old requests new)
    × Appends s.writer_old s.writer_new (cut.lines ++ cut.begun)))
