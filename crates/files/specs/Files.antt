-- A file of requests: a CSV text whose first record is a header. The crate `csv` defines what the records of a text
-- are.
use Rattle.std.specs.Prelude.{◌≡◌, ◌≢◌, ◌⊎◌, ℕ, suc, List, [], ◌∷◌, ◌++◌, length}
use Rattle.csv.specs.Reading.{AreRecords, default_config, strip_bom}
use Rattle.csv.specs.declared.parser.State.TheVariants.{StartRecord}
use Rattle.words.specs.declared.command.Command.{Command}
use Rattle.words.specs.declared.command.Request.{Request}
use Rattle.files.specs.declared.fault.FileFault.{FileFault}
use Rattle.files.specs.declared.fault.FileFault.TheVariants.{BadRecord, Io, Memory}

-- a record: its values, as bytes
abbrev pub Record : Type 0
Record = List (List ℕ)

-- the request of that key and that command
abbrev pub under_key : List ℕ → Command → Request
under_key key command = record { key = key; command = command }

-- these are all the records of the text
abbrev pub AreRecordsOf : List ℕ → List Record → Type 0
AreRecordsOf bytes records = AreRecords default_config StartRecord (strip_bom bytes) records

-- The text is a file with this header, and the records behind it say these requests.
pub record IsFile (header : Record) (says : List Record → List Request → Type 0) (bytes : List ℕ)
    (requests : List Request) : Type 0 where
  pub rows : List Record
  pub records : AreRecordsOf bytes (header ∷ rows)
  pub said : says rows requests

-- the rows say requests, but with that row behind them they say none
pub record Breaks (says : List Record → List Request → Type 0) (rows : List Record) (row : Record) : Type 0 where
  pub requests : List Request
  pub so_far : says rows requests
  pub fault : (more : List Request) → says (rows ++ row ∷ []) more → ⊥

-- the first of the rows that is at fault has this number, counted from 1
pub record IsFirstBadRow (says : List Record → List Request → Type 0) (rows : List Record) (number : ℕ) : Type 0 where
  pub before : List Record
  pub row : Record
  pub after : List Record
  pub split : rows ≡ before ++ row ∷ after
  pub place : number ≡ suc (length before)
  pub breaks : Breaks says before row

-- The number of the first record at fault. The header has number 0, also where it is missing, and the records behind
-- it are counted from 1.
abbrev pub IsFirstBad : Record → (List Record → List Request → Type 0) → List Record → ℕ → Type 0
IsFirstBad header says [] number = number ≡ 0
IsFirstBad header says (first ∷ rows) number =
    ((first ≢ header) × (number ≡ 0)) ⊎ ((first ≡ header) × IsFirstBadRow says rows number)

-- where the fault names a record, it is the first at fault among these records
abbrev pub FaultsAt : Record → (List Record → List Request → Type 0) → List Record → FileFault → Type 0
FaultsAt header says records (BadRecord number) = IsFirstBad header says records number
FaultsAt header says records Memory = Unit {0}
FaultsAt header says records Io = Unit {0}

-- where a fault names a record, it is the first of the text that is at fault
abbrev pub NamesFirst : Record → (List Record → List Request → Type 0) → List ℕ → FileFault → Type 0
NamesFirst header says bytes fault =
    (records : List Record) × AreRecordsOf bytes records × FaultsAt header says records fault

-- Whatever the bytes, they say at most one list of requests, or have at most one first record at fault, and never both.
pub record SaysOneThing (header : Record) (says : List Record → List Request → Type 0) : Type 0 where
  pub requests : (bytes : List ℕ) (one other : List Request) → IsFile header says bytes one
      → IsFile header says bytes other → one ≡ other
  pub number : (bytes : List ℕ) (one other : ℕ) → NamesFirst header says bytes (BadRecord one)
      → NamesFirst header says bytes (BadRecord other) → one ≡ other
  pub apart : (bytes : List ℕ) (requests : List Request) (number : ℕ) → IsFile header says bytes requests
      → NamesFirst header says bytes (BadRecord number) → ⊥

-- nothing was taken in yet; or the header was, and behind it rows of which this holds
abbrev pub BeginsFile : Record → (List Record → Type 0) → List Record → Type 0
BeginsFile header holds [] = holds []
BeginsFile header holds (first ∷ rows) = (first ≡ header) × holds rows
