-- A stock sheet of a desk, and how it is written.
use Rattle.std.specs.Prelude.{◌≡◌, ◌≤◌, ◌⊎◌, ℕ, List, [], Option, length, take}
use Rattle.std.specs.Io.KnownBytes.{Appends}
use Rattle.ledger.specs.Ledger.{Ledger}
use Rattle.files.specs.Sheets.{IsArticleSheet, IsBranchSheet}
use Rattle.stockdesk.specs.declared.session.Fault.{Fault}
use Rattle.command_line.specs.declared.work.SheetOf.{SheetOf}
use Rattle.command_line.specs.declared.work.SheetOf.TheVariants.{Article, Branch}

-- the text is the sheet of that branch or article
abbrev pub IsSheet : SheetOf → Ledger → List ℕ → Type 0
IsSheet (Branch branch) A text = IsBranchSheet A branch text
IsSheet (Article article) A text = IsArticleSheet A article text

-- the sheet of the ledger was written
abbrev pub SheetWritten : SheetOf → Ledger → (writer_old writer_new : Option (List ℕ)) → Type 0
SheetWritten of A writer_old writer_new =
    (text : List ℕ) × IsSheet of A text × Appends writer_old writer_new text

-- a beginning of the sheet of the ledger was written
abbrev pub SheetBegun : SheetOf → Ledger → (writer_old writer_new : Option (List ℕ)) → Type 0
SheetBegun of A writer_old writer_new =
    (text : List ℕ) × (count : ℕ) × IsSheet of A text × (count ≤ length text)
    × Appends writer_old writer_new (take count text)

-- memory was refused, and nothing written; or a write failed, and a beginning was written
abbrev pub SheetCut : SheetOf → Fault → Ledger → (writer_old writer_new : Option (List ℕ)) → Type 0
SheetCut of fault A writer_old writer_new =
    ((fault ≡ Fault.Memory) × Appends writer_old writer_new []) ⊎ ((fault ≡ Fault.Write)
    × SheetBegun of A writer_old writer_new)
