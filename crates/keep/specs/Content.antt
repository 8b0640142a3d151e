-- What a keeper holds: the content of a desk's seven tables.
use Rattle.std.specs.Prelude.{◌≡◌, ◌⊎◌, ℕ, ℤ, pos, List, [], ◌∷◌}
use Rattle.ledger.specs.declared.limits.TheConstants.{SCHEMA_VERSION}
use Rattle.ledger.specs.declared.rows.Change.{Change}
use Rattle.ledger.specs.Changes.{put_content}
use Rattle.ledger.specs.Rows.{Content, DeskCells}
use Rattle.ledger.specs.Tables.{rows_among}

-- the element is one of the list
abbrev pub IsAmong : {X : Type 0} → List X → X → Type 0
IsAmong [] x = ⊥
IsAmong (y ∷ ys) x = (x ≡ y) ⊎ IsAmong ys x

-- the newest version of the tables, which is written here
abbrev pub newest : ℕ
newest = SCHEMA_VERSION

-- the row of `desk` has that version
abbrev pub IsVersion : ℤ → DeskCells → Type 0
IsVersion version row = row.version ≡ version

-- there is one row, of that version
abbrev pub IsOneRow : ℤ → List DeskCells → Type 0
IsOneRow version rows = (row : DeskCells) × (rows ≡ row ∷ []) × IsVersion version row

-- the table `desk` has one row, of the newest version
abbrev pub IsDesk : Content → Type 0
IsDesk x = IsOneRow (pos newest) x.desk

-- a row that may be put into `desk`: it is the one row, of the newest version
abbrev pub IsTheRow : DeskCells → Type 0
IsTheRow row = (row.one ≡ pos 1) × IsVersion (pos newest) row

abbrev pub new_row : DeskCells
new_row = record { one = pos 1; version = pos newest; clock = pos 0; places = pos 0 }

-- a new desk: its clock is 0, it has accepted nothing, and no other table has a row
abbrev pub new_content : Content
new_content = record { desk = new_row ∷ []; fields = []; moves = []; orders = []; lines = []; kept = []; firms = [] }

-- the content with the rows of the changes put in by their keys
abbrev pub with_changes : List Change → Content → Content
with_changes changes x = put_content (rows_among changes) x
