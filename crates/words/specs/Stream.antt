-- A stream of lines that comes in pieces. Of a line that has not ended, either its bytes are kept (`Some`), or only
-- the fact that they are more than a line may have (`None`).
use Rattle.std.specs.Prelude.{◌≡◌, ℕ, List, [], ◌∷◌, ◌++◌, Option, None, Some, if◌then◌else◌, length, nat_le}
use Rattle.words.specs.Items.{IsItem, longest_line}
use Rattle.words.specs.Words.{parts_at}
use Rattle.words.specs.declared.item.Item.{Item}
use Rattle.words.specs.declared.item.Item.TheVariants.{Bad}

-- what is kept of bytes that no newline ends
abbrev pub pending : List ℕ → Option (List ℕ)
pending bytes = if nat_le (length bytes) longest_line then Some bytes else None

-- what is kept of a line once these bytes have come behind it
abbrev pub extended : Option (List ℕ) → List ℕ → Option (List ℕ)
extended None bytes = None
extended (Some rest) bytes = pending (rest ++ bytes)

-- no newline stands in what is kept
abbrev pub HasNoNewline : Option (List ℕ) → Type 0
HasNoNewline old = (rest : List ℕ) → old ≡ Some rest → parts_at 10 rest ≡ rest ∷ []

-- the item of the line that ends with these bytes
abbrev pub EndsLine : Option (List ℕ) → List ℕ → Item → Type 0
EndsLine None bytes item = item ≡ Bad
EndsLine (Some rest) bytes item = IsItem (rest ++ bytes) item

-- the items of the lines among these parts, and what is kept of the last part
abbrev pub Ends : List (List ℕ) → List Item → Option (List ℕ) → Type 0
Ends [] items new = ⊥
Ends (last ∷ []) items new = (items ≡ []) × (new ≡ pending last)
Ends (line ∷ next ∷ parts) [] new = ⊥
Ends (line ∷ next ∷ parts) (item ∷ items) new = IsItem line item × Ends (next ∷ parts) items new

-- the same, with an item before those of the lines
abbrev pub EndsBehind : Item → List (List ℕ) → List Item → Option (List ℕ) → Type 0
EndsBehind first parts items new = (more : List Item) × (items ≡ first ∷ more) × Ends parts more new

-- The same where the first part goes on a line that is too long already: where that line ends, its item is `Bad`.
abbrev pub EndsOverlong : List (List ℕ) → List Item → Option (List ℕ) → Type 0
EndsOverlong [] items new = ⊥
EndsOverlong (last ∷ []) items new = (items ≡ []) × (new ≡ None)
EndsOverlong (line ∷ next ∷ parts) items new = EndsBehind Bad (next ∷ parts) items new

-- A piece has come behind what was kept: these are the items of the lines that end in the two joined, and this is
-- kept then.
abbrev pub Feeds : Option (List ℕ) → List ℕ → List Item → Option (List ℕ) → Type 0
Feeds None piece items new = EndsOverlong (parts_at 10 piece) items new
Feeds (Some rest) piece items new = Ends (parts_at 10 (rest ++ piece)) items new
