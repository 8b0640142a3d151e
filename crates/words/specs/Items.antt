-- What a line of a script says.
use Rattle.std.specs.Prelude.{◌≡◌, ◌⊎◌, ℕ, ◌≤◌, List, [], ◌∷◌, codes, decimal, length}
use Rattle.escrow.specs.Codes.{IsArticle, IsBranch, IsKey}
use Rattle.escrow.specs.Ranges.{IsOrderNo}
use Rattle.words.specs.Spelling.{IsInRange, IsOpening, command_words}
use Rattle.words.specs.Words.{spaced}
use Rattle.words.specs.declared.command.Request.{Request as RequestOf}
use Rattle.words.specs.declared.item.Item.{Item}
use Rattle.words.specs.declared.item.Item.TheVariants.{AskField, AskOrder, Bad, Request}

-- the greatest length of a line, as a number, so that the prover refuses another limit in the code
abbrev pub longest_line : ℕ
longest_line = 4096

-- a key, a space and a command
abbrev pub IsRequest : List ℕ → RequestOf → Type 0
IsRequest line r = IsKey r.key × IsInRange r.command × (line ≡ spaced (r.key ∷ command_words r.command))

-- a key, a space and what begins as an `open` does
abbrev pub IsOpeningLine : List ℕ → Type 0
IsOpeningLine line = (key : List ℕ) × (rest : List ℕ) × IsKey key × IsOpening rest × (line ≡ spaced (key ∷ rest ∷ []))

-- memory may be wanted for the line: it is a request, or a key with what begins as an `open` does behind it
abbrev pub MayWantMemory : List ℕ → Type 0
MayWantMemory line = ((r : RequestOf) × IsRequest line r) ⊎ IsOpeningLine line

-- what the line says
abbrev pub Says : List ℕ → Item → Type 0
Says line (Request r) = IsRequest line r
Says line (AskField b a) = IsBranch b × IsArticle a × (line ≡ spaced (codes "?" ∷ codes "field" ∷ b ∷ a ∷ []))
Says line (AskOrder n) = IsOrderNo n × (line ≡ spaced (codes "?" ∷ codes "order" ∷ decimal n ∷ []))
Says line Bad = ⊥

-- The line is the item that it says. A line that says nothing, or is longer than a line may be, is bad.
abbrev pub IsItem : List ℕ → Item → Type 0
IsItem line (Request r) = (length line ≤ longest_line) × Says line (Request r)
IsItem line (AskField b a) = (length line ≤ longest_line) × Says line (AskField b a)
IsItem line (AskOrder n) = (length line ≤ longest_line) × Says line (AskOrder n)
IsItem line Bad = (item : Item) → length line ≤ longest_line → Says line item → ⊥
