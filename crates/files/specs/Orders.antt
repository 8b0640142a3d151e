-- An order file: neighbouring records with one key are one order, a line each.
use Rattle.std.specs.Prelude.{◌≡◌, ◌≢◌, ⊤, ℕ, List, [], ◌∷◌, ◌++◌, codes, decimal, map}
use Rattle.escrow.specs.Codes.{IsKey}
use Rattle.escrow.specs.Ranges.{IsMoment, IsOrderNo}
use Rattle.words.specs.OpenLines.{AreOpenLines, line_words}
use Rattle.words.specs.declared.command.Command.TheVariants.{Open}
use Rattle.words.specs.declared.command.Request.{Request}
use Rattle.words.specs.declared.open_line.OpenLine.{OpenLine}
use Rattle.files.specs.Files.{Record}

abbrev pub order_header : Record
order_header =
    codes "key" ∷ codes "order" ∷ codes "until" ∷ codes "way" ∷ codes "branch" ∷ codes "article" ∷ codes "qty" ∷ []

-- the record of one order line: the key, and the words of an `open` with this line
abbrev pub order_row : List ℕ → ℕ → ℕ → OpenLine → Record
order_row key number until line = key ∷ decimal number ∷ decimal until ∷ line_words (line ∷ [])

-- the records say this order: one record for each of its 1 to 64 lines, each with the order's key, number and end
pub record IsOrder (rows : List Record) (request : Request) : Type 0 where
  pub number : ℕ
  pub until : ℕ
  pub lines : List OpenLine
  pub command : request.command ≡ Open number until lines
  pub key_form : IsKey request.key
  pub number_range : IsOrderNo number
  pub until_range : IsMoment until
  pub lines_form : AreOpenLines lines
  pub records : rows ≡ map (order_row request.key number until) lines

-- the first of these requests, if there is one, has another key
abbrev pub IsOtherKey : List ℕ → List Request → Type 0
IsOtherKey key [] = ⊤
IsOtherKey key (next ∷ requests) = next.key ≢ key

-- The records are those of the orders, one order after the other, and neighbouring orders have different keys.
abbrev pub SayOrders : List Record → List Request → Type 0
SayOrders rows [] = rows ≡ []
SayOrders rows (request ∷ requests) =
    (first : List Record) × (rest : List Record) × (rows ≡ first ++ rest) × IsOrder first request
    × IsOtherKey request.key requests × SayOrders rest requests
