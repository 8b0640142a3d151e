-- How an order file is read: row by row, where the last order may get further lines.
use Rattle.std.specs.Prelude.{◌≡◌, ◌<◌, length, List, [], ◌∷◌, ◌++◌, Option, None, Some}
use Rattle.escrow.specs.Codes.{IsKey}
use Rattle.escrow.specs.Ranges.{IsMoment, IsOrderNo}
use Rattle.words.specs.OpenLines.{IsOpenLine, most_lines}
use Rattle.words.specs.declared.command.Command.TheVariants.{Open}
use Rattle.words.specs.declared.command.Request.{Request}
use Rattle.words.specs.declared.open_line.OpenLine.{OpenLine}
use Rattle.files.specs.Files.{Record}
use Rattle.files.specs.Orders.{SayOrders, order_row}
use Rattle.files.specs.declared.orders.OpenOrder.{OpenOrder}
use Rattle.files.specs.declared.orders.Row.{Row}

-- the record says this order line
pub record IsRow (fields : Record) (row : Row) : Type 0 where
  pub key_form : IsKey row.key
  pub number_range : IsOrderNo row.number
  pub until_range : IsMoment row.until
  pub line_form : IsOpenLine row.line
  pub fields_are : fields ≡ order_row row.key row.number row.until row.line

-- the order that one row begins
abbrev pub order_of_row : Row → OpenOrder
order_of_row row = record { key = row.key; number = row.number; until = row.until; lines = row.line ∷ [] }

-- the order with one line more
abbrev pub with_line : OpenOrder → OpenLine → OpenOrder
with_line o line = record o { lines = o.lines ++ line ∷ [] }

-- The row, under the order's key, is one more line of the order: it has the order's number and end, and one line more
-- fits.
abbrev pub Continues : OpenOrder → Row → Type 0
Continues o row = (row.number ≡ o.number) × (row.until ≡ o.until) × (length o.lines < most_lines)

-- the order as a request
abbrev pub request_of : OpenOrder → Request
request_of o = record { key = o.key; command = Open o.number o.until o.lines }

-- the rows say the requests that are done and, behind them, the order that may get further lines; before the first
-- row there is none
abbrev pub TookRows : List Request → Option OpenOrder → List Record → Type 0
TookRows done None rows = (done ≡ []) × (rows ≡ [])
TookRows done (Some o) rows = SayOrders rows (done ++ request_of o ∷ [])

-- the requests that are done, and behind them the order that may get further lines
abbrev pub requests_of : List Request → Option OpenOrder → List Request
requests_of done None = done
requests_of done (Some o) = done ++ request_of o ∷ []
