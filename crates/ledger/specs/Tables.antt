-- What the structs of rows hold, as cells.
use Rattle.std.specs.Prelude.{List, [], ◌∷◌, map, string_bytes}
use Rattle.ledger.specs.declared.rows.DeskRow.{DeskRow}
use Rattle.ledger.specs.declared.rows.FieldRow.{FieldRow}
use Rattle.ledger.specs.declared.rows.MoveRow.{MoveRow}
use Rattle.ledger.specs.declared.rows.OrderRow.{OrderRow}
use Rattle.ledger.specs.declared.rows.LineRow.{LineRow}
use Rattle.ledger.specs.declared.rows.KeptRow.{KeptRow}
use Rattle.ledger.specs.declared.rows.FirmRow.{FirmRow}
use Rattle.ledger.specs.declared.rows.Tables.{Tables}
use Rattle.ledger.specs.declared.rows.Change.{Change}
use Rattle.ledger.specs.declared.rows.Change.TheVariants as change
use Rattle.ledger.specs.Rows.{Content, DeskCells, FieldCells, FirmCells, KeptCells, LineCells, MoveCells, OrderCells}

abbrev pub desk_cells : DeskRow → DeskCells
desk_cells r = record { one = r.one; version = r.version; clock = r.clock; places = r.places }

abbrev pub field_cells : FieldRow → FieldCells
field_cells r =
    record {
      branch = string_bytes r.branch;
      article = string_bytes r.article;
      lo = r.lo;
      hi = r.hi;
      start = r.start;
      value = r.value;
      inf = r.inf;
      sup = r.sup;
    }

abbrev pub move_cells : MoveRow → MoveCells
move_cells r = record { place = r.place; branch = string_bytes r.branch; article = string_bytes r.article; qty = r.qty }

abbrev pub order_cells : OrderRow → OrderCells
order_cells r = record { number = r.number; kind = r.kind; until = r.until; state = r.state }

abbrev pub line_cells : LineRow → LineCells
line_cells r =
    record {
      number = r.number;
      nr = r.nr;
      branch = string_bytes r.branch;
      article = string_bytes r.article;
      way = r.way;
      held = r.held;
      used = r.used;
    }

abbrev pub kept_cells : KeptRow → KeptCells
kept_cells r = record { reqkey = string_bytes r.reqkey; place = r.place; words = string_bytes r.words }

abbrev pub firm_cells : FirmRow → FirmCells
firm_cells r = record { number = r.number }

-- what the tables hold
abbrev pub content_of : Tables → Content
content_of t = record {
  desk = desk_cells t.desk ∷ [];
  fields = map field_cells t.fields;
  moves = map move_cells t.moves;
  orders = map order_cells t.orders;
  lines = map line_cells t.lines;
  kept = map kept_cells t.kept;
  firms = map firm_cells t.firms;
}

abbrev pub no_content : Content
no_content = record { desk = []; fields = []; moves = []; orders = []; lines = []; kept = []; firms = [] }

-- the content with one row more, before the others of its table
abbrev pub with_change : Change → Content → Content
with_change (change.Desk r) C = record C { desk = desk_cells r ∷ C.desk }
with_change (change.Field r) C = record C { fields = field_cells r ∷ C.fields }
with_change (change.Move r) C = record C { moves = move_cells r ∷ C.moves }
with_change (change.Order r) C = record C { orders = order_cells r ∷ C.orders }
with_change (change.Line r) C = record C { lines = line_cells r ∷ C.lines }
with_change (change.Kept r) C = record C { kept = kept_cells r ∷ C.kept }
with_change (change.Firm r) C = record C { firms = firm_cells r ∷ C.firms }

-- the rows among the changes, table by table, in their order
abbrev pub rows_among : List Change → Content
rows_among [] = no_content
rows_among (c ∷ cs) = with_change c (rows_among cs)
