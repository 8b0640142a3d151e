-- What the rows of tables say: each row gives an entry, and the rows of orders and of lines together give the orders.
use Rattle.std.specs.Prelude.{ℕ, ◌+◌, ◌+ℤ◌, ◌-ℤ◌, ◌≤◌, ◌≡◌, ◌≢◌, pos, nat_abs, nat_eq, List, [], ◌∷◌, length, map}
use Rattle.std.specs.Prelude.{flat_map, if◌then◌else◌, string_bytes, IsSomeAnd, IsTrue, Option}
use Rattle.std.specs.Ordering.{nat_cmp}
use Rattle.std.specs.Cmp.Lexicographic.{slice_cmp}
use Rattle.std.specs.List.Sorted.{IsStrictlySortedBy}
use Rattle.std.specs.Map.{keys_of}
use Rattle.std.specs.List.{AllByRecursion as Each, IsDistinct}
use Rattle.escrow.specs.Codes.{IsArticle, IsBranch, IsKey}
use Rattle.escrow.specs.Ranges.{IsLevel, IsMoment, IsOrderNo, IsQty}
use Rattle.escrow.specs.Stock.{Stock}
use Rattle.words.specs.Spelling.{IsInRange}
use Rattle.words.specs.declared.limits.TheConstants.{MAX_ORDER_LINES}
use Rattle.ledger.specs.declared.limits.TheConstants.{MAX_FIELDS, MAX_ORDERS, MAX_PLACES}
use Rattle.book.specs.declared.book.tables.Entries.{Entries}
use Rattle.book.specs.declared.book.tables.group.Head.{Head}
use Rattle.book.specs.declared.book.tables.sums.Numbers.{Numbers}
use Rattle.book.specs.declared.book.FieldEntry.{FieldEntry}
use Rattle.book.specs.declared.book.KeptEntry.{KeptEntry}
use Rattle.book.specs.declared.book.MoveEntry.{MoveEntry}
use Rattle.ledger.specs.declared.order.State.TheVariants.{Aborted}
use Rattle.ledger.specs.declared.order.Line.{Line}
use Rattle.ledger.specs.declared.rows.FieldRow.{FieldRow}
use Rattle.ledger.specs.declared.rows.FirmRow.{FirmRow}
use Rattle.ledger.specs.declared.rows.KeptRow.{KeptRow}
use Rattle.ledger.specs.declared.rows.LineRow.{LineRow}
use Rattle.ledger.specs.declared.rows.MoveRow.{MoveRow}
use Rattle.ledger.specs.declared.rows.OrderRow.{OrderRow}
use Rattle.ledger.specs.Good.{Good, IsGoodField, IsGoodKept, IsTransferPair}
use Rattle.ledger.specs.Ledger.{Ledger, Move, Name, Order, is_transfer, line_name, name_cmp, open_orders, places, same_name}
use Rattle.ledger.specs.Rows.{FirmCells, LineCells, OrderCells, firm_row, firm_rows, kind_code, kept_row, move_row}
use Rattle.ledger.specs.Rows.{order_lines, order_row, state_code, way_code}
use Rattle.book.specs.inner.RunningNumbers.{IsUpToDate}
use Rattle.ledger.specs.Tables.{kept_cells, line_cells, move_cells, order_cells}
use Rattle.book.specs.Model.{field_of, kept_of, move_of, order_of}

-- the row gives the line, of whatever order and number
pub record TellsLine (l : Line) (row : LineCells) : Type 0 where
  pub branch : row.branch ≡ l.branch
  pub article : row.article ≡ l.article
  pub way : row.way ≡ way_code l.way
  pub held : row.held ≡ pos l.held
  pub used : row.used ≡ pos l.used

abbrev pub head_row : Head → OrderCells
head_row h = record { number = pos h.number; kind = kind_code h.kind; until = pos h.until; state = state_code h.state }

-- ---- entries in range

-- what is held keeps the quantity within its bounds
pub record IsBounded (q : Stock) : Type 0 where
  pub low : q.lo + q.held_to_take ≤ q.value
  pub high : q.value + q.held_to_add ≤ q.hi

-- the row gives the numbers of the quantity
pub record IsQuantityTold (q : Stock) (row : FieldRow) : Type 0 where
  pub bounded : IsBounded q
  pub greatest : IsLevel q.hi
  pub lo : row.lo ≡ pos q.lo
  pub hi : row.hi ≡ pos q.hi
  pub value : row.value ≡ pos q.value
  pub inf : row.inf ≡ (pos q.value -ℤ pos q.held_to_take)
  pub sup : row.sup ≡ (pos q.value +ℤ pos q.held_to_add)

pub record IsFieldTold (e : Name × FieldEntry) (row : FieldRow) : Type 0 where
  pub branch : IsBranch e.0.branch
  pub article : IsArticle e.0.article
  pub start : IsLevel e.1.start
  pub branch_is : string_bytes row.branch ≡ e.0.branch
  pub article_is : string_bytes row.article ≡ e.0.article
  pub start_is : row.start ≡ pos e.1.start
  pub quantity : IsQuantityTold e.1.quantity row

pub record IsMoveTold (e : MoveEntry) (row : MoveRow) : Type 0 where
  pub branch : IsBranch e.branch
  pub article : IsArticle e.article
  pub cells : move_cells row ≡ move_row (move_of e)

pub record IsHeadTold (h : Head) (row : OrderRow) : Type 0 where
  pub number : IsOrderNo h.number
  pub until : IsMoment h.until
  pub cells : order_cells row ≡ head_row h

pub record IsLineTold (l : Line) (row : LineRow) : Type 0 where
  pub branch : IsBranch l.branch
  pub article : IsArticle l.article
  pub held : IsLevel l.held
  pub used : IsLevel l.used
  pub cells : TellsLine l (line_cells row)

pub record IsKeptTold (e : List ℕ × KeptEntry) (row : KeptRow) : Type 0 where
  pub key : IsKey e.0
  pub command : IsInRange e.1.words
  pub cells : kept_cells row ≡ kept_row (kept_of e)

-- ---- orders from rows

abbrev pub head_of : Order → Head
head_of o = record { number = o.number; kind = o.kind; until = o.until; state = o.state; firm = o.firm }

-- the row that marks the order as firm, if it is firm
abbrev pub mark_rows : Head → List FirmCells
mark_rows h = if h.firm then firm_row h.number ∷ [] else []

-- the rows of orders, and those of firm ones, give these heads
pub record TellHeads (heads : List Head) (orders : List OrderCells) (firms : List FirmCells) : Type 0 where
  pub orders_are : map head_row heads ≡ orders
  pub firms_are : flat_map mark_rows heads ≡ firms

-- there is a row, and it marks the order of that number
abbrev pub Marks : Option FirmRow → ℕ → Type 0
Marks row number = IsSomeAnd row (λ r. r.number ≡ pos number)

-- the rows count from this number
abbrev pub AreNumbered : ℕ → List LineRow → Type 0
AreNumbered nr [] = Unit {0}
AreNumbered nr (row ∷ rows) = (row.nr ≡ pos nr) × AreNumbered (nr + 1) rows

-- the rows do not begin with one of that order
abbrev pub BeginsOther : ℕ → List LineRow → Type 0
BeginsOther number [] = Unit {0}
BeginsOther number (row ∷ rows) = row.number ≡ pos number → ⊥

-- the rows of orders and lines give these orders
pub record TellOrders (orders : List Order) (heads : List Head) (lines : List LineCells) : Type 0 where
  pub heads_are : map head_of orders ≡ heads
  pub lines_are : flat_map order_lines orders ≡ lines

-- these are the rows of the orders, of their lines, and of those that are firm
pub record AreRowsOfOrders (os : List Order) (orders : List OrderCells) (lines : List LineCells)
    (firms : List FirmCells) : Type 0 where
  pub orders_are : orders ≡ map order_row os
  pub lines_are : lines ≡ flat_map order_lines os
  pub firms_are : firms ≡ flat_map firm_rows os

-- ---- ledgers from tables

abbrev pub told_ledger : Entries → Ledger
told_ledger e = record {
  clock = e.clock;
  fields = map field_of e.fields.items;
  moves = map move_of e.moves.items;
  orders = map order_of e.orders.items;
  kept = map kept_of e.kept.items;
}

-- the clock is in range, and fields and kept keys are good by themselves
pub record IsInForm (A : Ledger) : Type 0 where
  pub clock : IsMoment A.clock
  pub fields : Each IsGoodField A.fields
  pub kept : Each IsGoodKept A.kept

-- a move is good by itself: its place is taken, and its amount is a quantity, up or down; it is not said whether its
-- field is there
pub record IsMoveByItself (places : ℕ) (m : Move) : Type 0 where
  pub first : 1 ≤ m.place
  pub last : m.place ≤ places
  pub size : IsQty (nat_abs m.amount)

-- an order is good by itself: all that makes it good, but that its fields are there
pub record IsOrderByItself (o : Order) : Type 0 where
  pub number : IsOrderNo o.number
  pub until : IsMoment o.until
  pub some : 1 ≤ length o.lines
  pub few : length o.lines ≤ MAX_ORDER_LINES
  pub lines : Each (λ l. IsLevel l.held × (l.used ≤ l.held)) o.lines
  pub apart : IsDistinct same_name (map line_name o.lines)
  pub transfer : IsTrue (is_transfer o) → IsTransferPair o.lines
  pub firm : IsTrue o.firm → o.state ≢ Aborted

-- each list is in the order of its keys
pub record AreInOrder (e : Entries) : Type 0 where
  pub fields : IsStrictlySortedBy name_cmp (keys_of e.fields.items)
  pub moves : IsStrictlySortedBy nat_cmp (map (λ m. m.place) (map move_of e.moves.items))
  pub orders : IsStrictlySortedBy nat_cmp (keys_of e.orders.items)
  pub kept : IsStrictlySortedBy (slice_cmp nat_cmp) (keys_of e.kept.items)

pub record IsWithinLimits (A : Ledger) : Type 0 where
  pub fields : length A.fields ≤ MAX_FIELDS
  pub orders : length A.orders ≤ MAX_ORDERS
  pub places : places A + open_orders A ≤ MAX_PLACES

-- all that makes the ledger of these entries good, but its form, that the fields are there, and that each field is
-- safe
pub record IsWhole (e : Entries) : Type 0 where
  pub in_order : AreInOrder e
  pub limits : IsWithinLimits (told_ledger e)
  pub moves : Each (IsMoveByItself (places (told_ledger e))) (told_ledger e).moves
  pub orders : Each IsOrderByItself (told_ledger e).orders
  pub places_in_range : Each (λ k. (1 ≤ k.place) × (k.place ≤ places (told_ledger e))) (told_ledger e).kept
  pub places_apart : IsDistinct nat_eq (map (λ k. k.place) (told_ledger e).kept)

-- the entry has the value that these numbers give it, and they are what it holds
pub record HasNumbers (n : Numbers) (e : FieldEntry) : Type 0 where
  pub value : pos e.quantity.value ≡ (pos e.start +ℤ n.moved)
  pub takes : pos e.quantity.held_to_take ≡ n.takes
  pub adds : pos e.quantity.held_to_add ≡ n.adds

-- each entry has what these numbers give it
abbrev pub HaveNumbers : (Name → Numbers) → List (Name × FieldEntry) → Type 0
HaveNumbers numbers fields = Each (λ e. HasNumbers (numbers e.0) e.1) fields

-- the entries are those of a good ledger, and the entry of each field is up to date
abbrev pub AreGood : Entries → Type 0
AreGood e = Good (told_ledger e) × Each (IsUpToDate (told_ledger e)) e.fields.items
