-- The rows of a ledger: what the seven tables hold for it. Texts are seen as their bytes.
use Rattle.std.specs.Prelude.{ℕ, ◌+◌, ◌≡◌, ℤ, pos, List, [], ◌∷◌, map, flat_map, if◌then◌else◌}
use Rattle.std.specs.declared.cmp.Ordering.{Ordering}
use Rattle.std.specs.Ordering.{nat_cmp, int_cmp, ordering_then}
use Rattle.std.specs.Cmp.Lexicographic.{slice_cmp}
use Rattle.std.specs.List.{AllZip}
use Rattle.std.specs.List.Sorted.{IsStrictlySortedBy}
use Rattle.escrow.specs.declared.quantity.Way.{Way}
use Rattle.escrow.specs.declared.quantity.Way.TheVariants.{Take, Add}
use Rattle.words.specs.Spelling.{spelling}
use Rattle.ledger.specs.declared.limits.TheConstants.{SCHEMA_VERSION}
use Rattle.ledger.specs.declared.order.Kind.{Kind}
use Rattle.ledger.specs.declared.order.Kind.TheVariants.{Plain, Transfer}
use Rattle.ledger.specs.declared.order.State.{State}
use Rattle.ledger.specs.declared.order.State.TheVariants.{Open, Committed, Aborted}
use Rattle.ledger.specs.declared.order.Line.{Line}
use Rattle.ledger.specs.Ledger.{Field, Move, Order, Kept, Ledger, places}
use Rattle.ledger.specs.Outcomes.{settled, IsInfimum, IsSupremum}
use Rattle.ledger.specs.Good.{Good}

-- the rows, with their texts as bytes
pub record DeskCells : Type 0 where
  pub one : ℤ
  pub version : ℤ
  pub clock : ℤ
  pub places : ℤ

pub record FieldCells : Type 0 where
  pub branch : List ℕ
  pub article : List ℕ
  pub lo : ℤ
  pub hi : ℤ
  pub start : ℤ
  pub value : ℤ
  pub inf : ℤ
  pub sup : ℤ

pub record MoveCells : Type 0 where
  pub place : ℤ
  pub branch : List ℕ
  pub article : List ℕ
  pub qty : ℤ

pub record OrderCells : Type 0 where
  pub number : ℤ
  pub kind : ℤ
  pub until : ℤ
  pub state : ℤ

pub record LineCells : Type 0 where
  pub number : ℤ
  pub nr : ℤ
  pub branch : List ℕ
  pub article : List ℕ
  pub way : ℤ
  pub held : ℤ
  pub used : ℤ

pub record KeptCells : Type 0 where
  pub reqkey : List ℕ
  pub place : ℤ
  pub words : List ℕ

pub record FirmCells : Type 0 where
  pub number : ℤ

-- the rows of the seven tables, as lists; that they stand in the order of their keys says `IsInKeyOrder`
pub record Content : Type 0 where
  pub desk : List DeskCells
  pub fields : List FieldCells
  pub moves : List MoveCells
  pub orders : List OrderCells
  pub lines : List LineCells
  pub kept : List KeptCells
  pub firms : List FirmCells

abbrev pub kind_code : Kind → ℤ
kind_code Plain = pos 0
kind_code Transfer = pos 1

abbrev pub state_code : State → ℤ
state_code Open = pos 0
state_code Committed = pos 1
state_code Aborted = pos 2

abbrev pub way_code : Way → ℤ
way_code Take = pos 0
way_code Add = pos 1

-- the row of a field: its value is the settled one, inf and sup are the least and the greatest over all outcomes
pub record IsFieldRow (A : Ledger) (f : Field) (row : FieldCells) : Type 0 where
  pub branch : row.branch ≡ f.name.branch
  pub article : row.article ≡ f.name.article
  pub lo : row.lo ≡ pos f.lo
  pub hi : row.hi ≡ pos f.hi
  pub start : row.start ≡ pos f.start
  pub value : row.value ≡ settled A f
  pub inf : IsInfimum A f row.inf
  pub sup : IsSupremum A f row.sup

abbrev pub move_row : Move → MoveCells
move_row m = record { place = pos m.place; branch = m.field.branch; article = m.field.article; qty = m.amount }

abbrev pub order_row : Order → OrderCells
order_row o = record { number = pos o.number; kind = kind_code o.kind; until = pos o.until; state = state_code o.state }

abbrev pub line_row : ℕ → ℕ → Line → LineCells
line_row number nr l =
    record {
      number = pos number;
      nr = pos nr;
      branch = l.branch;
      article = l.article;
      way = way_code l.way;
      held = pos l.held;
      used = pos l.used;
    }

abbrev pub lines_from : ℕ → ℕ → List Line → List LineCells
lines_from number nr [] = []
lines_from number nr (l ∷ ls) = line_row number nr l ∷ lines_from number (nr + 1) ls

abbrev pub order_lines : Order → List LineCells
order_lines o = lines_from o.number 1 o.lines

abbrev pub kept_row : Kept → KeptCells
kept_row k = record { reqkey = k.key; place = pos k.place; words = spelling k.command }

-- the row that marks a firm order
abbrev pub firm_row : ℕ → FirmCells
firm_row number = record { number = pos number }

abbrev pub firm_rows : Order → List FirmCells
firm_rows o = if o.firm then firm_row o.number ∷ [] else []

-- the row of a desk with that clock and so many places
abbrev pub desk_of : ℕ → ℕ → DeskCells
desk_of clock places = record { one = pos 1; version = pos SCHEMA_VERSION; clock = pos clock; places = pos places }

abbrev pub desk_row : Ledger → DeskCells
desk_row A = desk_of A.clock (places A)

-- the content is the ledger's rows
pub record IsRowsOf (A : Ledger) (C : Content) : Type 0 where
  pub desk : C.desk ≡ desk_row A ∷ []
  pub fields : AllZip (IsFieldRow A) A.fields C.fields
  pub moves : C.moves ≡ map move_row A.moves
  pub orders : C.orders ≡ map order_row A.orders
  pub lines : C.lines ≡ flat_map order_lines A.orders
  pub kept : C.kept ≡ map kept_row A.kept
  pub firms : C.firms ≡ flat_map firm_rows A.orders

-- ---- keys

-- texts by their bytes
abbrev pub text_cmp : List ℕ → List ℕ → Ordering
text_cmp = slice_cmp nat_cmp

abbrev pub desk_cmp : DeskCells → DeskCells → Ordering
desk_cmp a b = int_cmp a.one b.one

abbrev pub field_cmp : FieldCells → FieldCells → Ordering
field_cmp a b = ordering_then (text_cmp a.branch b.branch) (text_cmp a.article b.article)

abbrev pub move_cmp : MoveCells → MoveCells → Ordering
move_cmp a b = int_cmp a.place b.place

abbrev pub order_cmp : OrderCells → OrderCells → Ordering
order_cmp a b = int_cmp a.number b.number

abbrev pub line_cmp : LineCells → LineCells → Ordering
line_cmp a b = ordering_then (int_cmp a.number b.number) (int_cmp a.nr b.nr)

abbrev pub kept_cmp : KeptCells → KeptCells → Ordering
kept_cmp a b = text_cmp a.reqkey b.reqkey

abbrev pub firm_cmp : FirmCells → FirmCells → Ordering
firm_cmp a b = int_cmp a.number b.number

-- the rows of each table but `desk` stand strictly in the order of their keys
pub record IsInKeyOrder (C : Content) : Type 0 where
  pub fields : IsStrictlySortedBy field_cmp C.fields
  pub moves : IsStrictlySortedBy move_cmp C.moves
  pub orders : IsStrictlySortedBy order_cmp C.orders
  pub lines : IsStrictlySortedBy line_cmp C.lines
  pub kept : IsStrictlySortedBy kept_cmp C.kept
  pub firms : IsStrictlySortedBy firm_cmp C.firms

-- the content is the rows of no good ledger
abbrev pub IsDamaged : Content → Type 0
IsDamaged C = (A : Ledger) → Good A → IsRowsOf A C → ⊥
