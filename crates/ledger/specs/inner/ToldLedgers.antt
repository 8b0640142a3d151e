-- What rows say about a ledger, whatever they give as the value, the infimum and the supremum of its fields.
use Rattle.std.specs.Prelude.{ℕ, ◌≡◌, pos, List, [], ◌∷◌, map, flat_map}
use Rattle.std.specs.List.{AllByRecursion as Each, AllZip}
use Rattle.ledger.specs.Ledger.{Field, Ledger}
use Rattle.ledger.specs.Rows.{Content, FieldCells, LineCells, desk_row, firm_rows, kept_row, move_row, order_lines, order_row}

-- the row gives the field's name, its bounds and its start; about its three other numbers nothing is said
pub record TellsField (f : Field) (row : FieldCells) : Type 0 where
  pub branch : row.branch ≡ f.name.branch
  pub article : row.article ≡ f.name.article
  pub lo : row.lo ≡ pos f.lo
  pub hi : row.hi ≡ pos f.hi
  pub start : row.start ≡ pos f.start

-- ---- orders from rows

-- none of the rows belongs to that order
abbrev pub AreOthers : ℕ → List LineCells → Type 0
AreOthers number rows = Each (λ row. row.number ≡ pos number → ⊥) rows

-- ---- ledgers from tables

-- The content is the ledger's rows, but for the value, the infimum and the supremum of its fields, about which
-- nothing is said.
pub record TellsLedger (A : Ledger) (C : Content) : Type 0 where
  pub desk : C.desk ≡ desk_row A ∷ []
  pub fields : AllZip TellsField A.fields C.fields
  pub moves : C.moves ≡ map move_row A.moves
  pub orders : C.orders ≡ map order_row A.orders
  pub lines : C.lines ≡ flat_map order_lines A.orders
  pub kept : C.kept ≡ map kept_row A.kept
  pub firms : C.firms ≡ flat_map firm_rows A.orders
