-- How contracts see a book: as its ledger, the room that has been made, and the memory that it has.
use Rattle.std.specs.Prelude.{ℕ, ◌-◌, ◌+ℤ◌, ◌-ℤ◌, pos, List, [], map}
use Rattle.std.specs.Ordering.{nat_cmp}
use Rattle.std.specs.declared.cmp.Ordering.{Ordering}
use Rattle.std.specs.Vec.{vec_capacity, vec_len}
use Rattle.index.specs.InOrder.{EntryStorage, no_storage}
use Rattle.ledger.specs.Ledger.{Field, Kept, Ledger, Move, Name, Order, name_of}
use Rattle.book.specs.OrderLists.{OrderStorage, no_orders}
use Rattle.ledger.specs.Rows.{FieldCells}
use Rattle.book.specs.declared.book.Book.TheInside.{Inside}
use Rattle.book.specs.declared.book.FieldEntry.{FieldEntry}
use Rattle.book.specs.declared.book.KeptEntry.{KeptEntry}
use Rattle.book.specs.declared.book.MoveEntry.{MoveEntry}
use Rattle.book.specs.declared.order.OrderEntry.{OrderEntry}

-- how many fields, moves, orders and kept keys more fit without more memory
pub record Room : Type 0 where
  pub fields : ℕ
  pub moves : ℕ
  pub orders : ℕ
  pub kept : ℕ

-- for how many lines an order has slots
pub record LineSlots : Type 0 where
  pub number : ℕ
  pub slots : ℕ

-- orders by their numbers
abbrev pub slots_cmp : LineSlots → LineSlots → Ordering
slots_cmp a b = nat_cmp a.number b.number

-- the memory that a book has: that of fields, orders and keys, for how many moves there are slots, and for how many
-- lines of each order
pub record Storage : Type 0 where
  pub fields : EntryStorage
  pub moves : ℕ
  pub orders : OrderStorage
  pub lines : List LineSlots
  pub kept : EntryStorage

-- no memory
abbrev pub nothing_stored : Storage
nothing_stored = record { fields = no_storage; moves = 0; orders = no_orders; lines = []; kept = no_storage }

-- the ledger, the room that has been made beside it, and the memory that the book has
pub record BookView : Type 0 where
  pub ledger : Ledger
  pub room : Room
  pub storage : Storage

abbrev pub field_of : Name × FieldEntry → Field
field_of e = record { name = e.0; lo = e.1.quantity.lo; hi = e.1.quantity.hi; start = e.1.start }

-- the row that the entry of a field gives
abbrev pub entry_row : Name × FieldEntry → FieldCells
entry_row e = record {
  branch = e.0.branch;
  article = e.0.article;
  lo = pos e.1.quantity.lo;
  hi = pos e.1.quantity.hi;
  start = pos e.1.start;
  value = pos e.1.quantity.value;
  inf = pos e.1.quantity.value -ℤ pos e.1.quantity.held_to_take;
  sup = pos e.1.quantity.value +ℤ pos e.1.quantity.held_to_add;
}

abbrev pub move_of : MoveEntry → Move
move_of e = record { place = e.place; field = name_of e.branch e.article; amount = e.amount }

abbrev pub order_of : ℕ × OrderEntry → Order
order_of e = record {
  number = e.0;
  kind = e.1.kind;
  until = e.1.until;
  state = e.1.state;
  firm = e.1.firm;
  lines = e.1.lines.items;
}

abbrev pub slots_of : ℕ × OrderEntry → LineSlots
slots_of e = record { number = e.0; slots = vec_capacity e.1.lines }

abbrev pub kept_of : List ℕ × KeptEntry → Kept
kept_of e = record { key = e.0; place = e.1.place; command = e.1.words }

abbrev pub ledger_of : Inside → Ledger
ledger_of b = record {
  clock = b.clock;
  fields = map field_of b.fields.entries;
  moves = map move_of b.moves.items;
  orders = map order_of b.orders.entries;
  kept = map kept_of b.kept.entries;
}

abbrev pub room_of : Inside → Room
room_of b = record {
  fields = b.fields.room;
  moves = vec_capacity b.moves - vec_len b.moves;
  orders = b.orders.room;
  kept = b.kept.room;
}

abbrev pub storage_of : Inside → Storage
storage_of b = record {
  fields = b.fields.storage;
  moves = vec_capacity b.moves;
  orders = b.orders.storage;
  lines = map slots_of b.orders.entries;
  kept = b.kept.storage;
}

abbrev pub view_of : Inside → BookView
view_of b = record { ledger = ledger_of b; room = room_of b; storage = storage_of b }
