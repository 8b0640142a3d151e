-- What all moves and orders add up to on each of the fields.
use Rattle.std.specs.Prelude.{◌≡◌, ℕ, ℤ, ◌<◌, ◌≤◌, Bool, nat_abs, pos, ◌+ℤ◌, List, [], ◌∷◌, length, map, Option, find}
use Rattle.std.specs.Prelude.{if◌then◌else◌, IsSome}
use Rattle.std.specs.List.{AllByRecursion as Each, HoldsAt}
use Rattle.std.specs.List.Sorted.{IsStrictlySortedBy}
use Rattle.std.specs.Map.{keys_of}
use Rattle.escrow.specs.Ranges.{IsQty}
use Rattle.words.specs.declared.limits.TheConstants.{MAX_ORDER_LINES}
use Rattle.ledger.specs.declared.limits.TheConstants.{MAX_ORDERS, MAX_PLACES}
use Rattle.book.specs.declared.book.tables.sums.Numbers.{Numbers}
use Rattle.book.specs.declared.book.FieldEntry.{FieldEntry}
use Rattle.book.specs.declared.book.MoveEntry.{MoveEntry}
use Rattle.book.specs.declared.order.OrderEntry.{OrderEntry}
use Rattle.ledger.specs.declared.order.Line.{Line}
use Rattle.ledger.specs.declared.order.State.{State}
use Rattle.ledger.specs.Ledger.{Field, Name, line_name, name_cmp, on, same_name}
use Rattle.ledger.specs.Outcomes.{Part, settled_part, share_of, total}
use Rattle.ledger.specs.Held.{add_part, take_part}
use Rattle.book.specs.Model.{field_of, move_of}
use Rattle.book.specs.inner.RunningNumbers.{share_numbers}
use Rattle.book.specs.inner.Walk.{moved_by_move, nothing, IsSmall, part_of_entry, plus}

-- what the moves and the orders add up to on the field
abbrev pub numbers_on : List MoveEntry → List (ℕ × OrderEntry) → Name → Numbers
numbers_on ms os f = record {
  moved = total (moved_by_move f) ms +ℤ total (part_of_entry settled_part f) os;
  takes = total (part_of_entry take_part f) os;
  adds = total (part_of_entry add_part f) os;
}

-- ---- the fields that entries are on

-- the name of the entry's field
abbrev pub entry_name : Name × FieldEntry → Name
entry_name e = (field_of e).name

-- the fields stand in the order of their names
abbrev pub AreFieldsInOrder : List (Name × FieldEntry) → Type 0
AreFieldsInOrder fs = IsStrictlySortedBy name_cmp (keys_of fs)

-- the field of that name
abbrev pub field_among : List (Name × FieldEntry) → Name → Option Field
field_among fs name = find (λ e. same_name name e.name) (map field_of fs)

-- there is a field of that name
abbrev pub IsField : List (Name × FieldEntry) → Name → Type 0
IsField fs name = IsSome (field_among fs name)

-- the field at that place has the name
pub record IsFieldAt (fs : List (Name × FieldEntry)) (name : Name) (place : ℕ) : Type 0 where
  pub within : place < length fs
  pub named : HoldsAt (λ e. entry_name e ≡ name) fs place

-- each move is on a field
abbrev pub AreMovesOnFields : List (Name × FieldEntry) → List MoveEntry → Type 0
AreMovesOnFields fs ms = Each (λ m. IsField fs (move_of m).field) ms

-- each line is on a field
abbrev pub AreLinesOnFields : List (Name × FieldEntry) → List Line → Type 0
AreLinesOnFields fs ls = Each (λ l. IsField fs (line_name l)) ls

-- each line of each order is on a field, whether the order is open or has ended
abbrev pub AreOrdersOnFields : List (Name × FieldEntry) → List (ℕ × OrderEntry) → Type 0
AreOrdersOnFields fs os = Each (λ o. AreLinesOnFields fs o.1.lines.items) os

-- each move, and each line of each order, is on a field
abbrev pub AreOnFields : List (Name × FieldEntry) → List MoveEntry → List (ℕ × OrderEntry) → Type 0
AreOnFields fs ms os = AreMovesOnFields fs ms × AreOrdersOnFields fs os

-- ---- how much there may be

-- there are at most so many moves as there can be, and their amounts are in range
pub record AreFewMoves (ms : List MoveEntry) : Type 0 where
  pub few : length ms ≤ MAX_PLACES
  pub amounts : Each (λ m. IsQty (nat_abs m.amount)) ms

-- there are at most so many orders as there can be, each with at most so many lines
pub record AreFewOrders (os : List (ℕ × OrderEntry)) : Type 0 where
  pub few : length os ≤ MAX_ORDERS
  pub short : Each (λ o. length o.1.lines.items ≤ MAX_ORDER_LINES) os

-- each of the fields, in their order, has its sum, and each sum is at most so much
pub record AreSums (most : ℕ) (fs : List (Name × FieldEntry)) (ns : List Numbers) : Type 0 where
  pub sorted : AreFieldsInOrder fs
  pub long : length ns ≡ length fs
  pub room : Each (IsSmall most) ns

-- ---- numbers added to numbers

-- the numbers on one field, and nothing on the others
abbrev pub only_on : Name → Numbers → Name → Numbers
only_on name part f = if same_name f name then part else nothing

-- to the number of each field, in their order, its part is added
abbrev pub added : (Name → Numbers) → List (Name × FieldEntry) → List Numbers → List Numbers
added part [] ns = ns
added part (f ∷ fs) [] = []
added part (f ∷ fs) (n ∷ ns) = plus n (part (entry_name f)) ∷ added part fs ns

-- what a line adds to its field, where its order has the state, and is firm or not
abbrev pub part_of_line : State → Bool → Line → Numbers
part_of_line s firm l = share_numbers l.way (share_of s firm l)

-- what it adds to a part of the field's stock
abbrev pub line_part : Part → State → Bool → Name → Line → ℤ
line_part part s firm f l = if on f l then part l.way (share_of s firm l) else pos 0

-- what the lines of an order in that state add up to on the field
abbrev pub lines_numbers : State → Bool → List Line → Name → Numbers
lines_numbers s firm ls f = record {
  moved = total (line_part settled_part s firm f) ls;
  takes = total (line_part take_part s firm f) ls;
  adds = total (line_part add_part s firm f) ls;
}
