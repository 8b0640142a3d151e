-- Running numbers: the entry of each field keeps its quantity, whose numbers are those of the ledger.
use Rattle.std.specs.Prelude.{◌≡◌, pos, ◌-ℤ◌, ◌+ℤ◌, Bool, false, true, ◌&&◌, ◌++◌, List, Some, find, is_some, ℕ, ◌≤ℤ◌}
use Rattle.std.specs.BTreeMap.{insert_entry, is_at}
use Rattle.std.specs.List.Sorted.{IsStrictlySortedBy}
use Rattle.std.specs.Map.{keys_of, lookup}
use Rattle.std.specs.List.{AllByRecursion as Each, fold, list_any}
use Rattle.escrow.specs.Ranges.{IsLevel}
use Rattle.escrow.specs.Stock.{Stock}
use Rattle.escrow.specs.declared.quantity.Way.{Way}
use Rattle.words.specs.declared.command.Request.{Request}
use Rattle.ledger.specs.inner.FieldRows.{field_row}
use Rattle.ledger.specs.Changes.{changes_field}
use Rattle.ledger.specs.Good.{Good}
use Rattle.ledger.specs.Held.{add_part, held_to_add, held_to_take, take_part}
use Rattle.ledger.specs.Ledger.{Field, Ledger, Name, field_named, name_cmp, same_name}
use Rattle.ledger.specs.Next.{accept}
use Rattle.ledger.specs.Outcomes.{settled, settled_part}
use Rattle.ledger.specs.Rows.{FieldCells}
use Rattle.book.specs.Model.{entry_row, field_of, ledger_of}
use Rattle.book.specs.declared.book.Book.TheInside.{Inside}
use Rattle.book.specs.declared.book.FieldEntry.{FieldEntry}
use Rattle.book.specs.declared.book.tables.sums.Numbers.{Numbers}
use Rattle.ledger.specs.declared.order.Share.{Share}
use Rattle.ledger.specs.inner.Shares.{ShareStep, added_on}

-- The entry's quantity has the field's settled value, and what it holds is what the open orders hold on the field.
abbrev pub IsUpToDate : Ledger → Name × FieldEntry → Type 0
IsUpToDate A e = entry_row e ≡ field_row A (field_of e)

-- What is in a book is a good ledger, and the entry of each field is up to date.
abbrev pub Stands : Inside → Type 0
Stands b = Good (ledger_of b) × Each (IsUpToDate (ledger_of b)) b.fields.entries

-- the fields, with these entries put in one after the other, each under its name
abbrev pub with_entries : List (Name × FieldEntry) → List (Name × FieldEntry) → List (Name × FieldEntry)
with_entries new old = fold (λ entries e. insert_entry name_cmp entries e.0 e.1) old new

-- ---- a field's stock, as a line on it changes

-- its numbers are levels
abbrev pub IsShare : Share → Type 0
IsShare s = IsLevel s.settled × IsLevel s.held

-- what the share of a line that way adds up to
abbrev pub share_numbers : Way → Share → Numbers
share_numbers w s = record { moved = settled_part w s; takes = take_part w s; adds = add_part w s }

-- what a stock of these numbers adds up to, once a part of it that added up to `before` adds up to `after`
abbrev pub becoming : Stock → Numbers → Numbers → Numbers
becoming old before after = record {
  moved = (pos old.value -ℤ before.moved) +ℤ after.moved;
  takes = (pos old.held_to_take -ℤ before.takes) +ℤ after.takes;
  adds = (pos old.held_to_add -ℤ before.adds) +ℤ after.adds;
}

-- a stock with these numbers lies within the bounds
pub record LieWithin (lo hi : ℕ) (n : Numbers) : Type 0 where
  pub low : pos lo ≤ℤ (n.moved -ℤ n.takes)
  pub takes : pos 0 ≤ℤ n.takes
  pub adds : pos 0 ≤ℤ n.adds
  pub high : (n.moved +ℤ n.adds) ≤ℤ pos hi

-- the stock has other numbers, and its bounds
pub record Becomes (old : Stock) (n : Numbers) (new : Stock) : Type 0 where
  pub lo : new.lo ≡ old.lo
  pub hi : new.hi ≡ old.hi
  pub value : pos new.value ≡ n.moved
  pub takes : pos new.held_to_take ≡ n.takes
  pub adds : pos new.held_to_add ≡ n.adds

-- ---- the fields that a request changes

-- the entry is that of one of these fields that passes a test, and has its row
pub record IsOneOf (t : Name → Bool) (row : Field → FieldCells) (fs : List Field) (e : Name × FieldEntry) : Type 0 where
  pub field : Field
  pub there : find (λ g. same_name e.0 g.name) fs ≡ Some field
  pub passes : t e.0 ≡ true
  pub has_row : entry_row e ≡ row field

-- the entry is that of a field that the request changes, as the next ledger has it
abbrev pub IsChangedField : Ledger → Request → Name × FieldEntry → Type 0
IsChangedField A r e = IsOneOf (changes_field A r.command) (field_row (accept A r)) (accept A r).fields e

-- there is an entry of that name
abbrev pub HasEntry : List (Name × FieldEntry) → Name → Type 0
HasEntry entries n = is_some (lookup (is_at (name_cmp n)) entries) ≡ true

-- ---- what the lines count for

-- the entry is that of a field of the ledger, with what these steps add to it
pub record Counts (A : Ledger) (steps : List ShareStep) (e : Name × FieldEntry) : Type 0 where
  pub there : find (λ g. same_name e.0 g.name) A.fields ≡ Some (field_of e)
  pub value : pos e.1.quantity.value ≡ settled A (field_of e) +ℤ added_on settled_part e.0 steps
  pub takes : pos e.1.quantity.held_to_take ≡ held_to_take A e.0 +ℤ added_on take_part e.0 steps
  pub adds : pos e.1.quantity.held_to_add ≡ held_to_add A e.0 +ℤ added_on add_part e.0 steps

-- the entries are those of the fields whose stock these steps change, with what the steps add
pub record CountsAll (A : Ledger) (steps : List ShareStep) (entries : List (Name × FieldEntry)) : Type 0 where
  pub each : Each (Counts A steps) entries
  pub all : (n : Name) → is_some (lookup (is_at (name_cmp n)) entries)
      ≡ list_any (λ s. same_name n s.name && s.changes) steps
  -- where the stock does not change, the line counts as before
  pub alike : Each (λ s. s.changes ≡ false → s.after ≡ s.before) steps
  pub rising : IsStrictlySortedBy name_cmp (keys_of entries)

-- entries that have counted other steps before now count these, too
abbrev pub CountsMore : Ledger → List ShareStep → List (Name × FieldEntry) → List (Name × FieldEntry) → Type 0
CountsMore A steps old new = (done : List ShareStep) → CountsAll A done old → CountsAll A (done ++ steps) new

-- the numbers of a field, with what these steps add
abbrev pub numbers_with : Ledger → Field → List ShareStep → Numbers
numbers_with A f steps = record {
  moved = settled A f +ℤ added_on settled_part f.name steps;
  takes = held_to_take A f.name +ℤ added_on take_part f.name steps;
  adds = held_to_add A f.name +ℤ added_on add_part f.name steps;
}

-- These steps may follow others: each field stays within its bounds however far they are counted.
pub record MayFollow (A : Ledger) (done steps : List ShareStep) : Type 0 where
  pub within : (front rest : List ShareStep) → front ++ rest ≡ steps → (f : Field) → field_named A f.name ≡ Some f
      → LieWithin f.lo f.hi (numbers_with A f (done ++ front))
  pub alike : Each (λ s. s.changes ≡ false → s.after ≡ s.before) steps

-- other steps have been counted, and these may follow
abbrev pub MayCount : Ledger → List ShareStep → List (Name × FieldEntry) → Type 0
MayCount A steps old = (done : List ShareStep) × CountsAll A done old × MayFollow A done steps
