-- the fields so far are in, and there is room for the others
use Rattle.ledger.proofs.Prelude.{◌+◌, ◌≡◌, ◌≤◌, length, take}
use Rattle.book.proofs.Prelude.{with_entries}
use Rattle.book.proofs.book.adopt_fields.Given as goal

abbrev pub invariant-loop-place : goal.invariant-loop-place
invariant-loop-place l = record {
  put : l.fields.entries ≡ with_entries (take l.place l.changed.entries) l.initial.fields.entries;
  room : length l.changed.entries ≤ l.place + l.fields.room;
  storage : l.fields.storage ≡ l.initial.fields.storage;
  no_more : l.fields.room ≤ l.initial.fields.room;
}
