-- with the rows that are left, what is put off comes to the same
use Rattle.std.proofs.Common.{◌≡◌, ◌+◌, ◌≤◌, All, length}
use Rattle.std.specs.Vec.{vec_capacity, vec_len}
use Rattle.std.specs.Vec.Iter.{into_iter_items}
use Rattle.ledger.specs.Rows.{Content}
use Rattle.ledger.specs.Tables.{rows_among}
use Rattle.keep.specs.Content.{IsTheRow, with_changes}
use Rattle.desk.proofs.copies.put_off.Given as goal

abbrev pub invariant-loop-copy : goal.invariant-loop-copy
invariant-loop-copy l = record {
  desk : All IsTheRow (rows_among l.kept.items).desk;
  one : All IsTheRow (rows_among (into_iter_items l.copy-iterator)).desk;
  room : vec_len l.kept + length (into_iter_items l.copy-iterator) ≤ vec_capacity l.kept;
  put : (x : Content) → with_changes (into_iter_items l.copy-iterator) (with_changes l.kept.items x)
      ≡ with_changes l.changes (with_changes l.fn.kept.items x);
}
