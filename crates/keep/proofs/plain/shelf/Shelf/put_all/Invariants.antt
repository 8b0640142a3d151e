-- the rows that are left come to the same
use Rattle.std.proofs.Common.{◌≡◌, All, length}
use Rattle.std.specs.Vec.Iter.{into_iter_items, into_iter_len}
use Rattle.ledger.specs.Changes.{put_content}
use Rattle.ledger.specs.Tables.{rows_among}
use Rattle.keep.specs.Content.{IsTheRow}
use Rattle.keep.specs.Plain.{HasRoom, IsInOrder, shelf_content}
use Rattle.keep.proofs.plain.shelf.Shelf.put_all.Given as goal

abbrev pub invariant-loop-change : goal.invariant-loop-change
invariant-loop-change l = record {
  long : into_iter_len l.change-iterator ≡ length (into_iter_items l.change-iterator);
  order : IsInOrder l.self;
  one : All IsTheRow (rows_among (into_iter_items l.change-iterator)).desk;
  room : HasRoom (length (into_iter_items l.change-iterator)) l.self;
  put : put_content (rows_among (into_iter_items l.change-iterator)) (shelf_content l.self)
      ≡ put_content (rows_among l.fn.changes.items) (shelf_content l.fn.self);
}
