use Rattle.std.proofs.Common.{refl, subst, sym}
use Rattle.keep.specs.Content.{IsTheRow}
use Rattle.keep.proofs.PlainChanges.{new_in_order}
use Rattle.keep.proofs.plain.shelf.Shelf.new.Goals as goal

pub returns-clause-order : goal.returns-clause-order
returns-clause-order c = record {
  rows =
      rw (
        c.new_row.ensures,
        c.new.ensures,
        c.new-2.ensures,
        c.new-3.ensures,
        c.new-4.ensures,
        c.new-5.ensures,
        c.new-6.ensures,
      ) new_in_order;
  desk = subst IsTheRow (sym c.new_row.ensures) (refl, refl);
}
