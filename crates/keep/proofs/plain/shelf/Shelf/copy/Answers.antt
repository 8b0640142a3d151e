use Rattle.keep.proofs.plain.shelf.Shelf.copy.Goals as goal

pub returns : goal.returns
returns c = rw (
  c.new.ensures,
  c.new-2.ensures,
  c.new-3.ensures,
  c.new-4.ensures,
  c.new-5.ensures,
  c.new-6.ensures,
  c.in_ok-copy_rows.ensures,
  c.in_ok-copy_rows-2.ensures,
  c.in_ok-copy_rows-3.ensures,
  c.in_ok-copy_rows-4.ensures,
  c.in_ok-copy_rows-5.ensures,
  c.in_ok-copy_rows-6.ensures,
)
