-- what is read so far is what the rows so far tell
use Rattle.ledger.proofs.Prelude.{AllZip, take}
use Rattle.book.proofs.book.tables.told.read_all.Given as goal

abbrev pub invariant-loop-row : goal.invariant-loop-row
invariant-loop-row g l = AllZip g.T.Told.is_told l.all.items (take l.row-index l.rows)
