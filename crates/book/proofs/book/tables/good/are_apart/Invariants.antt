-- no two of the lines so far are on one field
use Rattle.ledger.proofs.Prelude.{IsDistinct, line_name, map, same_name, take}
use Rattle.book.proofs.book.tables.good.are_apart.Given as goal

abbrev pub invariant-loop-i : goal.invariant-loop-i
invariant-loop-i l = IsDistinct same_name (map line_name (take l.i l.lines))
