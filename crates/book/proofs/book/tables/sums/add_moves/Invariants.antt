-- the moves so far are on fields, and added
use Rattle.ledger.proofs.Prelude.{[], ◌*◌, ◌≡◌, Each, take}
use Rattle.book.proofs.Prelude.{AreMovesOnFields, IsSmall, added, most_of_move, numbers_on}
use Rattle.book.proofs.book.tables.sums.add_moves.Given as goal

abbrev pub invariant-loop-entry : goal.invariant-loop-entry
invariant-loop-entry l = record {
  there : AreMovesOnFields l.fields (take l.entry-index l.moves);
  sums : l.sums ≡ added (numbers_on (take l.entry-index l.moves) []) l.fields l.initial.sums;
  small : Each (IsSmall (most_of_move * l.entry-index)) l.sums;
}
