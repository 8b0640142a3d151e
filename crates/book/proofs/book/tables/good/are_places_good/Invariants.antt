-- the places so far are in range and apart, and just they are taken
use Rattle.ledger.proofs.Prelude.{◌+◌, ◌≡◌, ◌≤◌, Each, IsDistinct, length, list_any, map, nat_eq, slice_index_or, take, true, ℕ}
use Rattle.book.proofs.book.tables.good.are_places_good.Given as goal

abbrev pub invariant-loop-entry : goal.invariant-loop-entry
invariant-loop-entry l = record {
  long : length l.taken.items ≡ length l.kept + 1;
  range : Each (λ e. (1 ≤ e.1.place) × (e.1.place ≤ length l.kept)) (take l.entry-index l.kept);
  apart : IsDistinct nat_eq (map (λ e. e.1.place) (take l.entry-index l.kept));
  marks : (p : ℕ) → p ≤ length l.kept
      → slice_index_or l.taken.items p true ≡ list_any (λ e. nat_eq e.1.place p) (take l.entry-index l.kept);
}
