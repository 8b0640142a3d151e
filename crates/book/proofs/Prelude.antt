-- The words of the book's own that several files name.
pub use Rattle.book.specs.inner.Checking.{Finds, IsFound}
pub use Rattle.book.specs.inner.InPlace.{MayChangeOrder, changed_line, changed_order}
pub use Rattle.book.specs.Plans.{ChangesTo}
pub use Rattle.book.specs.inner.RunningNumbers.{Becomes, Counts, CountsAll, CountsMore, HasEntry, IsChangedField}
pub use Rattle.book.specs.inner.RunningNumbers.{IsShare, IsUpToDate, LieWithin, MayCount, becoming, numbers_with}
pub use Rattle.book.specs.inner.RunningNumbers.{share_numbers, with_entries}
pub use Rattle.book.specs.inner.StepsSeen.{Adds, IsMadeBy, MayMake, line_seen, lines_before, number_cmp, joined}
pub use Rattle.book.specs.inner.StepsSeen.{step_rows, step_seen, steps_under}
pub use Rattle.book.specs.declared.book.made.Made.{Made}
pub use Rattle.book.specs.inner.Sums.{AreLinesOnFields, AreMovesOnFields, AreOnFields, AreOrdersOnFields, IsField}
pub use Rattle.book.specs.inner.Sums.{added, entry_name, line_part, lines_numbers, numbers_on, only_on, part_of_line}
pub use Rattle.book.specs.inner.RowEntries.{AreNumbered, BeginsOther, HasNumbers, HaveNumbers, IsBounded, IsFieldTold}
pub use Rattle.book.specs.inner.RowEntries.{IsKeptTold, IsLineTold, IsMoveByItself, IsMoveTold, IsOrderByItself}
pub use Rattle.book.specs.inner.RowEntries.{IsWhole, TellHeads, TellOrders, head_of, head_row, mark_rows, told_ledger}
pub use Rattle.book.specs.Model.{entry_row, BookView, field_of, kept_of, ledger_of, move_of, order_of, view_of}
pub use Rattle.book.specs.inner.Walk.{IsSmall, most_of_all, most_of_line, most_of_lines, most_of_move, most_of_moves}
pub use Rattle.book.specs.inner.Walk.{moved_by_move, nothing, part_of_entry, plus}
pub use Rattle.book.specs.declared.book.Book.TheInside.{Inside}
pub use Rattle.book.specs.declared.book.tables.sums.Numbers.{Numbers}
pub use Rattle.book.specs.declared.book.tables.group.Head.{Head}
pub use Rattle.book.specs.declared.book.FieldEntry.{FieldEntry}
pub use Rattle.book.specs.declared.book.KeptEntry.{KeptEntry}
pub use Rattle.book.specs.declared.book.MoveEntry.{MoveEntry}
pub use Rattle.book.specs.declared.order.OrderEntry.{OrderEntry}
