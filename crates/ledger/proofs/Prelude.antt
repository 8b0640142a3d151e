-- The words that lemmas and answers speak in: definitions and lemmas from elsewhere that several files name.
pub use Rattle.ledger.specs.inner.FieldRows.{field_row, field_rows, moved_by_command}
pub use Rattle.ledger.specs.Answers.{Answers, AnswersNew, Check, FirstFailure, IsAccepted, Runs, bound, checks, full}
pub use Rattle.ledger.specs.Answers.{line_checks, loose_checks, no_field, order_checks, same_command}
pub use Rattle.ledger.specs.Changes.{amount_row, amount_rows, changed_rows, changes_field, mark_row, own_field}
pub use Rattle.ledger.specs.Changes.{put_content, put_row, put_rows, state_row}
pub use Rattle.ledger.specs.Future.{AsksNoStock, IsFuture, IsHonoured}
pub use Rattle.ledger.specs.Good.{Good, IsGoodField, IsGoodKept, IsGoodLine, IsGoodMove, IsGoodOrder, IsTransferPair}
pub use Rattle.ledger.specs.Held.{BreaksBound, MayHoldMore, add_part, held_to_add, held_to_take, if_add, if_take, take_part}
pub use Rattle.ledger.specs.Ledger.{Field, Kept, Ledger, Move, Name, Order, field_named, insert_in_order, is_open}
pub use Rattle.ledger.specs.Ledger.{is_settled, is_transfer, kept_under, line_name, line_on, name_cmp, name_of}
pub use Rattle.ledger.specs.Ledger.{new_ledger, on, open_orders, open_state, order_numbered, places, same_name}
pub use Rattle.ledger.specs.Ledger.{settled_state, shown_state, transfer_kind, unsettled}
pub use Rattle.ledger.specs.Next.{Changes, Effect, Nothing, Opens, accept, add_hold, change_lines, effect, expires}
pub use Rattle.ledger.specs.Next.{hold_more, lower_held, move_made, moved_at_once, moves_after, new_key, new_line}
pub use Rattle.ledger.specs.Next.{new_order, next, numbered, orders_after, raise_held, raise_used, set_firm, set_state}
pub use Rattle.ledger.specs.Next.{transfer_lines, with_order}
pub use Rattle.escrow.specs.Choices.{IsWithin}
pub use Rattle.ledger.specs.Outcomes.{FallsBelow, IsInfimum, IsSafe, IsSupremum, Part, RisesAbove, article_total}
pub use Rattle.ledger.specs.Outcomes.{part_of, settled, settled_part, share_of, signed, total}
pub use Rattle.ledger.specs.Rows.{Content, DeskCells, FieldCells, FirmCells, IsFieldRow, IsRowsOf, KeptCells, LineCells}
pub use Rattle.ledger.specs.Rows.{OrderCells, desk_row, field_cmp, firm_cmp, firm_row, firm_rows, kept_cmp, kept_row}
pub use Rattle.ledger.specs.Rows.{line_cmp, line_row, lines_from, move_cmp, move_row, order_cmp, order_lines, order_row}
pub use Rattle.ledger.specs.inner.Shares.{Accepts, ShareStep, added_on, no_share, share_before, share_step, share_steps}
pub use Rattle.ledger.specs.inner.Shares.{shares_of_step}
pub use Rattle.ledger.specs.Steps.{LineStep, Step, becomes_firm, changes_held, changes_line, changes_state}
pub use Rattle.ledger.specs.Steps.{changes_stock, line_steps, lines_of, opening, orders_made, steps, steps_of, turn}
pub use Rattle.ledger.specs.Tables.{field_cells, firm_cells, kept_cells, line_cells, move_cells, no_content}
pub use Rattle.ledger.specs.Tables.{order_cells, rows_among}
pub use Rattle.ledger.specs.inner.ToldLedgers.{AreOthers, TellsField}
pub use Rattle.ledger.specs.declared.limits.TheConstants.{MAX_PLACES}
pub use Rattle.ledger.specs.declared.order.Kind.TheVariants.{Plain, Transfer}
pub use Rattle.ledger.specs.declared.order.Kind.{Kind}
pub use Rattle.ledger.specs.declared.order.Line.{Line}
pub use Rattle.ledger.specs.declared.order.Share.{Share}
pub use Rattle.ledger.specs.declared.order.State.TheVariants.{Aborted, Committed, Open}
pub use Rattle.ledger.specs.declared.order.State.{State}
pub use Rattle.ledger.specs.declared.rows.Change.{Change}
pub use Rattle.ledger.specs.declared.rows.FieldRow.{FieldRow}
pub use Rattle.ledger.specs.declared.rows.FirmRow.{FirmRow}
pub use Rattle.ledger.specs.declared.rows.KeptRow.{KeptRow}
pub use Rattle.ledger.specs.declared.rows.LineRow.{LineRow}
pub use Rattle.ledger.specs.declared.rows.MoveRow.{MoveRow}
pub use Rattle.ledger.specs.declared.rows.OrderRow.{OrderRow}
pub use Rattle.escrow.specs.Codes.{IsArticle, IsBranch, IsKey}
pub use Rattle.escrow.specs.Escrow.{IsSafeMoved, giving_back, held_of, holding}
pub use Rattle.escrow.specs.Ranges.{IsLevel, IsMoment, IsQty}
pub use Rattle.escrow.specs.Stock.{Stock}
pub use Rattle.escrow.specs.declared.quantity.Way.TheVariants.{Add, Take}
pub use Rattle.escrow.specs.declared.quantity.Way.{Way}
pub use Rattle.std.proofs.Common.{[], ◌&&◌, ◌*◌, ◌++◌, ◌+ℤ◌, ◌+◌, ◌-ℤ◌, ◌-◌, ◌<ℤ◌, ◌<◌, ◌==◌, ◌^◌, ◌||◌, ◌↔◌, ◌∙◌, ◌∷◌}
pub use Rattle.std.proofs.Common.{◌≡◌, ◌≢◌, ◌≤ℤ◌, ◌≤◌, ◌⊎◌, Bool, Bor, Err, Global, IfErr, IfOk, IfSome, IsFalse}
pub use Rattle.std.proofs.Common.{IsNone, IsSome, IsSomeAnd, IsTrue, List, MatchOption, MatchResult, None, Ok, OnOk}
pub use Rattle.std.proofs.Common.{Option, Result, Some, String, add-one, add-zero, ap, arith, codes, cond, count_by}
pub use Rattle.std.proofs.Common.{decimal, drop, drop-drop, eqb, false, find, flat_map, get_or, if◌then◌else◌, inl, inr}
pub use Rattle.std.proofs.Common.{is_some, length, length-append, length-drop, length-set, length-take, map, nat_abs}
pub use Rattle.std.proofs.Common.{nat_eq, nat_le, nat_lt, neg_ℤ, negsuc, not, of_calls, pos, refl, rules, set}
pub use Rattle.std.proofs.Common.{slice_get, slice_index_or, string_bytes, subst, suc, sym, take, true, true≢false}
pub use Rattle.std.proofs.Common.{zero, zero-add, ℕ, ℤ}
pub use Rattle.std.proofs.lemmas.Bool.Decides.{nat_tests}
pub use Rattle.std.proofs.lemmas.Bool.{cases_lt}
pub use Rattle.std.proofs.lemmas.Cmp.{int_cmp_total, nat_cmp_total, nat_list_cmp_total, on_total, then_total, tied_itself}
pub use Rattle.std.proofs.lemmas.Fn.{always_returns_same}
pub use Rattle.std.proofs.lemmas.Grind.{common_steps, flat_map-append}
pub use Rattle.std.proofs.lemmas.Int.{by_lt_z, ints}
pub use Rattle.std.proofs.lemmas.List.Elements.{recursion_from_All}
pub use Rattle.std.proofs.lemmas.List.Folds.{list_any-append}
pub use Rattle.std.proofs.lemmas.List.Sorted.{IsPermutation-map, IsPermutation-refl}
pub use Rattle.std.proofs.lemmas.List.{append-nil, append_assoc, length-take-le, map-append, take-append-drop, take_all}
pub use Rattle.std.proofs.lemmas.Map.Text.{is_eq-slice_cmp}
pub use Rattle.std.proofs.lemmas.Option.{get_or_from_slice_get, none-some, same_Some, slice_get-map, slice_get_read}
pub use Rattle.std.proofs.lemmas.Option.{slice_get_within}
pub use Rattle.std.proofs.lemmas.Result.{IfOk-weaker}
pub use Rattle.std.proofs.lemmas.Simd.{map-map}
pub use Rattle.std.specs.BTreeMap.{insert_entry, is_at}
pub use Rattle.std.specs.Cmp.Lexicographic.{slice_cmp}
pub use Rattle.std.specs.Cmp.{IsTotalOrder, ranks}
pub use Rattle.std.specs.List.Sorted.{IsBinarySearchResult, IsNonDecreasingBy, IsPermutation, IsSearchInRange}
unfoldable pub use Rattle.std.specs.List.Sorted.{IsStrictlySortedBy}
pub use Rattle.std.specs.List.{AllByRecursion as Each, AllZip, Contains, filter, insert, list_any, range_with_len}
unfoldable pub use Rattle.std.specs.List.{IsDistinct}
pub use Rattle.std.specs.Map.{keys_of, lookup, set_value}
pub use Rattle.std.specs.Option.{option_copied, option_map, option_map_or}
pub use Rattle.std.specs.Ordering.{MatchOrdering, int_eq, is_eq, is_lt, match_ordering, nat_cmp, ordering_index}
pub use Rattle.std.specs.Ordering.{ordering_reverse, ordering_then}
pub use Rattle.std.specs.Str.{IsUtf8, bytes_eq}
pub use Rattle.std.specs.Vec.{vec_capacity, vec_len}
pub use Rattle.std.specs.declared.cmp.Ordering.TheVariants.{Equal, Greater, Less}
pub use Rattle.std.specs.declared.cmp.Ordering.{Ordering}
pub use Rattle.words.proofs.OneItem.{spelling_one}
pub use Rattle.words.specs.Kinds.{is_opening}
pub use Rattle.words.specs.OpenLines.{IsOpenLine}
pub use Rattle.words.specs.Spelling.{IsInRange, spelling}
pub use Rattle.words.specs.declared.command.Command.TheVariants.{Deliver, More, Writeoff}
pub use Rattle.words.specs.declared.command.Command.{Command}
pub use Rattle.words.specs.declared.command.Request.{Request}
pub use Rattle.words.specs.declared.limits.TheConstants.{MAX_ORDER_LINES}
pub use Rattle.words.specs.declared.open_line.OpenLine.{OpenLine}
pub use Rattle.words.specs.declared.reply.Refusal.TheVariants.{KeyReused}
pub use Rattle.words.specs.declared.reply.Refusal.{Refusal}
pub use Rattle.words.specs.declared.reply.Reply.TheVariants.{Done, Refused}
pub use Rattle.words.specs.declared.reply.Reply.{Reply}
pub use lib.Pointwise.{bytes_decides}
pub use native.Mathlib.Decide.{dec_le}
