-- The table of the rows that each command changes. A law says that they are the rows of `changed_rows`.
use Rattle.std.specs.Prelude.{ℕ, ◌+◌, Bool, false, ◌&&◌, ◌||◌, List, [], ◌∷◌, ℤ, map, neg_ℤ, pos}
use Rattle.std.specs.List.{filter, list_any}
use Rattle.std.specs.Option.{option_map_or}
use Rattle.words.specs.declared.command.Command.{Command}
use Rattle.words.specs.declared.command.Command.TheVariants.{Field, Deliver, Writeoff, Rebound, Open, Transfer, More}
use Rattle.words.specs.declared.command.Command.TheVariants.{Use, Release, Commit, Abort, Firm, Expire}
use Rattle.words.specs.declared.command.Request.{Request}
use Rattle.ledger.specs.Ledger.{Ledger, Name, Order, is_transfer, name_of, on, order_numbered, places, same_name}
use Rattle.ledger.specs.Next.{add_hold, change_lines, expires, lower_held, new_key, new_order, raise_used, set_state}
use Rattle.ledger.specs.Next.{transfer_lines}
use Rattle.ledger.specs.Rows.{Content, FirmCells, LineCells, MoveCells, OrderCells, firm_row, kept_row, move_row}
use Rattle.ledger.specs.Rows.{order_lines, order_row}
use Rattle.ledger.specs.declared.order.Kind.TheVariants as kind
use Rattle.ledger.specs.declared.order.State.TheVariants.{Aborted, Committed}

-- The fields whose rows change, and the rows of the other tables that change. Beside these the row of the desk and
-- the new row of the key change.
pub record TableRows : Type 0 where
  pub fields : Name → Bool
  pub moves : List MoveCells
  pub orders : List OrderCells
  pub lines : List LineCells
  pub firms : List FirmCells

abbrev pub no_rows : TableRows
no_rows = record { fields = λ f. false; moves = []; orders = []; lines = []; firms = [] }

-- some line of the order is on the field
abbrev pub has_line_on : Name → Order → Bool
has_line_on f o = list_any (on f) o.lines

-- some line on the field f changes with a use or a release on the field `part`: it is the line on that field, and on
-- a transfer either line
abbrev pub has_part_on : Name → Name → Order → Bool
has_part_on part f o = list_any (λ l. on f l && (is_transfer o || on part l)) o.lines

-- the rows of these lines
abbrev pub part_rows : Name → Order → List LineCells
part_rows part o = filter (λ row. is_transfer o || same_name part (name_of row.branch row.article)) (order_lines o)

-- a new order: its row, those of its lines and their fields
abbrev pub opened_rows : Order → TableRows
opened_rows o = record no_rows { fields = λ f. has_line_on f o; orders = order_row o ∷ []; lines = order_lines o }

-- the rows of a move of that amount, at the next place
abbrev pub moved_rows : Ledger → Name → ℤ → TableRows
moved_rows A f amount = record no_rows {
  fields = λ g. same_name g f;
  moves = move_row (record { place = places A + 1; field = f; amount = amount }) ∷ [];
}

-- the rows that the order under that number gives
abbrev pub of_order : Ledger → ℕ → (Order → TableRows) → TableRows
of_order A n rows = option_map_or rows (order_numbered A n) no_rows

-- The table, by commands: the fields whose numbers are made anew (also where they come out as they were), the moves,
-- the orders that are new or end, the lines that are new or whose amounts change, and the new marks.
abbrev pub rows_by_command : Ledger → Command → TableRows
rows_by_command A (Field b a lo hi start) = record no_rows { fields = λ f. same_name f (name_of b a) }
rows_by_command A (Deliver b a q) = moved_rows A (name_of b a) (pos q)
rows_by_command A (Writeoff b a q) = moved_rows A (name_of b a) (neg_ℤ (pos q))
rows_by_command A (Rebound b a lo hi) = record no_rows { fields = λ f. same_name f (name_of b a) }
rows_by_command A (Open n until lines) = opened_rows (new_order n kind.Plain until lines)
rows_by_command A (Transfer n until a from to q) = opened_rows (new_order n kind.Transfer until (transfer_lines a from to q))
rows_by_command A (More n way b a q) = of_order A n (λ o. record no_rows {
  fields = λ f. same_name f (name_of b a);
  lines = part_rows (name_of b a) (add_hold (record { way = way; branch = b; article = a; qty = q }) o);
})
rows_by_command A (Use n b a q) = of_order A n (λ o. record no_rows {
  fields = λ f. o.firm && has_part_on (name_of b a) f o;
  lines = part_rows (name_of b a) (change_lines (name_of b a) (raise_used q) o);
})
rows_by_command A (Release n b a q) = of_order A n (λ o. record no_rows {
  fields = λ f. has_part_on (name_of b a) f o;
  lines = part_rows (name_of b a) (change_lines (name_of b a) (lower_held q) o);
})
rows_by_command A (Commit n) = of_order A n (λ o. record no_rows {
  fields = λ f. has_line_on f o;
  orders = order_row (set_state Committed o) ∷ [];
})
rows_by_command A (Abort n) = of_order A n (λ o. record no_rows {
  fields = λ f. has_line_on f o;
  orders = order_row (set_state Aborted o) ∷ [];
})
rows_by_command A (Firm n) = of_order A n (λ o. record no_rows {
  fields = λ f. has_line_on f o;
  firms = firm_row n ∷ [];
})
rows_by_command A (Expire now) = record no_rows {
  fields = λ f. list_any (has_line_on f) (filter (expires now) A.orders);
  orders = map (λ o. order_row (set_state Aborted o)) (filter (expires now) A.orders);
}

-- the rows that the request changes by the table, out of `next`, the rows of the next ledger
abbrev pub rows_told : Ledger → Request → Content → Content
rows_told A r next = let t = rows_by_command A r.command in record {
  desk = next.desk;
  fields = filter (λ row. t.fields (name_of row.branch row.article)) next.fields;
  moves = t.moves;
  orders = t.orders;
  lines = t.lines;
  kept = kept_row (new_key A r) ∷ [];
  firms = t.firms;
}
