-- Which rows an accepted command changes, and how rows are put in by their keys.
use Rattle.std.specs.Prelude.{ℕ, ◌+◌, ◌++◌, Bool, List, [], ◌∷◌, flat_map, map, Option, Some, option_map}
use Rattle.std.specs.Prelude.{option_to_list, if◌then◌else◌}
use Rattle.std.specs.declared.cmp.Ordering.{Ordering}
use Rattle.std.specs.Ordering.{is_eq, is_lt}
use Rattle.std.specs.List.{list_any, filter, fold}
use Rattle.words.specs.declared.command.Command.{Command}
use Rattle.words.specs.declared.command.Command.TheVariants.{Field, Rebound}
use Rattle.words.specs.declared.command.Request.{Request}
use Rattle.ledger.specs.Ledger.{Name, Ledger, line_name, same_name, places, name_of}
use Rattle.ledger.specs.declared.order.Line.{Line}
use Rattle.ledger.specs.Next.{move_made, moved_at_once, new_key}
use Rattle.ledger.specs.Rows.{Content, FirmCells, LineCells, OrderCells, desk_cmp, field_cmp, firm_cmp, firm_row}
use Rattle.ledger.specs.Rows.{kept_cmp, kept_row, line_cmp, line_row, move_cmp, move_row, order_cmp, order_row}
use Rattle.ledger.specs.Steps.{LineStep, Step, becomes_firm, changes_line, changes_state, changes_stock, lines_of, steps_of}

-- the field that the command makes, moves at once or gives other bounds
abbrev pub own_field : Command → Option Name
own_field (Field b a lo hi start) = Some (name_of b a)
own_field (Rebound b a lo hi) = Some (name_of b a)
own_field c = option_map (λ m. m.0) (moved_at_once c)

-- the lines of the order for which the numbers of their fields are made anew
abbrev pub stock_lines : Step → List Line
stock_lines s = map (λ l. l.after) (filter (changes_stock s) (lines_of s))

-- the fields that the command touches: its own, and those of these lines
abbrev pub touched_fields : Ledger → Command → List Name
touched_fields A c = option_to_list (own_field c) ++ map line_name (flat_map stock_lines (steps_of A c))

-- the row of the field is new, or its numbers are made anew, also where they come out as they were
abbrev pub changes_field : Ledger → Command → Name → Bool
changes_field A c f = list_any (same_name f) (touched_fields A c)

-- the row of the order, if it is new or its state changes
abbrev pub state_row : Step → List OrderCells
state_row s = if changes_state s then order_row s.after ∷ [] else []

-- the row of the line of the order under that number, if it is new or one of its amounts changes
abbrev pub amount_row : ℕ → LineStep → List LineCells
amount_row number l = if changes_line l then line_row number l.nr l.after ∷ [] else []

abbrev pub amount_rows : Step → List LineCells
amount_rows s = flat_map (amount_row s.after.number) (lines_of s)

-- the row that marks the order as firm, if that is new
abbrev pub mark_row : Step → List FirmCells
mark_row s = if becomes_firm s then firm_row s.after.number ∷ [] else []

-- The rows that the request writes. Those of `desk` and of fields are taken from `next`, the rows of the next ledger; the
-- others are made from the request and the steps.
abbrev pub changed_rows : Ledger → Request → Content → Content
changed_rows A r next = record {
  desk = next.desk;
  fields = filter (λ row. changes_field A r.command (name_of row.branch row.article)) next.fields;
  moves = map move_row (option_to_list (move_made (places A + 1) r.command));
  orders = flat_map state_row (steps_of A r.command);
  lines = flat_map amount_rows (steps_of A r.command);
  kept = kept_row (new_key A r) ∷ [];
  firms = flat_map mark_row (steps_of A r.command);
}

-- ---- rows put in

-- the rows with one more put in: it replaces the row with the same key, or else is added in the order of the keys
abbrev pub put_row : {R : Type 0} → (R → R → Ordering) → R → List R → List R
put_row cmp row [] = row ∷ []
put_row cmp row (old ∷ rows) =
    if is_lt (cmp row old) then row ∷ old ∷ rows else (if is_eq (cmp row old) then row ∷ rows
    else old ∷ put_row cmp row rows)

-- rows put in one after the other
abbrev pub put_rows : {R : Type 0} → (R → R → Ordering) → List R → List R → List R
put_rows cmp rows old = fold (λ present row. put_row cmp row present) old rows

-- the rows of each table put into it
abbrev pub put_content : Content → Content → Content
put_content new C = record {
  desk = put_rows desk_cmp new.desk C.desk;
  fields = put_rows field_cmp new.fields C.fields;
  moves = put_rows move_cmp new.moves C.moves;
  orders = put_rows order_cmp new.orders C.orders;
  lines = put_rows line_cmp new.lines C.lines;
  kept = put_rows kept_cmp new.kept C.kept;
  firms = put_rows firm_cmp new.firms C.firms;
}
