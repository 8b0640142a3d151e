-- Changes that are copied and put in one after the other.
use Rattle.std.proofs.Common.{◌≡◌, ◌∙◌, List, [], ◌∷◌, All, ap, refl, subst, sym}
use Rattle.std.proofs.lemmas.List.Elements.{All-cons, All-head, All-nil, All-tail}
use Rattle.std.specs.List.{AllZip}
use Rattle.std.specs.List.Sorted.{IsStrictlySortedBy}
use Rattle.ledger.specs.declared.rows.Change.{Change}
use Rattle.ledger.specs.declared.rows.Change.TheVariants as change
use Rattle.ledger.specs.Changes.{put_content, put_row}
use Rattle.ledger.specs.Rows.{Content, DeskCells, IsInKeyOrder, desk_cmp, field_cmp, firm_cmp, kept_cmp, line_cmp}
use Rattle.ledger.specs.Rows.{move_cmp, order_cmp}
use Rattle.ledger.specs.Tables.{desk_cells, field_cells, firm_cells, kept_cells, line_cells, move_cells, order_cells}
use Rattle.ledger.specs.Tables.{rows_among, with_change}
use Rattle.keep.specs.Content.{IsTheRow, new_content}
use Rattle.keep.proofs.KeyOrders.{key_cmp_total}
use Rattle.keep.specs.declared.table_row.TableName.TheVariants as table
use Rattle.keep.specs.Plain.{IsCopy, IsInOrder, row_of, shelf_content}
use Rattle.keep.specs.declared.plain.shelf.Shelf.{Shelf}
use Rattle.keep.proofs.PlainRows.{put_sorted}

-- copies have the same rows
pub same_rows : (cs ds : List Change) → AllZip IsCopy cs ds → rows_among ds ≡ rows_among cs
same_rows [] [] h = refl
same_rows [] (d ∷ ds) h = absurd h
same_rows (c ∷ cs) [] h = absurd h
same_rows (c ∷ cs) (d ∷ ds) h = h.0 (rows_among ds) ∙ ap (with_change c) (same_rows cs ds h.1)

-- the first change is put in before the others
pub put_first : (c : Change) (cs : List Change) (x : Content)
    → put_content (rows_among (c ∷ cs)) x ≡ put_content (rows_among cs) (put_content (row_of c) x)
put_first (change.Desk r) cs x = refl
put_first (change.Field r) cs x = refl
put_first (change.Move r) cs x = refl
put_first (change.Order r) cs x = refl
put_first (change.Line r) cs x = refl
put_first (change.Kept r) cs x = refl
put_first (change.Firm r) cs x = refl

-- ---- the row of `desk`

-- the one row is replaced
pub desk_put : (new old : DeskCells) → IsTheRow new → IsTheRow old → put_row desk_cmp new (old ∷ []) ≡ new ∷ []
desk_put new old is was = rw (is.0, was.0) refl

pub one_first : (c : Change) (cs : List Change) → All IsTheRow (rows_among (c ∷ cs)).desk → All IsTheRow (row_of c).desk
one_first (change.Desk r) cs h =
    All-cons IsTheRow (desk_cells r) [] (All-head IsTheRow (desk_cells r) (rows_among cs).desk h) (All-nil IsTheRow)
one_first (change.Field r) cs h = All-nil IsTheRow
one_first (change.Move r) cs h = All-nil IsTheRow
one_first (change.Order r) cs h = All-nil IsTheRow
one_first (change.Line r) cs h = All-nil IsTheRow
one_first (change.Kept r) cs h = All-nil IsTheRow
one_first (change.Firm r) cs h = All-nil IsTheRow

pub one_later : (c : Change) (cs : List Change) → All IsTheRow (rows_among (c ∷ cs)).desk → All IsTheRow (rows_among cs).desk
one_later (change.Desk r) cs h = All-tail IsTheRow (desk_cells r) (rows_among cs).desk h
one_later (change.Field r) cs h = h
one_later (change.Move r) cs h = h
one_later (change.Order r) cs h = h
one_later (change.Line r) cs h = h
one_later (change.Kept r) cs h = h
one_later (change.Firm r) cs h = h

-- ---- the rows stay in the order of their keys

rows_stay : (c : Change) (x : Content) → IsInKeyOrder x → IsInKeyOrder (put_content (row_of c) x)
rows_stay (change.Desk r) x h = record {
  fields = h.fields;
  moves = h.moves;
  orders = h.orders;
  lines = h.lines;
  kept = h.kept;
  firms = h.firms;
}
rows_stay (change.Field r) x h = record {
  fields = put_sorted field_cmp (key_cmp_total table.Field) (field_cells r) x.fields h.fields;
  moves = h.moves;
  orders = h.orders;
  lines = h.lines;
  kept = h.kept;
  firms = h.firms;
}
rows_stay (change.Move r) x h = record {
  fields = h.fields;
  moves = put_sorted move_cmp (key_cmp_total table.Move) (move_cells r) x.moves h.moves;
  orders = h.orders;
  lines = h.lines;
  kept = h.kept;
  firms = h.firms;
}
rows_stay (change.Order r) x h = record {
  fields = h.fields;
  moves = h.moves;
  orders = put_sorted order_cmp (key_cmp_total table.Orders) (order_cells r) x.orders h.orders;
  lines = h.lines;
  kept = h.kept;
  firms = h.firms;
}
rows_stay (change.Line r) x h = record {
  fields = h.fields;
  moves = h.moves;
  orders = h.orders;
  lines = put_sorted line_cmp (key_cmp_total table.Line) (line_cells r) x.lines h.lines;
  kept = h.kept;
  firms = h.firms;
}
rows_stay (change.Kept r) x h = record {
  fields = h.fields;
  moves = h.moves;
  orders = h.orders;
  lines = h.lines;
  kept = put_sorted kept_cmp (key_cmp_total table.Kept) (kept_cells r) x.kept h.kept;
  firms = h.firms;
}
rows_stay (change.Firm r) x h = record {
  fields = h.fields;
  moves = h.moves;
  orders = h.orders;
  lines = h.lines;
  kept = h.kept;
  firms = put_sorted firm_cmp (key_cmp_total table.Firm) (firm_cells r) x.firms h.firms;
}

abbrev first_row : List DeskCells → DeskCells → DeskCells
first_row [] d = d
first_row (x ∷ xs) d = x

desk_stays : (c : Change) (x : Content) (old : DeskCells) → x.desk ≡ old ∷ [] → IsTheRow old
    → All IsTheRow (row_of c).desk → (new : DeskCells) → (put_content (row_of c) x).desk ≡ new ∷ [] → IsTheRow new
desk_stays (change.Desk r) x old e was h new is =
    let row = All-head IsTheRow (desk_cells r) [] h in
    let same : desk_cells r ∷ [] ≡ new ∷ [] =
    sym (ap (λ (rows : List DeskCells). put_row desk_cmp (desk_cells r) rows) e
    ∙ desk_put (desk_cells r) old row was) ∙ is in
    subst IsTheRow (ap (λ (rows : List DeskCells). first_row rows new) same) row
desk_stays (change.Field r) x old e was h new is =
    subst IsTheRow (ap (λ (rows : List DeskCells). first_row rows new) (sym e ∙ is)) was
desk_stays (change.Move r) x old e was h new is =
    subst IsTheRow (ap (λ (rows : List DeskCells). first_row rows new) (sym e ∙ is)) was
desk_stays (change.Order r) x old e was h new is =
    subst IsTheRow (ap (λ (rows : List DeskCells). first_row rows new) (sym e ∙ is)) was
desk_stays (change.Line r) x old e was h new is =
    subst IsTheRow (ap (λ (rows : List DeskCells). first_row rows new) (sym e ∙ is)) was
desk_stays (change.Kept r) x old e was h new is =
    subst IsTheRow (ap (λ (rows : List DeskCells). first_row rows new) (sym e ∙ is)) was
desk_stays (change.Firm r) x old e was h new is =
    subst IsTheRow (ap (λ (rows : List DeskCells). first_row rows new) (sym e ∙ is)) was

pub stays_in_order : (c : Change) (old new : Shelf) → All IsTheRow (row_of c).desk
    → shelf_content new ≡ put_content (row_of c) (shelf_content old) → IsInOrder old → IsInOrder new
stays_in_order c old new one e h = record {
  rows = subst IsInKeyOrder (sym e) (rows_stay c (shelf_content old) h.rows);
  desk =
      desk_stays c (shelf_content old) (desk_cells old.desk) refl h.desk one (desk_cells new.desk)
      (sym (ap (λ (x : Content). x.desk) e));
}

pub new_in_order : IsInKeyOrder new_content
unfolding IsStrictlySortedBy
new_in_order = record { fields = tt; moves = tt; orders = tt; lines = tt; kept = tt; firms = tt }
