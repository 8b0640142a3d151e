use Rattle.ledger.proofs.Prelude.{[], ◌∙◌, ◌∷◌, ◌≡◌, AllZip, DeskCells, Each, IsFieldRow, IsGoodField, IsGoodKept}
use Rattle.ledger.proofs.Prelude.{KeptCells, List, Name, TellsField, ap, arith, field_cells, firm_cells, kept_cells}
use Rattle.ledger.proofs.Prelude.{kept_row, length, line_cells, map, move_cells, move_row, order_cells, places, subst}
use Rattle.ledger.proofs.Prelude.{sym, ℕ}
use Rattle.book.proofs.Prelude.{FieldEntry, IsFieldTold, IsKeptTold, IsMoveTold, KeptEntry, field_of, kept_of, move_of}
use Rattle.ledger.specs.declared.rows.FieldRow.{FieldRow}
use Rattle.ledger.specs.declared.rows.KeptRow.{KeptRow}
use Rattle.ledger.specs.Rows.{desk_of}
use Rattle.book.proofs.RowEntries.{fields_told, good_field, kept_told, moves_told, rows_of, tells_field}
use Rattle.ledger.proofs.Lists.{length-of-map, zip-length, zip-map}
use Rattle.ledger.proofs.EqualRows.{same_first}
use Rattle.ledger.proofs.TestResults.{passed_up}
use Rattle.book.proofs.book.tables.read_tables.Goals as goal

pub returns-in_err-fields-clause-damaged : goal.returns-in_err-fields-clause-damaged
returns-in_err-fields-clause-damaged c = passed_up c.from_residual.result c.in_err-fields.field-0.0 _ c.from_residual.ensures.1
    (λ is A g rows. c.in_err-fields.ensures.damaged is
    (fields_told A c.as_slice.result.now g
    (subst (λ (fs : List FieldRow). AllZip (IsFieldRow A) A.fields (map field_cells fs)) (sym c.as_slice.ensures)
    rows.fields)))

pub returns-in_err-moves-clause-damaged : goal.returns-in_err-moves-clause-damaged
returns-in_err-moves-clause-damaged c = passed_up c.from_residual-in_err-moves.result c.in_err-moves.field-0.0 _
    c.from_residual-in_err-moves.ensures.1
    (λ is A g rows. c.in_err-moves.ensures.damaged is
    (moves_told A c.as_slice-2.result.now g (ap (map move_cells) c.as_slice-2.ensures ∙ rows.moves)))

pub returns-in_err-orders-clause-damaged : goal.returns-in_err-orders-clause-damaged
returns-in_err-orders-clause-damaged c = passed_up c.from_residual-in_err-orders.result c.in_err-orders.field-0.0 _
    c.from_residual-in_err-orders.ensures.1
    (λ is A g rows. c.in_err-orders.ensures.damaged is A g
    (record {
      orders_are = ap (map order_cells) c.as_slice-3.ensures ∙ rows.orders;
      lines_are = ap (map line_cells) c.as_slice-4.ensures ∙ rows.lines;
      firms_are = ap (map firm_cells) c.as_slice-5.ensures ∙ rows.firms;
    }))

pub returns-in_err-kept-clause-damaged : goal.returns-in_err-kept-clause-damaged
returns-in_err-kept-clause-damaged c = passed_up c.from_residual-in_err-kept.result c.in_err-kept.field-0.0 _
    c.from_residual-in_err-kept.ensures.1
    (λ is A g rows. c.in_err-kept.ensures.damaged is
    (kept_told A c.as_slice-6.result.now g (ap (map kept_cells) c.as_slice-6.ensures ∙ rows.kept)))

pub returns-in_default-clause-damaged : goal.returns-in_default-clause-damaged
returns-in_default-clause-damaged c _ A g rows =
    let kept = c.in_ok-kept.kept.ok.0 in
    let told = zip-length IsKeptTold c.in_ok-kept.kept.items c.as_slice-6.result.now c.in_ok-kept.ensures.told in
    let same = ap (λ (cells : List KeptCells). length cells) (ap (map kept_cells) c.as_slice-6.ensures ∙ rows.kept) in
    let cells = length-of-map kept_cells c.as_slice-6.result.now in
    let ledger = length-of-map kept_row A.kept in
    let places : places A ≡ c.len.result = omega arith in
    c.in_default.ensures A.clock g.clock (same_first _ _ _ _ rows.desk ∙ ap (desk_of A.clock) places)

pub returns-clause-told : goal.returns-clause-told
returns-clause-told c =
    let told = c.in_ok-orders.ensures.told in
    let kept = c.in_ok-kept.kept.ok.0 in
    let seen = length-of-map kept_of c.in_ok-kept.kept.items in
    let places : c.len.result ≡ length (map kept_of c.in_ok-kept.kept.items) = omega arith in
    record {
      desk = ap (λ (d : DeskCells). d ∷ []) (c.in-Some.ensures.1 ∙ ap (desk_of c.in-Some.clock) places);
      fields = subst (λ (rows : List FieldRow).
          AllZip TellsField (map field_of c.in_ok-fields.fields.items) (map field_cells rows)) c.as_slice.ensures
          (zip-map IsFieldTold TellsField field_of field_cells tells_field c.in_ok-fields.fields.items
          c.as_slice.result.now c.in_ok-fields.ensures.told);
      moves =
          sym (ap (map move_cells) c.as_slice-2.ensures)
          ∙ rows_of IsMoveTold move_of move_row move_cells (λ e row told. told.cells) c.in_ok-moves.moves.items
          c.as_slice-2.result.now c.in_ok-moves.ensures.told;
      orders = sym (ap (map order_cells) c.as_slice-3.ensures) ∙ told.orders_are;
      lines = sym (ap (map line_cells) c.as_slice-4.ensures) ∙ told.lines_are;
      kept =
          sym (ap (map kept_cells) c.as_slice-6.ensures)
          ∙ rows_of IsKeptTold kept_of kept_row kept_cells (λ e row told. told.cells) c.in_ok-kept.kept.items
          c.as_slice-6.result.now c.in_ok-kept.ensures.told;
      firms = sym (ap (map firm_cells) c.as_slice-5.ensures) ∙ told.firms_are;
    }

good_fields : (es : List (Name × FieldEntry)) (rows : List FieldRow) → AllZip IsFieldTold es rows
    → Each IsGoodField (map field_of es)
good_fields [] [] told = tt
good_fields [] (r ∷ rows) told = absurd told
good_fields (e ∷ es) [] told = absurd told
good_fields (e ∷ es) (r ∷ rows) told = (good_field e r told.0, good_fields es rows told.1)

good_kept : (es : List (List ℕ × KeptEntry)) (rows : List KeptRow) → AllZip IsKeptTold es rows → Each IsGoodKept (map kept_of es)
good_kept [] [] told = tt
good_kept [] (r ∷ rows) told = absurd told
good_kept (e ∷ es) [] told = absurd told
good_kept (e ∷ es) (r ∷ rows) told = (record { key = told.0.key; command = told.0.command }, good_kept es rows told.1)

pub returns-clause-form : goal.returns-clause-form
returns-clause-form c = grind (arith, good_fields, good_kept)
