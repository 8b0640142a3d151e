use Rattle.ledger.proofs.Prelude.{◌∙◌, ◌≡◌, AllZip, Content, Each, Field, Good, IsFieldRow, IsRowsOf, Kept, Ledger}
use Rattle.ledger.proofs.Prelude.{Order, ap, arith, map, map-map, subst, sym}
use Rattle.book.proofs.Prelude.{IsUpToDate, field_of, kept_of, ledger_of, move_of, order_of, told_ledger}
use Rattle.ledger.specs.Tables.{content_of}
use Rattle.ledger.proofs.TestResults.{true_not_false}
use Rattle.ledger.proofs.EqualRows.{one_content, rows_are, rows_of, rows_tell, told_once}
use Rattle.book.proofs.RowEntries.{told_bounded, told_rows}
use Rattle.book.proofs.RunningNumbers.{entries_of_rows, rows_of_entries}
use Rattle.book.proofs.book.Book.of_tables.Goals as goal

pub are_good-requires-clause-bounded : goal.are_good-requires-clause-bounded
are_good-requires-clause-bounded c =
    told_bounded c.in_ok-entries.entries.fields.items c.args.tables.fields c.in_ok-entries.ensures.fields

pub returns-in-Ok-false-clause-damaged : goal.returns-in-Ok-false-clause-damaged
returns-in-Ok-false-clause-damaged c _ A g rows =
    let B : Ledger = told_ledger c.in_ok-entries.entries in
    let C = content_of c.args.tables in
    let same = told_once A B C g c.in_ok-entries.ensures.form.kept (rows_tell A C rows) c.in_ok-entries.ensures.told in
    let good = subst Good same g in
    let fields = told_rows c.in_ok-entries.entries.fields.items c.args.tables.fields c.in_ok-entries.ensures.fields
    ∙ ap (λ (D : Content). D.fields)
    (one_content B C (rows_of B) (subst (λ (L : Ledger). IsRowsOf L C) same rows) (rows_are B good)) in
    true_not_false
    (c.in-Ok-false.ensures.1 (good, (entries_of_rows B c.in_ok-entries.entries.fields.items B.fields fields).1))
    c.in-Ok-false.field-0-test

pub from_sorted-requires : goal.from_sorted-requires
from_sorted-requires c = grind (arith, (map-map (λ (f : Field). f.name) field_of c.in_ok-entries.entries.fields.items))

pub from_sorted-requires-2 : goal.from_sorted-requires-2
from_sorted-requires-2 c = grind (arith, (map-map (λ (o : Order). o.number) order_of c.in_ok-entries.entries.orders.items))

pub from_sorted-requires-3 : goal.from_sorted-requires-3
from_sorted-requires-3 c = grind (arith, (map-map (λ (k : Kept). k.key) kept_of c.in_ok-entries.entries.kept.items))

pub returns-clause-ok : goal.returns-clause-ok
returns-clause-ok c =
    let B : Ledger = told_ledger c.in_ok-entries.entries in
    let good = c.in-Ok-true.ensures.0 c.in-Ok-true.field-0-test in
    let told = c.in_ok-entries.ensures.told in
    let rows =
    sym (told_rows c.in_ok-entries.entries.fields.items c.args.tables.fields c.in_ok-entries.ensures.fields)
    ∙ rows_of_entries B c.in_ok-entries.entries.fields.items good.1 in
    let is : B
    ≡ ledger_of (record {
      clock = c.in_ok-entries.entries.clock;
      fields = c.in-Ok.fields;
      moves = c.in_ok-entries.entries.moves;
      orders = c.in-Ok-from_sorted.orders;
      kept = c.in-Ok-from_sorted-2.kept;
    }) = λ i. record {
      clock = c.in_ok-entries.entries.clock;
      fields = map field_of (sym c.in-Ok.ensures i);
      moves = map move_of c.in_ok-entries.entries.moves.items;
      orders = map order_of (sym c.in-Ok-from_sorted.ensures i);
      kept = map kept_of (sym c.in-Ok-from_sorted-2.ensures i);
    } in
    subst (λ (L : Ledger). Good L × IsRowsOf L (content_of c.args.tables)) is (
      good.0,
      record {
        desk = told.desk;
        fields = subst (AllZip (IsFieldRow B) B.fields) (sym rows) (rows_are B good.0).fields;
        moves = told.moves;
        orders = told.orders;
        lines = told.lines;
        kept = told.kept;
        firms = told.firms;
      },
    )

pub invariant_of-result : goal.invariant_of-result
invariant_of-result c =
    let B : Ledger = told_ledger c.in_ok-entries.entries in
    let good = c.in-Ok-true.ensures.0 c.in-Ok-true.field-0-test in
    let is : B
    ≡ ledger_of (record {
      clock = c.in_ok-entries.entries.clock;
      fields = c.in-Ok.fields;
      moves = c.in_ok-entries.entries.moves;
      orders = c.in-Ok-from_sorted.orders;
      kept = c.in-Ok-from_sorted-2.kept;
    }) = λ i. record {
      clock = c.in_ok-entries.entries.clock;
      fields = map field_of (sym c.in-Ok.ensures i);
      moves = map move_of c.in_ok-entries.entries.moves.items;
      orders = map order_of (sym c.in-Ok-from_sorted.ensures i);
      kept = map kept_of (sym c.in-Ok-from_sorted-2.ensures i);
    } in
    let up = subst (Each (IsUpToDate B)) (sym c.in-Ok.ensures) good.1 in
    (subst Good is good.0, subst (λ (L : Ledger). Each (IsUpToDate L) c.in-Ok.fields.entries) is up)
