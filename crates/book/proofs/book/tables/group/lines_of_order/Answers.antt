use Rattle.ledger.proofs.Prelude.{◌++◌, ◌∙◌, ◌≡◌, LineCells, List, ap, arith, drop, length, length-take-le, line_cells}
use Rattle.ledger.proofs.Prelude.{lines_from, map, map-append, subst, sym, take, take-append-drop, true≢false}
use Rattle.book.proofs.Prelude.{BeginsOther, IsLineTold}
use Rattle.ledger.specs.declared.rows.LineRow.{LineRow}
use Rattle.book.proofs.LineGroups.{begins-cells, number-cells, numbered-from, own_rows, split_rows}
use Rattle.ledger.proofs.Lists.{zip-length, zip-take}
use Rattle.book.proofs.book.tables.group.lines_of_order.Goals as goal

pub slice_bounds-from_slice-end : goal.slice_bounds-from_slice-end
slice_bounds-from_slice-end c = grind (arith, (zip-length IsLineTold c.args.lines.now c.args.rows.now c.requires), length-take-le)

cut : (rows : List LineRow) (i : _) → map line_cells (take i rows) ++ map line_cells (drop i rows) ≡ map line_cells rows
cut rows i = sym (map-append line_cells (take i rows) (drop i rows)) ∙ ap (map line_cells) (take-append-drop i rows)

own_length : (c : goal.In-Ok) → length c.in-Ok.own.items ≡ c.run_length-count.result
own_length c = grind (arith, (zip-length IsLineTold c.args.lines.now c.args.rows.now c.requires), length-take-le)

pub returns-then-not-are_numbered-clause-damaged : goal.returns-then-not-are_numbered-clause-damaged
returns-then-not-are_numbered-clause-damaged c _ own rest others e =
    let n = c.run_length-count.result in
    let rows = c.args.rows.now in
    let parts = split_rows c.args.number 1 own rest (map line_cells (take n rows)) (map line_cells (drop n rows)) others
    (number-cells c.args.number (take n rows) c.run_length-count.ensures.run)
    (begins-cells c.args.number (drop n rows) c.run_length-count.ensures.end) (e ∙ sym (cut rows n)) in
    true≢false (sym (c.are_numbered.ensures.1 (numbered-from c.args.number 1 own (take n rows) parts.0))
    ∙ c.if-not-are_numbered.true)

pub returns-in-Ok-clause-told : goal.returns-in-Ok-clause-told
returns-in-Ok-clause-told c =
    let n = c.run_length-count.result in
    let rows = c.args.rows.now in
    let own : lines_from c.args.number 1 c.in-Ok.own.items ≡ map line_cells (take n rows) =
    ap (lines_from c.args.number 1) c.in-Ok.ensures.items
    ∙ own_rows c.args.number 1 (take n c.args.lines.now) (take n rows)
    (zip-take IsLineTold n c.args.lines.now rows c.requires) c.run_length-count.ensures.run
    (c.are_numbered.ensures.0 c.if-not-are_numbered.false) in
    ap (λ (first : List LineCells). first ++ map line_cells (drop (length c.in-Ok.own.items) rows)) own
    ∙ ap (λ k. map line_cells (take n rows) ++ map line_cells (drop k rows)) (own_length c) ∙ cut rows n

pub returns-in-Ok-clause-end : goal.returns-in-Ok-clause-end
returns-in-Ok-clause-end c =
    subst (λ k. BeginsOther c.args.number (drop k c.args.rows.now)) (sym (own_length c)) c.run_length-count.ensures.end
