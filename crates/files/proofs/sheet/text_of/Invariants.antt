-- the lines of the fields below the index are there, and their values are added up
use Rattle.std.proofs.Common.{◌≡◌, ◌≤◌, ◌*◌, List, filter, flat_map, sum_by, take}
use Rattle.std.specs.List.{AllZip}
use Rattle.book.specs.Views.{ShowsField}
use Rattle.book.specs.declared.book.views.FieldView.{FieldView}
use Rattle.files.specs.Sheets.{field_line, is_on, title_of}
use Rattle.files.proofs.sheet.text_of.Given as goal

abbrev pub invariant-loop-index : goal.invariant-loop-index
invariant-loop-index l = (views : List FieldView)
    × AllZip (ShowsField l.book.ledger) (filter (λ f. is_on l.shown f.name) (take l.index l.book.ledger.fields)) views
    × (l.text.items ≡ flat_map (λ v. field_line (title_of l.shown v) v) views)
    × (l.total ≡ sum_by (λ v. v.value) views)
    × (l.total ≤ l.index * 1000000000)
