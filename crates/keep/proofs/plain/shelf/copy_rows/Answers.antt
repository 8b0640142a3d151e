use Rattle.std.proofs.Common.{◌≡◌, arith, sym}
use Rattle.std.proofs.lemmas.Option.{get_or_from_slice_get, slice_get_within}
use Rattle.keep.proofs.PlainRows.{copied, copied_all, same_cells}
use Rattle.keep.proofs.plain.shelf.copy_rows.Goals as goal

pub loop-place-preserved : goal.loop-place-preserved
loop-place-preserved g c =
    let Is : g.row.R.Denot → g.row.R.Denot → Type 0 = λ a b. g.R.TableRow.cells b ≡ g.R.TableRow.cells a in
    let rows = c.args.rows.now.items in
    rw c.in_ok-push.ensures.items
    (copied Is rows c.loop-place.copies.items c.loop-place.place c.get.result.now c.in_ok-copy.field-0
    (slice_get_within rows _ _ c.get.ensures) (sym (get_or_from_slice_get rows _ _ _ c.get.ensures))
    c.loop-place.invariant c.in_ok-copy.ensures)

pub returns : goal.returns
returns g c =
    same_cells g.R.TableRow.cells _ _
    (copied_all (λ a b. g.R.TableRow.cells b ≡ g.R.TableRow.cells a) c.args.rows.now.items c.loop-place.copies.items
    c.loop-place.place (omega (arith, c.loop-place-test.false, c.len-place-end.ensures.value))
    c.loop-place.invariant)
