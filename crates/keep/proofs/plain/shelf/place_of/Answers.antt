use Rattle.std.proofs.Common.{rules}
use Rattle.std.proofs.lemmas.Fn.{always_returns_same}
use Rattle.keep.specs.TableRows.{key_cmp}
use Rattle.keep.proofs.KeyOrders.{key_cmp_total}
use Rattle.keep.proofs.PlainRows.{searched_cells}
use Rattle.keep.proofs.plain.shelf.place_of.Goals as goal

-- the closure compares an element with the row
pub returns : goal.returns
returns g c =
    let cells = g.R.TableRow.cells in
    let facts = c.binary_search_by.ensures in
    let found =
    facts.position (λ x. key_cmp g.R.TableRow.which (cells x) (cells c.args.row.now))
    (always_returns_same _ _ _ (λ a r f' k. search rules)) in
    searched_cells cells (key_cmp g.R.TableRow.which) (key_cmp_total g.R.TableRow.which) c.args.row.now
    c.args.rows.now.items c.binary_search_by.result c.requires facts.bound found
