use Rattle.std.proofs.Common.{◌≡◌, Bool, is_lt, of_calls, refl, rules}
use Rattle.std.proofs.lemmas.Fn.{always_returns_same}
use Rattle.ledger.proofs.InRow.{neighbours}
use Rattle.keep.specs.TableRows.{key_cmp}
use Rattle.keep.proofs.KeyOrders.{key_cmp_total}
use Rattle.sql_keep.proofs.table.are_in_order.Goals as goal

pub returns : goal.returns
returns g c =
    let cells = g.R.TableRow.cells in
    let before : g.row.R.Denot → g.row.R.Denot → Bool = λ x y. is_lt (key_cmp g.R.TableRow.which (cells x) (cells y)) in
    neighbours (key_cmp g.R.TableRow.which) (key_cmp_total g.R.TableRow.which) cells before (λ x y. refl)
    c.args.rows.now c.is_sorted_by.result
    (c.is_sorted_by.ensures.cases before
    (always_returns_same _ (λ a r. r ≡ before a.0.now a.1.0.now) _ (λ a r f k. search (rules, of_calls))))
