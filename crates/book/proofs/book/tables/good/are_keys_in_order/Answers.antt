use Rattle.ledger.proofs.Prelude.{◌≡◌, always_returns_same, is_lt, of_calls, refl, rules}
use Rattle.ledger.proofs.InRow.{neighbours}
use Rattle.book.proofs.book.tables.good.are_keys_in_order.Goals as goal

pub returns : goal.returns
returns g c =
    neighbours g.K.Ord.cmp g.met.K.Ord.total (λ e. e.0) (λ x y. is_lt (g.K.Ord.cmp x.0 y.0)) (λ x y. refl)
    c.args.entries.now c.is_sorted_by.result
    (c.is_sorted_by.ensures.cases (λ x y. is_lt (g.K.Ord.cmp x.0 y.0))
    (always_returns_same _ (λ a r. r ≡ is_lt (g.K.Ord.cmp a.0.now.0 a.1.0.now.0)) _
    (λ a r f k. search (rules, of_calls))))
