use Rattle.std.proofs.Common.{MatchOption, None, subst, ◌≡◌}
use Rattle.std.specs.Option.{IsSomeAnd}
use Rattle.ledger.specs.Ledger.{order_numbered}
use Rattle.book.specs.Views.{ShowsOrder}
use Rattle.desk.proofs.desk.Desk.order.Goals as goal

pub returns : goal.returns
returns g c =
    subst (λ d. MatchOption c.order.result (order_numbered d.ledger c.args.number ≡ None)
    (λ view. IsSomeAnd (order_numbered d.ledger c.args.number) (λ o. ShowsOrder o view))) c.self.view_is
    c.order.ensures
