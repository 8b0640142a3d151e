use Rattle.book.proofs.Prelude.{BookView, order_of}
use Rattle.ledger.proofs.Prelude.{IsSomeAnd, Some, ◌∙◌, ◌≡◌, ap, option_map, subst, sym}
use Rattle.book.specs.Views.{ShowsOrder, open_from}
use Rattle.book.proofs.OpenOrders.{open_viewed}
use Rattle.book.proofs.book.Book.open_from.Goals as goal

pub returns-in-Some : goal.returns-in-Some
returns-in-Some c =
    let n = c.args.number in
    let found : open_from c.args.self.now.ledger n ≡ Some (order_of (c.in-Some.first.0, c.in-Some.first.1.now)) =
    ap (λ (v : BookView). open_from v.ledger n) (sym c.self.view_is) ∙ open_viewed n c.self.inside.orders.entries
    ∙ ap (option_map order_of) c.in-Some.ensures in
    subst (λ x. IsSomeAnd x (λ o. ShowsOrder o c.show_order.result)) (sym found) c.show_order.ensures

pub returns-in-None : goal.returns-in-None
returns-in-None c =
    let n = c.args.number in
    ap (λ (v : BookView). open_from v.ledger n) (sym c.self.view_is) ∙ open_viewed n c.self.inside.orders.entries
    ∙ ap (option_map order_of) c.in-None.ensures
