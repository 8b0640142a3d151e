use Rattle.book.proofs.Prelude.{BookView}
use Rattle.ledger.proofs.Prelude.{◌∙◌, ap, open_orders}
use Rattle.book.proofs.OpenOrders.{open_counted}
use Rattle.book.proofs.book.Book.open_count.Goals as goal

pub returns : goal.returns
returns c =
    c.open_count.ensures ∙ open_counted c.self.inside.orders.entries
    ∙ ap (λ (v : BookView). open_orders v.ledger) c.self.view_is
