use Rattle.std.proofs.Common.{◌&&◌, nat_lt, refl}
use Rattle.ledger.specs.Ledger.{is_open}
use Rattle.web.specs.Answers.{json_answer}
use Rattle.web.specs.Objects.{orders_object}
use Rattle.web.specs.Orders.{open_above}
use Rattle.web.proofs.OrderLists.{list_written}
use Rattle.web.proofs.views.show_open.Goals as goal

pub returns : goal.returns
returns c =
    let A = c.args.book.now.ledger in
    let written =
    list_written A (λ o. is_open o && nat_lt c.args.floor o.number) _ _ c.in_ok-numbers.numbers.items c.requires
    c.deref.ensures.value
    c.in_ok-numbers.ensures c.in_ok-orders_answer.ensures in
    (json_answer 200 (orders_object (open_above A c.args.floor)), refl, written)
