use Rattle.std.proofs.Common.{refl}
use Rattle.ledger.specs.Next.{expires}
use Rattle.web.specs.Answers.{json_answer}
use Rattle.web.specs.Objects.{orders_object}
use Rattle.web.specs.Orders.{due}
use Rattle.web.proofs.OrderLists.{list_written}
use Rattle.web.proofs.views.show_due.Goals as goal

pub returns : goal.returns
returns c =
    let A = c.args.book.now.ledger in
    let written =
    list_written A (expires c.args.moment) _ _ c.in_ok-numbers.numbers.items c.requires c.deref.ensures.value
    c.in_ok-numbers.ensures c.in_ok-orders_answer.ensures in
    (json_answer 200 (orders_object (due A c.args.moment)), refl, written)
