use Rattle.ledger.proofs.Prelude.{ap, arith, length, length-take, take}
use Rattle.book.proofs.OpenOrders.{few_open}
use Rattle.book.proofs.orders.open_among.Goals as goal

pub insert-requires-clause-room : goal.insert-requires-clause-room
insert-requires-clause-room c =
    let i = c.loop-order.order-index in
    let few = few_open (take i c.args.orders.now) in
    omega (
      arith,
      few,
      ap length c.loop-order.invariant.items,
      c.loop-order.invariant.room,
      c.loop-order-test.true,
      length-take i c.args.orders.now,
    )
