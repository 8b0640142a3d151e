use Rattle.ledger.proofs.Prelude.{ap, arith, length}
use Rattle.book.proofs.orders.Orders.reserve.Goals as goal

pub overflow_add-len : goal.overflow_add-len
overflow_add-len c = omega (arith, c.len.ensures.len, ap length c.reserve.ensures.same, c.self.invariant.1, c.self.invariant.2)
