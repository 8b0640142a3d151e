use Rattle.book.proofs.OpenOrders.{gap_is_first, place_is_first}
use Rattle.book.proofs.orders.first_from.Goals as goal

pub returns-in-Ok : goal.returns-in-Ok
returns-in-Ok c = place_is_first c.args.number c.args.numbers.now.items c.in-Ok.place c.requires c.in-Ok.ensures

pub returns-in-Err : goal.returns-in-Err
returns-in-Err c = gap_is_first c.args.number c.args.numbers.now.items c.in-Err.place c.in-Err.ensures
