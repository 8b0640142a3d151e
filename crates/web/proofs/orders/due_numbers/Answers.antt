use Rattle.std.proofs.Common.{◌∙◌, ap, take}
use Rattle.web.proofs.OrderLists.{due_listed}
use Rattle.web.proofs.orders.due_numbers.Goals as goal

pub returns : goal.returns
returns c = c.truncate.ensures.items ∙ ap (take 50) c.in-Ok.ensures ∙ due_listed c.args.book.now.ledger c.args.moment
