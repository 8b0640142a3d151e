use Rattle.ledger.proofs.Prelude.{ap, map, rows_among}
use Rattle.book.proofs.Prelude.{order_of}
use Rattle.book.proofs.OneWay.{made_by}
use Rattle.book.proofs.book.Book.made.Goals as goal

pub returns : goal.returns
returns c = made_by c.args.self.now.ledger c.args.request.now.command _ c.push_steps.new.made
    (ap (map order_of) c.new.ensures.items) (ap (λ m. m.entries) c.new-2.ensures) (ap rows_among c.new-3.ensures.items)
    c.in_ok-push_steps.ensures
