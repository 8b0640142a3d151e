use Rattle.std.proofs.lemmas.Fn.{always_returns_same}
use Rattle.ledger.proofs.Prelude.{nat_cmp, rules}
use Rattle.book.proofs.OpenOrders.{searched_at}
use Rattle.book.proofs.orders.place_of.Goals as goal

-- the closure compares a number with that one
pub returns : goal.returns
returns c = searched_at c.args.number c.args.numbers.now.items c.binary_search_by.result c.requires
    (c.binary_search_by.ensures.position (λ m. nat_cmp m c.args.number) (always_returns_same _ _ _ (λ a r f' k. search rules)))
