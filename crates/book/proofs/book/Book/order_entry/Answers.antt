use Rattle.ledger.proofs.Prelude.{◌≡◌, Bor, MatchOption, None, Option, Order, Some, option_copied, option_map, ℕ}
use Rattle.book.proofs.Prelude.{OrderEntry, order_of}
use Rattle.book.proofs.KeyPlaces.{order_found}
use Rattle.book.proofs.book.Book.order_entry.Goals as goal

told : (n : ℕ) (result : Option (Bor OrderEntry)) (there : Option OrderEntry) (found : Option Order)
    → option_copied result ≡ there → found ≡ option_map (λ v. order_of (n, v)) there
    → MatchOption result (found ≡ None) (λ entry. found ≡ Some (order_of (n, entry.now)))
told n None there found is e = rw (← is) at e
told n (Some r) there found is e = rw (← is) at e

pub returns : goal.returns
returns c =
    rw (← c.self.view_is)
    (told c.args.number c.get.result _ _ c.get.ensures (order_found c.args.number c.self.inside.orders.entries))
