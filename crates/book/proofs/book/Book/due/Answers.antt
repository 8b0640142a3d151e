use Rattle.std.proofs.lemmas.List.Sorted.{IsNonDecreasingBy-from_sort}
use Rattle.ledger.proofs.Prelude.{◌∙◌, IsPermutation, List, ap, expires, filter, map, subst, ℕ}
use Rattle.book.proofs.Prelude.{BookView}
use Rattle.book.proofs.ExpiredOrders.{numbers_sorted}
use Rattle.book.proofs.book.Book.due.Goals as goal

pub returns : goal.returns
returns c =
    let now = c.args.now in
    let ns = c.sort_unstable.new.self.items in
    let moved = subst (λ (xs : List ℕ). IsPermutation xs ns) (c.in_ok-numbers.ensures) c.sort_unstable.ensures.permutation in
    numbers_sorted now c.self.inside.orders.entries c.arrived.result.now ns c.self.invariant.0.orders_in_order
    c.arrived.ensures moved (IsNonDecreasingBy-from_sort (λ n. n) ns c.sort_unstable.ensures.sorted)
    ∙ ap (λ (v : BookView). map (λ o. o.number) (filter (expires now) v.ledger.orders)) c.self.view_is
