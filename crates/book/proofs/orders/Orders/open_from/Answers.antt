use Rattle.ledger.proofs.Prelude.{None, Some, ◌∙◌, ◌≡◌, ◌≤◌, IsStrictlySortedBy, ap, arith, find, length, nat_cmp}
use Rattle.ledger.proofs.Prelude.{option_copied, slice_get, subst, sym}
use Rattle.book.specs.OrderLists.{OrderEntries}
use Rattle.book.specs.inner.OpenOrders.{IsFirstFrom, is_open_from, open_numbers}
use Rattle.book.proofs.OpenOrders.{first_open, none_open, open_sorted}
use Rattle.book.proofs.orders.Orders.open_from.Goals as goal

pub first_from-place-requires : goal.first_from-place-requires
first_from-place-requires c =
    subst (IsStrictlySortedBy nat_cmp) (sym c.self.invariant.0)
    (open_sorted c.self.inside.all.entries c.self.invariant.3)

pub returns-then-len-place : goal.returns-then-len-place
returns-then-len-place c =
    let n = c.args.number in
    let first = subst (λ ms. IsFirstFrom n ms c.first_from-place.result) c.self.invariant.0 c.first_from-place.ensures in
    let past : length (open_numbers c.self.inside.all.entries) ≤ c.first_from-place.result =
    omega (arith, c.if-len-place.true, c.len.ensures.value, ap length c.self.invariant.0) in
    subst (λ (v : OrderEntries). find (is_open_from n) v.entries ≡ None) c.self.view_is
    (none_open n c.self.inside.all.entries c.first_from-place.result first past)

pub unreachable-requires : goal.unreachable-requires
unreachable-requires c =
    let place = c.first_from-place.result in
    let first = subst (λ ms. IsFirstFrom c.args.number ms place) c.self.invariant.0 c.first_from-place.ensures in
    let there = subst (λ ms. slice_get ms place ≡ Some c.get.result.now) c.self.invariant.0 c.get.ensures in
    let (v, under, found) =
    first_open c.args.number c.self.inside.all.entries place c.get.result.now c.self.invariant.3 first there in
    let clash = subst (λ r. option_copied r ≡ Some v) c.in-None.is (c.get-2.ensures ∙ under) in
    absurd (cc)

pub returns : goal.returns
returns c =
    let n = c.args.number in
    let place = c.first_from-place.result in
    let first = subst (λ ms. IsFirstFrom n ms place) c.self.invariant.0 c.first_from-place.ensures in
    let there = subst (λ ms. slice_get ms place ≡ Some c.get.result.now) c.self.invariant.0 c.get.ensures in
    let (v, under, found) = first_open n c.self.inside.all.entries place c.get.result.now c.self.invariant.3 first there in
    let copied = subst (λ r. option_copied r ≡ Some v) c.in-Some.is (c.get-2.ensures ∙ under) in
    let same : v ≡ c.in-Some.entry.now = cc in
    subst (λ (w : OrderEntries). find (is_open_from n) w.entries ≡ Some (c.get.result.now, c.in-Some.entry.now)) c.self.view_is
    (found ∙ ap (λ e. Some (c.get.result.now, e)) same)
