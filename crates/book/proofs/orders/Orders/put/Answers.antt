use Rattle.ledger.proofs.Prelude.{None, ◌∙◌, ◌≡◌, ◌≤◌, IsStrictlySortedBy, ap, arith, insert_entry, is_at, keys_of}
use Rattle.ledger.proofs.Prelude.{length, lookup, nat_cmp, nat_cmp_total, subst, sym, ℕ, List}
use Rattle.book.proofs.Prelude.{OrderEntry}
use Rattle.book.specs.OrderLists.{OrderEntries}
use Rattle.book.specs.inner.OpenOrders.{marked, open_numbers, room_for}
use Rattle.book.proofs.OpenOrders.{fits_marked, fits_put, no_more_room, open_put, open_sorted}
use Rattle.book.proofs.KeyPlaces.{sorted_put}
use Rattle.book.proofs.orders.Orders.put.Goals as goal

pub mark-requires-clause-rising : goal.mark-requires-clause-rising
mark-requires-clause-rising c =
    subst (IsStrictlySortedBy nat_cmp) (sym c.self.invariant.0)
    (open_sorted c.self.inside.all.entries c.self.invariant.3)

pub mark-requires-clause-room : goal.mark-requires-clause-room
mark-requires-clause-room c =
    let has_room =
    subst (λ (w : OrderEntries). lookup (is_at (nat_cmp c.args.number)) w.entries ≡ None → 1 ≤ w.room)
    (sym c.self.view_is) c.requires in
    fits_marked c.args.number c.args.entry c.self.inside.all.entries c.self.inside.open_list.items c.is_open.result
    c.self.inside.all.room c.self.inside.open_list.capacity c.self.invariant.3 c.self.invariant.0 c.is_open.ensures
    c.self.invariant.1 has_room

pub put-requires : goal.put-requires
put-requires c none =
    let has_room =
    subst (λ (w : OrderEntries). lookup (is_at (nat_cmp c.args.number)) w.entries ≡ None → 1 ≤ w.room)
    (sym c.self.view_is) c.requires in
    let room = has_room none in omega (arith, room)

pub invariant_of-self : goal.invariant_of-self
invariant_of-self c =
    let has_room =
    subst (λ (w : OrderEntries). lookup (is_at (nat_cmp c.args.number)) w.entries ≡ None → 1 ≤ w.room)
    (sym c.self.view_is) c.requires in
    let es = c.self.inside.all.entries in
    let n = c.args.number in
    let v = c.args.entry in (
      c.mark.ensures.items ∙ (λ i. marked (c.is_open.ensures i) n (c.self.invariant.0 i))
          ∙ sym (open_put n v es c.self.invariant.3) ∙ ap open_numbers (sym c.put.ensures.entries),
      subst (λ (xs : List (ℕ × OrderEntry)). length xs ≤ c.mark.new.numbers.capacity) (sym c.put.ensures.entries)
          (subst (λ k. length (insert_entry nat_cmp es n v) ≤ k) (sym c.mark.ensures.capacity)
          (fits_put n v es c.self.inside.all.room c.self.inside.open_list.capacity c.self.invariant.3 c.self.invariant.1
          has_room)),
      omega (arith, c.mark.ensures.capacity, c.self.invariant.2),
      subst (λ (xs : List (ℕ × OrderEntry)). IsStrictlySortedBy nat_cmp (keys_of xs)) (sym c.put.ensures.entries)
          (sorted_put nat_cmp nat_cmp_total n v es c.self.invariant.3),
    )

pub returns-clause-no_more : goal.returns-clause-no_more
returns-clause-no_more c =
    let es = c.self.inside.all.entries in
    let n = c.args.number in
    let v = c.args.entry in
    subst (λ (w : OrderEntries).
    room_for c.put.new.self.room c.mark.new.numbers.capacity (length c.put.new.self.entries) ≤ w.room)
    c.self.view_is
    (subst (λ (xs : List (ℕ × OrderEntry)).
    room_for c.put.new.self.room c.mark.new.numbers.capacity (length xs)
    ≤ room_for c.self.inside.all.room c.self.inside.open_list.capacity (length es)) (sym c.put.ensures.entries)
    (subst (λ k.
    room_for c.put.new.self.room k (length (insert_entry nat_cmp es n v))
    ≤ room_for c.self.inside.all.room c.self.inside.open_list.capacity (length es)) (sym c.mark.ensures.capacity)
    (no_more_room n v es c.self.inside.all.room c.put.new.self.room c.self.inside.open_list.capacity c.self.invariant.3
    c.put.ensures.no_more)))
