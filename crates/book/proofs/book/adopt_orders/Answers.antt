use Rattle.ledger.proofs.Prelude.{◌∙◌, List, ap, arith, map, put_rows, subst, sym, ℕ}
use Rattle.book.proofs.Prelude.{OrderEntry, number_cmp, order_of}
use Rattle.book.specs.Model.{slots_cmp, slots_of}
use Rattle.book.specs.inner.StepsSeen.{MayBePut}
use Rattle.book.proofs.CommandOrder.{put_viewed, rest_may, room_if_new, slots_viewed}
use Rattle.book.proofs.book.adopt_orders.Goals as goal

pub put-requires : goal.put-requires
put-requires c =
    let old = c.loop-order.orders.entries in
    room_if_new c.loop-order.orders.room c.in-Some.order c.next.new.self.rest.items old
    (subst (λ (os : List (ℕ × OrderEntry)). MayBePut c.loop-order.orders.room os old) c.in-Some.ensures.steps.0
    c.loop-order.invariant.may)

pub loop-order-preserved : goal.loop-order-preserved
loop-order-preserved c =
    let o = c.in-Some.order in let old = c.loop-order.orders.entries in let left = c.next.new.self.rest.items in
    let no_more = c.put.ensures.no_more in let before = c.loop-order.invariant.no_more in
    let put = ap (map order_of) c.put.ensures.entries ∙ put_viewed o.0 o.1 old in
    let slots = ap (map slots_of) c.put.ensures.entries ∙ slots_viewed o.0 o.1 old in
    let may =
    subst (λ (os : List (ℕ × OrderEntry)). MayBePut c.loop-order.orders.room os old) c.in-Some.ensures.steps.0
    c.loop-order.invariant.may in
    record {
      put =
          ap (put_rows number_cmp (map order_of left)) put
          ∙ ap (λ os. put_rows number_cmp (map order_of os) (map order_of old)) (sym c.in-Some.ensures.steps.0)
          ∙ c.loop-order.invariant.put;
      may =
          subst (MayBePut c.put.new.self.room left) (sym c.put.ensures.entries)
          (rest_may c.loop-order.orders.room c.put.new.self.room o left old may);
      slots =
          ap (put_rows slots_cmp (map slots_of left)) slots
          ∙ ap (λ os. put_rows slots_cmp (map slots_of os) (map slots_of old)) (sym c.in-Some.ensures.steps.0)
          ∙ c.loop-order.invariant.slots;
      storage = c.put.ensures.storage ∙ c.loop-order.invariant.storage;
      no_more = omega arith;
    }
