use Rattle.ledger.proofs.Prelude.{[], ◌∙◌, ◌∷◌, ◌≡◌, ◌==◌, Bool, ap, arith, filter, list_any, map, rows_among, take}
use Rattle.ledger.proofs.Prelude.{sym, take_all}
use Rattle.ledger.specs.Ledger.{Order}
use Rattle.ledger.specs.Rolled.{stays}
use Rattle.book.specs.Model.{order_of}
use Rattle.book.specs.inner.Rolling.{orders_content}
use Rattle.book.proofs.Prelude.{joined}
use Rattle.book.proofs.Rolling.{chosen_row, filter_next, left_row, one_more, orders_more}
use Rattle.book.proofs.book.rolled.push_orders.Goals.{then-stays+in_ok-push_order, else-stays}
use Rattle.book.proofs.book.rolled.push_orders.Goals as goal

pub loop-place-preserved : goal.loop-place-preserved
loop-place-preserved c =
    let deals = c.args.deals.now in let entries = c.args.orders.now.entries in let x = c.entry_at-order.result.now in
    let chosen : Order → Bool = stays (λ o. list_any (λ n. n == o.number) deals) in
    let put : rows_among c.if-stays.changes.items
    ≡ joined (rows_among c.loop-place.changes.items) (orders_content (filter chosen (order_of x ∷ []))) =
    let old = rows_among c.loop-place.changes.items in
    elim c.if-stays.branch [
      | then-stays+in_ok-push_order w ↦
          let all = chosen_row chosen (order_of x) old (sym c.stays.ensures ∙ w.if-stays.true) in
          ap (λ v. rows_among v.items) w.changes-is ∙ w.in_ok-push_order.ensures ∙ sym all
      | else-stays w ↦
          let all = left_row chosen (order_of x) old (sym c.stays.ensures ∙ w.if-stays.false) in
          ap (λ v. rows_among v.items) w.changes-is ∙ sym all
    ] in
    one_more orders_content (rows_among c.args.changes.now.items) (rows_among c.loop-place.changes.items) _
    (filter chosen (map order_of (take c.loop-place.place entries))) (filter chosen (order_of x ∷ [])) _ orders_more
    put c.loop-place.invariant (filter_next chosen order_of entries c.loop-place.place x c.entry_at-order.ensures)

pub returns : goal.returns
returns c =
    let deals = c.args.deals.now in
    let chosen : Order → Bool = stays (λ o. list_any (λ n. n == o.number) deals) in
    c.loop-place.invariant
    ∙ ap (λ es. joined (rows_among c.args.changes.now.items) (orders_content (filter chosen (map order_of es))))
    (take_all c.loop-place.place c.args.orders.now.entries (omega (arith, c.len-place-end.ensures.len, c.loop-place-test.false)))
