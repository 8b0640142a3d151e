use Rattle.ledger.proofs.Prelude.{◌∙◌, refl, sym, true≢false}
use Rattle.ledger.proofs.TestResults.{no}
use Rattle.book.proofs.book.tables.are_in_order.Goals as goal
use Rattle.book.proofs.book.tables.are_in_order.Goals.{then-not-are_keys_in_order-via-then-not-are_keys_in_order}
use Rattle.book.proofs.book.tables.are_in_order.Goals.{then-not-are_keys_in_order-via-else-not-are_keys_in_order+then-not-are_moves_in_order}

pub returns-then-not-are_keys_in_order : goal.returns-then-not-are_keys_in_order
returns-then-not-are_keys_in_order c = no (λ o. elim c.then-not-are_keys_in_order.branch [
  | then-not-are_keys_in_order-via-then-not-are_keys_in_order w ↦
      true≢false (sym (w.if-not-are_keys_in_order.ensures.1 (rw c.deref.ensures.value o.fields)))
  | then-not-are_keys_in_order-via-else-not-are_keys_in_order+then-not-are_moves_in_order w ↦
      true≢false (sym (w.if-not-are_moves_in_order.ensures.1
      (rw w.deref-else-not-are_keys_in_order.ensures.value o.moves)))
])

pub returns-then-are_keys_in_order : goal.returns-then-are_keys_in_order
returns-then-are_keys_in_order c =
    let fields = rw c.deref.ensures.value at (c.if-not-are_keys_in_order.ensures.0 refl) in
    let moves = rw c.deref-else-not-are_keys_in_order.ensures.value at (c.if-not-are_moves_in_order.ensures.0 refl) in
    let orders = rw c.deref-2.ensures.value at (c.if-are_keys_in_order.ensures.0 refl) in
    let kept = rw c.deref-then-are_keys_in_order.ensures.value at c.are_keys_in_order-then-are_keys_in_order.ensures in
    ((λ yes. record { fields = fields; moves = moves; orders = orders; kept = kept.0 yes }), (λ o. kept.1 o.kept))

pub returns-else-are_keys_in_order : goal.returns-else-are_keys_in_order
returns-else-are_keys_in_order c =
    let orders = rw c.deref-2.ensures.value at c.are_keys_in_order-2.ensures in
    ((λ yes. absurd (true≢false (sym yes ∙ c.if-are_keys_in_order.false))), (λ o. orders.1 o.orders))
