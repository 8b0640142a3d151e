use Rattle.ledger.proofs.Prelude.{◌∙◌, ◌≤◌, ap, arith, length, subst, sym}
use Rattle.book.specs.inner.OpenOrders.{marked}
use Rattle.book.proofs.OpenOrders.{left_in, left_out, one_longer, put_in, taken_out}
use Rattle.book.proofs.orders.mark.Goals as goal

pub insert-requires-clause-room : goal.insert-requires-clause-room
insert-requires-clause-room c =
    let n = c.args.number in
    let ms = c.args.numbers.now.items in
    let fits = subst (λ b. length (marked b n ms) ≤ c.args.numbers.now.capacity) c.if-is_marked.true c.requires.room in
    omega (arith, one_longer n ms c.in-Err.place c.in-Err.ensures, fits)

pub returns-then-not-is_marked-clause-items : goal.returns-then-not-is_marked-clause-items
returns-then-not-is_marked-clause-items c =
    let n = c.args.number in
    let ms = c.args.numbers.now.items in
    c.remove.ensures.items ∙ taken_out n ms c.in-Ok.place c.requires.rising c.in-Ok.ensures
    ∙ ap (λ b. marked b n ms) (sym c.if-not-is_marked.true)

pub returns-else-not-is_marked-clause-items : goal.returns-else-not-is_marked-clause-items
returns-else-not-is_marked-clause-items c =
    let n = c.args.number in
    let ms = c.args.numbers.now.items in
    left_in n ms c.in-Ok.place c.requires.rising c.in-Ok.ensures ∙ ap (λ b. marked b n ms) (sym c.if-not-is_marked.false)

pub returns-then-is_marked-clause-items : goal.returns-then-is_marked-clause-items
returns-then-is_marked-clause-items c =
    let n = c.args.number in
    let ms = c.args.numbers.now.items in
    c.insert.ensures.items ∙ put_in n ms c.in-Err.place c.in-Err.ensures ∙ ap (λ b. marked b n ms) (sym c.if-is_marked.true)

pub returns-else-is_marked-clause-items : goal.returns-else-is_marked-clause-items
returns-else-is_marked-clause-items c =
    let n = c.args.number in
    let ms = c.args.numbers.now.items in
    left_out n ms c.in-Err.place c.in-Err.ensures ∙ ap (λ b. marked b n ms) (sym c.if-is_marked.false)
