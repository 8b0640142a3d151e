use Rattle.ledger.specs.declared.order.State.TheVariants.{Aborted}
use Rattle.book.proofs.Prelude.{Adds, IsFound, MayMake, changed_order, order_of, steps_under}
use Rattle.ledger.proofs.Prelude.{Changes, Effect, Good, Ledger, List, OnOk, Opens, Step, ap, effect, expires, filter}
use Rattle.ledger.proofs.Prelude.{flat_map, map, numbered, set_state, steps, subst, sym, ℕ, ◌∙◌, ◌≡◌}
use Rattle.book.specs.inner.Checking.{changed_number}
use Rattle.book.specs.declared.book.made.OrderChange.TheVariants.{End}
use Rattle.book.proofs.OneWay.{adds-nothing, may_steps}
use Rattle.book.proofs.CommandOrder.{may_change}
use Rattle.book.proofs.ExpiredOrders.{numbered_steps}
use Rattle.ledger.proofs.Steps.{one_step}
use Rattle.book.proofs.book.Book.push_steps.Goals as goal

pub returns-in-Field : goal.returns-in-Field
returns-in-Field c =
    let A = c.args.self.now.ledger in let a = c.args.made.now in
    let found = subst (IsFound A c.args.request.now.command) c.in-Field.is c.requires.found in
    subst (λ (e : Effect). Adds A (steps e A.orders) a a) (sym found.1) (adds-nothing A a)

pub push_step-requires : goal.push_step-requires
push_step-requires c =
    may_steps c.args.self.now.ledger c.args.request.now c.args.made.now
    (Opens (order_of c.in_ok-order-in-Nothing.order)) c.requires.accepts
    (c.in_ok-order-in-Nothing.ensures ∙ ap effect c.command.ensures.value) (λ none. cc) c.requires.first

pub push_changed-requires-clause-change : goal.push_changed-requires-clause-change
push_changed-requires-clause-change c =
    let A = c.args.self.now.ledger in let n = c.in-Order.number in
    let found = subst (IsFound A c.args.request.now.command) c.in-Order.is c.requires.found in
    may_change A c.args.request.now n c.change_of-change.result c.requires.accepts.after
    (c.change_of-change.ensures n (ap changed_number c.command-in-Order.ensures.value ∙ found.0)
    ∙ ap effect c.command-in-Order.ensures.value)

pub push_changed-requires-clause-may : goal.push_changed-requires-clause-may
push_changed-requires-clause-may c =
    let A = c.args.self.now.ledger in let n = c.in-Order.number in let change = changed_order c.change_of-change.result in
    let found = subst (IsFound A c.args.request.now.command) c.in-Order.is c.requires.found in
    subst (λ (ss : List Step). MayMake A ss c.args.made.now)
    (one_step n change A.orders c.requires.accepts.before.orders_in_order)
    (may_steps A c.args.request.now c.args.made.now (Changes (numbered n) change) c.requires.accepts
    (c.change_of-change.ensures n (ap changed_number c.command-in-Order.ensures.value ∙ found.0)
    ∙ ap effect c.command-in-Order.ensures.value)
    (λ none. cc) c.requires.first)

pub returns-in-Order : goal.returns-in-Order
returns-in-Order c =
    let A = c.args.self.now.ledger in let n = c.in-Order.number in let change = changed_order c.change_of-change.result in
    let found = subst (IsFound A c.args.request.now.command) c.in-Order.is c.requires.found in
    subst (λ (ss : List Step). OnOk c.push_changed.result (Adds A ss c.args.made.now c.push_changed.new.made))
    (sym (one_step n change A.orders c.requires.accepts.before.orders_in_order)
    ∙ ap (λ e. steps e A.orders)
    (c.change_of-change.ensures n (ap changed_number c.command-in-Order.ensures.value ∙ found.0)
    ∙ ap effect c.command-in-Order.ensures.value)) c.push_changed.ensures

-- the steps of those that expire, by their numbers
expiring : (A : Ledger) (now : ℕ) (ns : List ℕ) → Good A → ns ≡ map (λ o. o.number) (filter (expires now) A.orders)
    → flat_map (steps_under A (End Aborted)) ns ≡ steps (Changes (expires now) (set_state Aborted)) A.orders
expiring A now ns good is = ap (flat_map (steps_under A (End Aborted))) is ∙ numbered_steps (expires now) A (End Aborted) good

pub push_aborted-requires : goal.push_aborted-requires
push_aborted-requires c =
    let A = c.args.self.now.ledger in let now = c.in-Clock.now in
    let found = subst (IsFound A c.args.request.now.command) c.in-Clock.is c.requires.found in
    subst (λ (ss : List Step). MayMake A ss c.args.made.now)
    (sym (expiring A now c.deref.result.now c.requires.accepts.before (c.deref.ensures.value ∙ c.in_ok-numbers-in-Clock.ensures)))
    (may_steps A c.args.request.now c.args.made.now (Changes (expires now) (set_state Aborted)) c.requires.accepts
    (ap effect (sym found)) (λ none. cc) c.requires.first)

pub returns-in_ok-numbers-in-Clock : goal.returns-in_ok-numbers-in-Clock
returns-in_ok-numbers-in-Clock c =
    let A = c.args.self.now.ledger in let now = c.in-Clock.now in
    let found = subst (IsFound A c.args.request.now.command) c.in-Clock.is c.requires.found in
    subst (λ (ss : List Step). OnOk c.push_aborted.result (Adds A ss c.args.made.now c.push_aborted.new.made))
    (expiring A now c.deref.result.now c.requires.accepts.before (c.deref.ensures.value ∙ c.in_ok-numbers-in-Clock.ensures)
    ∙ ap (λ e. steps e A.orders) (ap effect (sym found))) c.push_aborted.ensures
