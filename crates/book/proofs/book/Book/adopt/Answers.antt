use Rattle.book.proofs.Prelude.{BookView, IsUpToDate, field_of, move_of, number_cmp, order_of}
use Rattle.ledger.proofs.Prelude.{Done, Each, Good, IsInRange, IsKey, Ledger, accept, ap, article_total, map, move_made}
use Rattle.ledger.proofs.Prelude.{option_map, orders_made, places, put_rows, rules, subst, sym, ◌+◌, ◌∙◌, ◌≡◌, ◌≤◌}
use Rattle.book.proofs.book.Book.adopt.Goals as goal
use Rattle.book.specs.Plans.{PlanView}
use Rattle.ledger.proofs.Futures.{honours_always}
use Rattle.ledger.proofs.Goodness.{good_accept}
use Rattle.book.proofs.PutOrders.{may_be_put, orders_put}
use Rattle.book.proofs.RunningNumbers.{adopted, clock_told}
use Rattle.ledger.proofs.Transfers.{total_answer}
use Rattle.ledger.proofs.Runs.{accepted_answered, honours_if_good, no_key}

pub insert_kept-requires-clause-absent : goal.insert_kept-requires-clause-absent
insert_kept-requires-clause-absent c = search (rules, no_key)

good : (c : goal.After-drop-parts-2) → Good c.args.self.now.ledger
good c = subst (λ (v : BookView). Good v.ledger) c.self.view_is c.self.invariant.0

good_after : (c : goal.After-drop-parts-2) → Good (accept c.args.self.now.ledger c.args.plan.request)
good_after c =
    let parts = c.into_parts-parts.ensures in let ok = c.requires.fits.accepted in
    good_accept c.args.self.now.ledger c.args.plan.request (good c)
    (subst (λ (p : PlanView). IsKey p.request.key) parts.parts parts.told.key)
    (subst (λ (p : PlanView). IsInRange p.request.command) parts.parts parts.told.range) (no_key _ ok.0) ok.1

-- the orders as they are then
made : (c : goal.After-drop-parts-2)
    → map order_of c.into_parts-parts.result.0.orders.items
    ≡ orders_made c.args.self.now.ledger c.args.plan.request.command
made c = ap (λ (p : PlanView). p.orders) c.into_parts-parts.ensures.parts ∙ c.requires.fits.orders

pub adopt_orders-requires : goal.adopt_orders-requires
adopt_orders-requires c =
    may_be_put c.args.self.now.ledger c.args.plan.request.command _ _ _
    (subst (λ (v : BookView). 1 ≤ v.room.orders) (sym c.self.view_is) c.requires.room.orders)
    (subst (λ (v : BookView). Good v.ledger) c.self.view_is c.self.invariant.0) c.requires.fits.accepted.1
    (ap (λ (v : BookView). v.ledger.orders) c.self.view_is)
    (ap (λ (p : PlanView). p.orders) c.into_parts-parts.ensures.parts ∙ c.requires.fits.orders)

orders : (c : goal.After-drop-parts-2)
    → map order_of c.adopt_orders.new.orders.entries ≡ (accept c.args.self.now.ledger c.args.plan.request).orders
orders c =
    c.adopt_orders.ensures.orders ∙ (λ i. put_rows number_cmp (made c i) (c.self.view_is i).ledger.orders)
    ∙ orders_put c.args.self.now.ledger c.args.plan.request.command (good c) (good_after c).orders_in_order
    c.requires.fits.accepted.1

-- the fields as they are then
put : (c : goal.After-drop-parts-2)
    → (map field_of c.adopt_fields.new.fields.entries ≡ (accept c.args.self.now.ledger c.args.plan.request).fields)
    × Each (IsUpToDate (accept c.args.self.now.ledger c.args.plan.request)) c.adopt_fields.new.fields.entries
put c =
    let A : Ledger = c.args.self.now.ledger in
    let plan = c.args.plan in
    let old = c.self.inside.fields.entries in
    let parts = c.into_parts-parts.ensures in
    let is = c.adopt_fields.ensures.fields in
    let done =
    adopted A plan c.into_parts-parts.result.0.fields.entries old (good c) (good_after c) c.requires.fits
    (parts.told.fields ∙ ap (λ (p : PlanView). p.changes.fields) parts.parts)
    (ap (λ (v : BookView). v.ledger.fields) c.self.view_is)
    (subst (λ (v : BookView). Each (IsUpToDate v.ledger) old) c.self.view_is c.self.invariant.1) in
    (ap (map field_of) is ∙ done.0, subst (Each (IsUpToDate (accept A plan.request))) (sym is) done.1)

-- the clock and the move as they are then
clock : (c : goal.After-drop-parts-2)
    → c.into_parts-parts.result.0.clock ≡ (accept c.args.self.now.ledger c.args.plan.request).clock
clock c =
    let parts = c.into_parts-parts.ensures in
    clock_told (accept c.args.self.now.ledger c.args.plan.request) _ _
    (ap (λ (p : PlanView). p.changes.desk) parts.parts ∙ c.requires.fits.changes.desk) parts.told.clock

move : (c : goal.After-drop-parts-2)
    → option_map move_of c.into_parts-parts.result.0.moved
    ≡ move_made (places c.args.self.now.ledger + 1) c.args.plan.request.command
move c =
    let parts = c.into_parts-parts.ensures in
    parts.told.moved ∙ (λ i. move_made (parts.parts i).place (parts.parts i).request.command)
    ∙ ap (λ n. move_made n c.args.plan.request.command) c.requires.fits.place

pub returns-clause-next : goal.returns-clause-next
returns-clause-next c = search (rules, put, orders, clock, move)

pub invariant_of-self : goal.invariant_of-self
invariant_of-self c = search (rules, returns-clause-next, good_after, put, orders)

pub returns-clause-good : goal.returns-clause-good
returns-clause-good c = (invariant_of-self c).0

pub returns-clause-honours : goal.returns-clause-honours
returns-clause-honours c = let good = (invariant_of-self c).0 in (honours_if_good _ good, honours_always _ good)

pub returns-clause-even : goal.returns-clause-even
returns-clause-even c n article commits transfer =
    let A = c.args.self.now.ledger in
    let r = c.args.plan.request in
    subst (λ (B : Ledger). article_total B article ≡ article_total A article) (sym (returns-clause-next c))
    (total_answer A r n (Done (places A + 1)) (accept A r) article (good c) commits
    (accepted_answered A r c.requires.fits.accepted) transfer)

pub returns-clause-room_used : goal.returns-clause-room_used
returns-clause-room_used c = rw (← c.self.view_is)
    (record {
      fields = c.adopt_fields.ensures.room;
      moves = c.adopt_move.ensures.room;
      orders = c.adopt_orders.ensures.room;
      kept = c.insert_kept.ensures.room;
    })

pub returns-clause-storage : goal.returns-clause-storage
returns-clause-storage c =
    rw (← c.self.view_is, ← c.into_parts-parts.ensures.parts)
    (record {
      fields = c.adopt_fields.ensures.storage;
      moves = c.adopt_move.ensures.storage;
      orders = c.adopt_orders.ensures.storage;
      lines = c.adopt_orders.ensures.lines;
      kept = c.insert_kept.ensures.storage;
    })
