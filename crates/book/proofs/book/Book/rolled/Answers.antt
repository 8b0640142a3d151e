use Rattle.ledger.proofs.Prelude.{Kept, MAX_ORDER_LINES, IsRowsOf, Order, [], ap, arith, filter, length, list_any, no_content, places, refl, rows_among, subst, sym}
use Rattle.ledger.proofs.Prelude.{◌-◌, ◌==◌, ◌≤◌, ◌≡◌, ◌∙◌, ◌∷◌}
use Rattle.ledger.specs.Rolled.{gone, is_recent_deal, rolled_rows, stays}
use Rattle.ledger.specs.Rows.{desk_of}
use Rattle.ledger.specs.declared.limits.TheConstants.{MAX_PLACES}
use Rattle.ledger.proofs.Lists.{each-unmap, length-of-map}
use Rattle.ledger.proofs.Sums.{each-imp}
use Rattle.book.specs.Model.{kept_of, ledger_of, order_of}
use Rattle.book.specs.inner.Rolling.{keys_behind, keys_content, orders_content, restarted_content}
use Rattle.book.proofs.Among.{appended}
use Rattle.book.proofs.Prelude.{joined}
use Rattle.book.proofs.Rolling.{all_rolled_at}
use Rattle.book.proofs.book.Book.rolled.Goals as goal

pub push_orders-requires : goal.push_orders-requires
push_orders-requires c =
    each-unmap (λ (o : Order). length o.lines ≤ MAX_ORDER_LINES) order_of c.self.inside.orders.entries
    (each-imp (λ o x. x.few) _ c.self.invariant.0.orders)

pub push_keys-requires : goal.push_keys-requires
push_keys-requires c =
    each-unmap (λ (k : Kept). k.place ≤ MAX_PLACES) kept_of c.self.inside.kept.entries
    (each-imp (λ k x. omega (arith, x.1, c.self.invariant.0.places_fit)) _ c.self.invariant.0.places_in_range)

pub returns : goal.returns
returns c C rows =
    let A = ledger_of c.self.inside in let K = c.args.keys in
    let is : A ≡ c.args.self.now.ledger = ap (λ v. v.ledger) c.self.view_is in
    let many = length-of-map kept_of c.self.inside.kept.entries in
    let gone_is : c.saturating_sub-gone.result ≡ gone K A =
    omega (arith, many, c.saturating_sub-gone.ensures, c.len-places.ensures.len) in
    let count : c.len-places.result ≡ places A = omega (arith, many, c.len-places.ensures.len) in
    let begun : rows_among c.push.new.self.items
    ≡ record no_content { desk = desk_of A.clock (c.len-places.result - c.saturating_sub-gone.result) ∷ [] } =
    grind (arith, appended) in
    let keys = keys_content c.saturating_sub-gone.result (keys_behind c.saturating_sub-gone.result A.kept) in
    let all : rows_among c.push_keys.new.changes.items
    ≡ joined (joined (joined (rows_among c.push.new.self.items) (restarted_content c.self.inside.fields.entries))
    (orders_content (filter (stays (λ o. list_any (λ n. n == o.number) c.in_ok-deals.deals.items)) A.orders))) keys =
    c.in_ok-push_keys.ensures
    ∙ ap (λ r. joined r keys) (c.in_ok-push_orders.ensures ∙ (λ i. joined (c.in_ok-push_fields.ensures i)
    (orders_content (filter (stays (λ o. list_any (λ n. n == o.number) (c.deref.ensures.value i))) A.orders)))) in
    subst (λ B. rows_among c.push_keys.new.changes.items ≡ rolled_rows (is_recent_deal K B) K B C) is
    (all_rolled_at A K c.self.inside.fields.entries c.in_ok-deals.deals.items c.saturating_sub-gone.result
    c.len-places.result (rows_among c.push.new.self.items) (rows_among c.push_keys.new.changes.items) C gone_is count
    c.self.invariant.0 refl c.self.invariant.1 c.in_ok-deals.ensures begun
    all (subst (λ B. IsRowsOf B C) (sym is) rows))
