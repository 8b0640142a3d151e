use Rattle.book.proofs.Prelude.{Adds, MayMake, OrderEntry, changed_order, order_of, step_seen, steps_under}
use Rattle.ledger.proofs.Prelude.{Ledger, List, OnOk, Some, Step, [], ap, option_map_or, order_numbered, subst, sym}
use Rattle.ledger.proofs.Prelude.{vec_capacity, vec_len, ℕ, ◌+◌, ◌∙◌, ◌∷◌, ◌≡◌, ◌≤◌, turn}
use Rattle.book.specs.declared.book.made.OrderChange.{OrderChange}
use Rattle.book.proofs.book.Book.push_changed.Goals as goal

pub change_order-requires : goal.change_order-requires
change_order-requires c = c.requires.change c.in_ok-copy.copy
    (c.requires.there ∙ ap Some (sym (c.in_ok-copy.ensures.same c.args.number)))
    (subst (λ n. vec_len c.in_ok-copy.copy.lines + n ≤ vec_capacity c.in_ok-copy.copy.lines) c.lines_wanted.ensures
    c.in_ok-copy.ensures.room)

-- the one step, of the order that was found
found : (A : Ledger) (n : ℕ) (change : OrderChange) (old copy new : OrderEntry) → order_numbered A n ≡ Some (order_of (n, old))
    → ((n : ℕ) → order_of (n, copy) ≡ order_of (n, old))
    → ((n : ℕ) → order_of (n, new) ≡ changed_order change (order_of (n, copy)))
    → step_seen (Some old) (n, new) ∷ [] ≡ steps_under A change n
found A n change old copy new there same changed =
    (λ i. record { before = Some (order_of (n, old)); after = (changed n ∙ ap (changed_order change) (same n)) i } ∷ [])
    ∙ ap (λ x. option_map_or (λ o. turn o (changed_order change o) ∷ []) x []) (sym there)

pub push_step-requires : goal.push_step-requires
push_step-requires c = subst (λ (ss : List Step). MayMake c.args.self.now.ledger ss c.args.made.now)
    (sym (found c.args.self.now.ledger c.args.number c.args.change.now c.args.entry.now c.in_ok-copy.copy
    c.change_order.new.order c.requires.there c.in_ok-copy.ensures.same c.change_order.ensures)) c.requires.may

pub returns : goal.returns
returns c = subst (λ (ss : List Step).
    OnOk c.push_step.result (Adds c.args.self.now.ledger ss c.args.made.now c.push_step.new.made))
    (found c.args.self.now.ledger c.args.number c.args.change.now c.args.entry.now c.in_ok-copy.copy
    c.change_order.new.order c.requires.there c.in_ok-copy.ensures.same c.change_order.ensures) c.push_step.ensures
