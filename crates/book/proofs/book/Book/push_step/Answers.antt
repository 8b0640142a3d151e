use Rattle.book.proofs.Prelude.{CountsMore, order_of, step_seen}
use Rattle.ledger.proofs.Prelude.{List, ShareStep, [], ap, append-nil, map, map-append, option_copied, shares_of_step}
use Rattle.ledger.proofs.Prelude.{subst, sym, ◌∙◌, ◌∷◌, Step}
use Rattle.book.proofs.book.Book.push_step.Goals as goal

pub returns : goal.returns
returns c = let s : Step = step_seen (option_copied c.args.before) c.args.after in record {
  orders = ap (map order_of) c.in_ok-push.ensures.items ∙ map-append order_of c.args.made.now.orders.items (c.args.after ∷ []);
  fields = subst (λ (xs : List ShareStep).
      CountsMore c.args.self.now.ledger xs c.args.made.now.fields.entries c.count_order.new.fields.entries)
      (sym (append-nil (shares_of_step s))) c.in_ok-count_order.ensures;
  changes = c.in_ok-push_rows.ensures;
}
