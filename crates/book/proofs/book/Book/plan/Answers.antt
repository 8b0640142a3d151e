use Rattle.ledger.proofs.Prelude.{◌∙◌, ◌≡◌, Command, FirstFailure, IsAccepted, None, Request, ap, checks, is_some}
use Rattle.ledger.proofs.Prelude.{orders_made, rows_among, subst, sym}
use Rattle.book.proofs.Prelude.{ChangesTo}
use Rattle.book.specs.Plans.{Fits}
use Rattle.book.specs.inner.PlansSeen.{plan_of}
use Rattle.book.proofs.book.Book.plan.Goals as goal

pub returns : goal.returns
returns c =
    let A = c.args.self.now.ledger in
    let r : Request = c.args.request.now in
    let rows = rows_among c.in_ok-changes.changes.items in
    let makes = c.in_ok-parts.ensures.makes in
    let same : ◌≡◌ {A = Request} (plan_of c.in_ok-parts.parts rows).request r =
    λ i. record { key = makes.key i; command = makes.command i } in
    let fits : Fits A (plan_of c.in_ok-parts.parts rows) = record {
      accepted =
          subst (IsAccepted A) (sym same) (
            ap is_some c.in_default.ensures,
            subst (λ (k : Command). FirstFailure (checks A k) None) c.command.ensures.value c.in-Ok.ensures.0,
          );
      place = makes.place;
      orders = makes.orders ∙ ap (orders_made A) (sym makes.command);
      changes = subst (λ (r : Request). ChangesTo A r rows) (sym same) c.in_ok-changes.ensures.changes;
    } in record {
      planned = (same, fits);
      memory = tt;
    }
