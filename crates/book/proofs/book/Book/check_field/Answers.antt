use Rattle.ledger.proofs.Prelude.{arith, common_steps, inr, refl}
use Rattle.book.proofs.CheckAnswers.{no}
use Rattle.book.proofs.FieldRows.{new_found}
use Rattle.book.proofs.book.Book.check_field.Goals as goal

pub returns-in-Ok : goal.returns-in-Ok
returns-in-Ok c = (
  inr (
    no c.is_full.ensures c.if-is_full.false,
    inr (grind (arith, common_steps), inr (grind arith, inr ((λ k. k (c.in-Ok.ensures.within.0 refl)), refl))),
  ),
  (
    new_found c.args.self.now.ledger c.args.name.now c.args.lo c.args.hi c.args.start c.in-Ok.quantity
        c.in-Ok.ensures.ok,
    refl,
    refl,
  ),
)
