use Rattle.book.proofs.Prelude.{FieldEntry}
use Rattle.ledger.proofs.Prelude.{Stock, ap, arith, inl, inr, ints, refl, subst}
use Rattle.escrow.specs.Escrow.{RefusesBounds}
use Rattle.book.proofs.CheckAnswers.{bounds_decide}
use Rattle.book.proofs.book.checks.rebound.Goals as goal

pub returns-in-Ok : goal.returns-in-Ok
returns-in-Ok c A name good up there =
    let e : FieldEntry = c.args.field in let q = e.quantity in let d = bounds_decide A name e c.args.lo c.args.hi good up there in
    let safe = c.in-Ok.ensures.granted.0 refl in let low = safe q.held_to_take 0 (omega arith) (omega arith) in
    let high = safe 0 q.held_to_add (omega arith) (omega arith) in (
      inr (
        (λ k. omega (arith, ints)),
        inr (
          (λ k. let f = d.0.0 k in omega (arith, ints)),
          inr ((λ k. let f = d.1.0 k in omega (arith, ints)), refl),
        ),
      ),
      ap (λ (q : Stock). record { start = e.start; quantity = q }) c.in-Ok.ensures.ok,
    )

pub returns-in-Err-TooLittle : goal.returns-in-Err-TooLittle
returns-in-Err-TooLittle c A name good up there =
    let d = bounds_decide A name c.args.field c.args.lo c.args.hi good up there in
    let fault =
    subst (RefusesBounds c.args.field.quantity c.args.lo c.args.hi) c.in-Err-TooLittle.field-0-is
    c.in-Err-TooLittle.ensures.fault in
    let taken = fault.1.1.2 in let is = fault.1.1.4 in let below = fault.1.2 in
    inr ((λ k. omega arith), inl (d.0.1 (omega (arith, ints)), refl))

pub returns-in-Err-TooMuch : goal.returns-in-Err-TooMuch
returns-in-Err-TooMuch c A name good up there =
    let q = c.args.field.quantity in let d = bounds_decide A name c.args.field c.args.lo c.args.hi good up there in
    let fault = subst (RefusesBounds q c.args.lo c.args.hi) c.in-Err-TooMuch.field-0-is c.in-Err-TooMuch.ensures.fault in
    let low = fault.1 q.held_to_take 0 (omega arith) (omega arith) in
    let added = fault.2.1.3 in
    let is = fault.2.1.4 in
    let above = fault.2.2 in
    inr ((λ k. omega arith), inr ((λ k. let falls = d.0.0 k in omega (arith, ints)), inl (d.1.1 (omega (arith, ints)), refl)))
