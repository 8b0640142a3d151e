use Rattle.book.proofs.Prelude.{FieldEntry}
use Rattle.ledger.proofs.Prelude.{Refusal, Some, ap, inl, inr, refl, sym, true≢false}
use Rattle.book.proofs.RunningNumbers.{ask_granted, grants, refuses}
use Rattle.book.proofs.book.checks.ask.Goals as goal

pub returns-in-Ok : goal.returns-in-Ok
returns-in-Ok c A name good up there =
    let f : FieldEntry = c.args.field in (
      inr (
        grants A name f c.args.way c.args.qty up there
            (ask_granted f.quantity c.args.way c.args.qty (c.in-Ok.ensures.granted.0 refl)),
        refl,
      ),
      tt,
    )

pub returns-in-Err : goal.returns-in-Err
returns-in-Err c A name good up there = inl (
  refuses A name c.args.field c.args.way c.args.qty good up there (λ safe. true≢false (sym (c.in-Err.ensures.granted.1 safe.0))),
  ap (λ (r : Refusal). Some (r, c.args.line)) (c.refusal_of.ensures c.args.way c.in-Err.ensures.bound),
)
