use Rattle.ledger.proofs.Prelude.{◌+◌, ◌≤◌, arith, refl}
use Rattle.book.proofs.Prelude.{nothing}
use Rattle.book.proofs.SumsOnFields.{added-at, added-none, there_at, each-small-set, each-small-up}
use Rattle.book.proofs.book.tables.sums.add_on.Goals as goal

pub returns-in-Some-clause-there : goal.returns-in-Some-clause-there
returns-in-Some-clause-there c = ((λ t. there_at c.args.name c.args.fields.now c.in-Some.place c.in-Some.ensures), λ f. refl)

pub returns-in-Some-clause-sums : goal.returns-in-Some-clause-sums
returns-in-Some-clause-sums c = grind (arith, added-at)

pub returns-in-Some-clause-small : goal.returns-in-Some-clause-small
returns-in-Some-clause-small c k m small part =
    grind (
      arith,
      (each-small-set k m c.in-Some.place nothing c.args.part.now c.args.sums.now
          (omega (arith, c.in-Some.ensures.within)) small part),
    )

pub returns-in-None-clause-sums : goal.returns-in-None-clause-sums
returns-in-None-clause-sums c = grind (arith, added-none)

pub returns-in-None-clause-small : goal.returns-in-None-clause-small
returns-in-None-clause-small c k m small part =
    let more : k ≤ k + m = omega arith in each-small-up k (k + m) c.args.sums.now more small
