use Rattle.std.proofs.Common.{List, inl, refl, subst}
use Rattle.ledger.specs.declared.rows.Change.{Change}
use Rattle.desk.specs.Deferred.{IsLastOfKey}
use Rattle.desk.proofs.copies.put_one.Goals as goal

pub returns-in-Some-clause-taken : goal.returns-in-Some-clause-taken
returns-in-Some-clause-taken c =
    let place = c.in-Some.place in
    let is : IsLastOfKey c.args.row c.args.kept.now.items place =
    subst (λ (kept : List Change). IsLastOfKey c.args.row kept place) c.deref.ensures.value c.in-Some.ensures.there in
    inl (place, is, refl)
