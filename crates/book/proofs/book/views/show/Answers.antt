use Rattle.ledger.proofs.Prelude.{Field, FieldCells, IsInfimum, IsSupremum, ap, held_to_add, held_to_take, pos, refl}
use Rattle.ledger.proofs.Prelude.{settled, subst, sym, ◌+ℤ◌, ◌-ℤ◌, ◌∙◌, ◌≡◌}
use Rattle.book.proofs.Prelude.{field_of}
use Rattle.book.proofs.book.views.show.Goals as goal
use Rattle.ledger.proofs.Bounds.{inf_is, sup_is}
use Rattle.ledger.proofs.Falls.{sounds_from_good}
use Rattle.book.proofs.RunningNumbers.{greatest_is, least_is}

pub returns : goal.returns
returns c A good up =
    let f : Field = field_of (c.args.name, c.args.entry.now) in
    let sound = sounds_from_good A good in
    let inf : (settled A f -ℤ held_to_take A f.name) ≡ pos c.inf.result =
    sym (least_is c.args.entry.now.quantity (pos c.inf.result) c.inf.ensures ∙ ap (λ (r : FieldCells). r.inf) up) in
    let sup : (settled A f +ℤ held_to_add A f.name) ≡ pos c.sup.result =
    sym (greatest_is c.args.entry.now.quantity (pos c.sup.result) c.sup.ensures
    ∙ ap (λ (r : FieldCells). r.sup) up) in
    record {
      name = refl;
      lo = c.lo.ensures;
      hi = c.hi.ensures;
      value = ap pos c.value.ensures.value ∙ ap (λ (r : FieldCells). r.value) up;
      inf = subst (IsInfimum A f) inf (inf_is A sound f);
      sup = subst (IsSupremum A f) sup (sup_is A sound f);
    }
