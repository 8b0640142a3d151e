use Rattle.std.proofs.Common.{refl, subst, sym}
use Rattle.ledger.specs.declared.rows.Change.{Change}
use Rattle.ledger.specs.declared.rows.Change.TheVariants as change
use Rattle.desk.specs.Deferred.{IsSameRow}
use Rattle.desk.proofs.copies.copy_change.Goals as goal

pub returns-in_ok-copy-in-Field : goal.returns-in_ok-copy-in-Field
returns-in_ok-copy-in-Field c =
    subst (λ (d : Change). IsSameRow d (change.Field c.in_ok-copy-in-Field.field-0)) (sym c.in-Field.is)
    (c.in_ok-copy-in-Field.field-0, refl, c.in_ok-copy-in-Field.ensures)

pub returns-in_ok-copy-in-Move : goal.returns-in_ok-copy-in-Move
returns-in_ok-copy-in-Move c =
    subst (λ (d : Change). IsSameRow d (change.Move c.in_ok-copy-in-Move.field-0)) (sym c.in-Move.is)
    (c.in_ok-copy-in-Move.field-0, refl, c.in_ok-copy-in-Move.ensures)

pub returns-in_ok-copy-in-Line : goal.returns-in_ok-copy-in-Line
returns-in_ok-copy-in-Line c =
    subst (λ (d : Change). IsSameRow d (change.Line c.in_ok-copy-in-Line.field-0)) (sym c.in-Line.is)
    (c.in_ok-copy-in-Line.field-0, refl, c.in_ok-copy-in-Line.ensures)

pub returns-in_ok-copy-in-Kept : goal.returns-in_ok-copy-in-Kept
returns-in_ok-copy-in-Kept c =
    subst (λ (d : Change). IsSameRow d (change.Kept c.in_ok-copy-in-Kept.field-0)) (sym c.in-Kept.is)
    (c.in_ok-copy-in-Kept.field-0, refl, c.in_ok-copy-in-Kept.ensures)
