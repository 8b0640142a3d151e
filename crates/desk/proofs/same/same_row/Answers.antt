use Rattle.std.proofs.Common.{◌≡◌, ◌∙◌, ap, subst, sym}
use Rattle.ledger.specs.Tables.{field_cells, kept_cells, line_cells, move_cells}
use Rattle.ledger.specs.declared.rows.Change.{Change}
use Rattle.desk.specs.Deferred.{IsSameRow}
use Rattle.desk.proofs.same.same_row.Goals as goal

pub returns-in-Field-Field : goal.returns-in-Field-Field
returns-in-Field-Field c =
    let at = c.in-Field-Field in (
      λ yes. subst (λ (d : Change). IsSameRow d c.args.copy.now) (sym at.is-0) (at.b, at.is-1, sym (c.same_field.ensures.0 yes)),
      λ same.
          let (copy, is, cells) = subst (λ (d : Change). IsSameRow d c.args.copy.now) at.is-0 same in
          let one : at.b ≡ copy = cc (sym at.is-1 ∙ is) in
          c.same_field.ensures.1 (sym (ap field_cells one ∙ cells)),
    )

pub returns-in-Move-Move : goal.returns-in-Move-Move
returns-in-Move-Move c =
    let at = c.in-Move-Move in (
      λ yes. subst (λ (d : Change). IsSameRow d c.args.copy.now) (sym at.is-0) (at.b, at.is-1, sym (c.same_move.ensures.0 yes)),
      λ same.
          let (copy, is, cells) = subst (λ (d : Change). IsSameRow d c.args.copy.now) at.is-0 same in
          let one : at.b ≡ copy = cc (sym at.is-1 ∙ is) in
          c.same_move.ensures.1 (sym (ap move_cells one ∙ cells)),
    )

pub returns-in-Line-Line : goal.returns-in-Line-Line
returns-in-Line-Line c =
    let at = c.in-Line-Line in (
      λ yes. subst (λ (d : Change). IsSameRow d c.args.copy.now) (sym at.is-0) (at.b, at.is-1, sym (c.same_line.ensures.0 yes)),
      λ same.
          let (copy, is, cells) = subst (λ (d : Change). IsSameRow d c.args.copy.now) at.is-0 same in
          let one : at.b ≡ copy = cc (sym at.is-1 ∙ is) in
          c.same_line.ensures.1 (sym (ap line_cells one ∙ cells)),
    )

pub returns-in-Kept-Kept : goal.returns-in-Kept-Kept
returns-in-Kept-Kept c =
    let at = c.in-Kept-Kept in (
      λ yes. subst (λ (d : Change). IsSameRow d c.args.copy.now) (sym at.is-0) (at.b, at.is-1, sym (c.same_kept.ensures.0 yes)),
      λ same.
          let (copy, is, cells) = subst (λ (d : Change). IsSameRow d c.args.copy.now) at.is-0 same in
          let one : at.b ≡ copy = cc (sym at.is-1 ∙ is) in
          c.same_kept.ensures.1 (sym (ap kept_cells one ∙ cells)),
    )
