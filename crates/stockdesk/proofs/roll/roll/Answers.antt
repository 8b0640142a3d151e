use Rattle.std.proofs.Common.{◌∙◌, ap, inl, inr}
use Rattle.std.proofs.lemmas.Result.{IfErr-weaker}
use Rattle.sql_keep.specs.Laws.{holds_tables}
use Rattle.ledger.specs.Changes.{put_content}
use Rattle.ledger.specs.Tables.{rows_among}
use Rattle.keep.specs.Content.{new_content}
use Rattle.stockdesk.proofs.Rolls.{at_error, made_rolled}
use Rattle.stockdesk.proofs.SessionParts.{starts_refused, stays}
use Rattle.stockdesk.proofs.roll.roll.Goals as goal

pub returns-in-Ok-clause-made : goal.returns-in-Ok-clause-made
returns-in-Ok-clause-made g c =
    made_rolled _ _ c.make-made.result c.args.keys _ _ c.make-made.ensures.made
    (λ clean A x good rows there.
    let held = c.in_ok-keep.ensures.opened.held (c.rolled-keep.ensures.honest clean) x there in
    let told = (rw c.in-Ok.is at c.rolled-keep.ensures.rows) clean A x good rows held in
    ap (λ r. put_content r new_content) (ap rows_among c.deref.ensures.value ∙ told))

pub returns-in-Ok-clause-kept : goal.returns-in-Ok-clause-kept
returns-in-Ok-clause-kept g c clean =
    stays _ _ _ _ c.in_ok-keep.ensures.opened c.rolled-keep.ensures.honest clean (c.rolled-keep.ensures.left clean)

pub returns-in-Err-clause-kept : goal.returns-in-Err-clause-kept
returns-in-Err-clause-kept g c clean =
    stays _ _ _ _ c.in_ok-keep.ensures.opened c.rolled-keep.ensures.honest clean (c.rolled-keep.ensures.left clean)

pub returns-in-Ok-clause-refused : goal.returns-in-Ok-clause-refused
returns-in-Ok-clause-refused g c = IfErr-weaker c.make-made.result _ _ (λ fault is. inl is) c.make-made.ensures.fault

pub returns-in-Err-clause-refused : goal.returns-in-Err-clause-refused
returns-in-Err-clause-refused g c = elim (at_error _ _ c.in-Err.fault c.in-Err.is c.rolled-keep.ensures.fault) [
  | inl memory ↦ inl (inr (inl memory))
  | inr refused ↦ inr (starts_refused _ _ _ _ c.in_ok-keep.ensures.opened c.rolled-keep.ensures.honest
      (λ x. holds_tables _ x) c.in-Err.fault refused)
]
