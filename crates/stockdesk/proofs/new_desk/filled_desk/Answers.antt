use Rattle.std.proofs.Common.{◌≡◌, [], ◌∷◌, ap, subst, sym}
use Rattle.sqlite.specs.State.{HasCleanDisk}
use Rattle.sqlite.specs.Held.{state}
use Rattle.keep.specs.Content.{new_content, with_changes}
use Rattle.sql_keep.specs.StoreContent.{Holds, LeavesOnly}
use Rattle.stockdesk.proofs.new_desk.filled_desk.Goals as goal

pub returns-in-Ok-clause-made : goal.returns-in-Ok-clause-made
returns-in-Ok-clause-made g c =
    let same : c.over.result.connection ≡ c.create_filled.new.conn = ap (λ k. k.connection) c.over.ensures.keeper in
    record {
      going = ap (λ k. k.stopped) c.over.ensures.keeper;
      held = λ clean. subst (λ h. Holds (state g.S.Store h).now (with_changes c.args.changes.now new_content)) (sym same)
          (c.in-Ok.ensures.made (subst (λ h. HasCleanDisk (state g.S.Store h)) same clean)).is;
      alone = λ clean. subst (λ h. LeavesOnly (state g.S.Store h).may_leave (with_changes c.args.changes.now new_content ∷ [])) (sym same)
          (c.in-Ok.ensures.alone (subst (λ h. HasCleanDisk (state g.S.Store h)) same clean));
    }
