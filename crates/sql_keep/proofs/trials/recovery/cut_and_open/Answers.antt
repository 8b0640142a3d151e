use Rattle.std.proofs.Common.{◌≡◌, ◌≤◌, ◌∙◌, ℕ, arith, sym, subst}
use Rattle.std.proofs.lemmas.Bool.{and_parts, and_from}
use Rattle.sqlite_trees.specs.View.{IsClean, doubt}
use Rattle.sqlite_trees.proofs.Doubt.{no_doubt}
use Rattle.sqlite_wal.specs.Reads.{AreClean}
use Rattle.sqlite_pool.proofs.StateLemmas.{clean_is}
use Rattle.sqlite_store.specs.FileStore.{view}
use Rattle.std.proofs.Math.Logic.{∥∥₁_map}
use Rattle.sqlite.proofs.Theorems.{next_run}
use Rattle.sqlite.specs.Files.{file_state}
use Rattle.sqlite.specs.Effect.{Database}
use Rattle.ledger.specs.Rows.{Content}
use Rattle.keep.specs.Content.{IsAmong}
use Rattle.sql_keep.specs.StoreContent.{Holds}
use Rattle.sql_keep.proofs.NextOpen.{found_again, may_after}
use Rattle.sql_keep.proofs.trials.recovery.cut_and_open.Goals as goal

pub returns-in-Ok-clause-found : goal.returns-in-Ok-clause-found
returns-in-Ok-clause-found g c clean these only =
    let it = c.store_of-store.result in
    let found = c.in-Ok.ensures.found clean in
    let opened = c.in-Ok.ensures.opened clean in
    let parts = and_parts _ _ found.honest in
    let before : AreClean g.D.Disk c.close-files.result.log c.close-files.result.db =
    and_from _ _ (c.crash.ensures.clean parts.0) (c.crash-2.ensures.clean parts.1) in
    let sure_now = subst (λ p. AreClean g.D.Disk p.0 p.1) c.close-files.ensures before in
    let none : IsClean (view it) = no_doubt _ (clean_is it.pool ∙ sure_now) in
    let left = may_after it _ _ _ c.close-files.ensures before (c.crash.ensures.left, c.crash-2.ensures.left) in
    let is_open = opened.0.is_open in
    let live = opened.1 is_open in
    subst (λ (d : Database). ∥ ((x : Content) × Holds d x × IsAmong these x) ∥₁) (sym opened.0.clean)
    (found_again it (c.store_of-store.ensures.numbered none) (c.store_of-store.ensures.sound none) _ left these
    (λ trees may_be. only trees (c.store_of-store.ensures.quiet.outcomes trees may_be))
    (file_state c.in-Ok.again) live.1 (record { holds = found.holds; reads = found.reads }))

pub returns-in-Ok-clause-left : goal.returns-in-Ok-clause-left
returns-in-Ok-clause-left g c clean =
    let it = c.store_of-store.result in
    let found = c.in-Ok.ensures.found clean in
    let opened = c.in-Ok.ensures.opened clean in
    let parts = and_parts _ _ found.honest in
    let before : AreClean g.D.Disk c.close-files.result.log c.close-files.result.db =
    and_from _ _ (c.crash.ensures.clean parts.0) (c.crash-2.ensures.clean parts.1) in
    let sure_now = subst (λ p. AreClean g.D.Disk p.0 p.1) c.close-files.ensures before in
    let none : IsClean (view it) = no_doubt _ (clean_is it.pool ∙ sure_now) in
    let left = may_after it _ _ _ c.close-files.ensures before (c.crash.ensures.left, c.crash-2.ensures.left) in
    subst (λ (d : Database). ∥ (file_state c.args.keep.connection).may_leave d.trees ∥₁) (sym opened.0.clean)
    (∥∥₁_map (next_run it (c.store_of-store.ensures.numbered none) (c.store_of-store.ensures.sound none) _ left
    (file_state c.in-Ok.again) (record { holds = found.holds; reads = found.reads }))
    (λ may_be. c.store_of-store.ensures.quiet.outcomes (file_state c.in-Ok.again).committed.trees may_be))

no_more : {m n : ℕ} → m ≤ n → n ≡ 0 → m ≡ 0
no_more le is = omega arith

pub returns-in-Ok-clause-honest : goal.returns-in-Ok-clause-honest
returns-in-Ok-clause-honest g c clean =
    let it = c.store_of-store.result in
    let parts = and_parts _ _ (c.in-Ok.ensures.found clean).honest in
    let before : AreClean g.D.Disk c.close-files.result.log c.close-files.result.db =
    and_from _ _ (c.crash.ensures.clean parts.0) (c.crash-2.ensures.clean parts.1) in
    let sure_now = subst (λ p. AreClean g.D.Disk p.0 p.1) c.close-files.ensures before in
    let none : doubt (view it).is_clean ≡ 0 = no_doubt _ (clean_is it.pool ∙ sure_now) in
    let quiet : doubt (view c.args.keep.connection.store).is_clean ≤ doubt (view it).is_clean =
    c.store_of-store.ensures.quiet.clean in
    no_more quiet none
