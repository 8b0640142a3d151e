use Rattle.std.proofs.Common.{[], ◌∷◌, ◌≡◌, ap, false, rules, subst, sym}
use Rattle.sqlite.specs.State.{HasCleanDisk}
use Rattle.sqlite.specs.Files.{file_state}
use Rattle.sqlite.specs.Effect.{Database}
use Rattle.sqlite_store.specs.FileStore.{view}
use Rattle.sql_keep.specs.StoreContent.{Holds, HoldsOf, IsContentOf, LeavesOnly}
use Rattle.sql_keep.proofs.NextOpen.{holds_content}
use Rattle.sql_keep.proofs.opening.open_path.Goals as goal

pub returns-in-Ok-clause-found : goal.returns-in-Ok-clause-found
returns-in-Ok-clause-found g c clean v trees x database content =
    let same : c.over_files.result.connection ≡ c.in-Ok.conn = ap (λ k. k.connection) c.over_files.ensures.keeper in
    let first : HasCleanDisk (file_state c.in-Ok.conn) = subst (λ h. HasCleanDisk (file_state h)) same clean in
    let found = c.in-Ok.ensures.found first in
    let opened = c.in-Ok.ensures.opened first in
    let live = opened.1 opened.0.is_open in
    let held =
    holds_content v (file_state c.in-Ok.conn).committed x live.1
    (subst (λ t. IsContentOf v t x) (sym (found.holds trees database)) content) in
    subst (λ h. HoldsOf v (file_state h).now x) (sym same) (subst (λ (d : Database). HoldsOf v d x) (sym opened.0.clean) held)

pub returns-in-Ok-clause-alone : goal.returns-in-Ok-clause-alone
returns-in-Ok-clause-alone g c clean x held =
    let same : c.over_files.result.connection ≡ c.in-Ok.conn = ap (λ k. k.connection) c.over_files.ensures.keeper in
    let first : HasCleanDisk (file_state c.in-Ok.conn) = subst (λ h. HasCleanDisk (file_state h)) same clean in
    let opened = c.in-Ok.ensures.opened first in
    subst (λ h. LeavesOnly (file_state h).may_leave (x ∷ [])) (sym same)
    (c.over_files.ensures.alone opened.0.is_open x (subst (λ h. Holds (file_state h).now x) same held))

pub returns-in-Ok-clause-shown : goal.returns-in-Ok-clause-shown
returns-in-Ok-clause-shown g c clean trees left =
    let same : c.over_files.result.connection ≡ c.in-Ok.conn = ap (λ k. k.connection) c.over_files.ensures.keeper in
    let first : HasCleanDisk (file_state c.in-Ok.conn) = subst (λ h. HasCleanDisk (file_state h)) same clean in
    let opened = c.in-Ok.ensures.opened first in
    subst (λ h. trees ≡ (file_state h).now.trees) (sym same)
    (c.over_files.ensures.shown opened.0.is_open trees (subst (λ h. (file_state h).may_leave trees) same left))

pub returns-in-Ok-clause-plain : goal.returns-in-Ok-clause-plain
returns-in-Ok-clause-plain g c clean blank =
    let same : c.over_files.result.connection ≡ c.in-Ok.conn = ap (λ k. k.connection) c.over_files.ensures.keeper in
    let first : HasCleanDisk (file_state c.in-Ok.conn) = subst (λ h. HasCleanDisk (file_state h)) same clean in
    subst (λ h. (view h.store).has_sums ≡ false) (sym same) (c.in-Ok.ensures.plain first blank)

pub returns-in-Ok-clause-going : goal.returns-in-Ok-clause-going
returns-in-Ok-clause-going g c = search rules

pub returns-in-Err-clause-error : goal.returns-in-Err-clause-error
returns-in-Err-clause-error g c = c.in-Err.ensures.error
