use Rattle.std.proofs.Common.{[], ◌∷◌, ◌≡◌, ap, rules, subst, sym}
use Rattle.sqlite.specs.State.{HasCleanDisk}
use Rattle.sqlite.specs.Files.{file_state}
use Rattle.ledger.specs.Rows.{Content}
use Rattle.keep.specs.Content.{IsAmong}
use Rattle.sql_keep.specs.StoreContent.{Holds, LeavesOnly}
use Rattle.sql_keep.proofs.trials.recovery.reopen.Goals as goal

pub returns-clause-found : goal.returns-clause-found
returns-clause-found g c clean these only =
    let same : c.over_files.result.connection ≡ c.in_ok-conn.conn = ap (λ k. k.connection) c.over_files.ensures.keeper in
    subst (λ h. ∥ ((x : Content) × Holds (file_state h).now x × IsAmong these x) ∥₁) (sym same)
    (c.in_ok-conn.ensures.found (subst (λ h. HasCleanDisk (file_state h)) same clean) these only)

pub returns-clause-alone : goal.returns-clause-alone
returns-clause-alone g c clean x held =
    let same : c.over_files.result.connection ≡ c.in_ok-conn.conn = ap (λ k. k.connection) c.over_files.ensures.keeper in
    subst (λ h. LeavesOnly (file_state h).may_leave (x ∷ [])) (sym same)
    (c.over_files.ensures.alone (c.in_ok-conn.ensures.open (subst (λ h. HasCleanDisk (file_state h)) same clean)) x
    (subst (λ h. Holds (file_state h).now x) same held))

pub returns-clause-left : goal.returns-clause-left
returns-clause-left g c clean =
    let same : c.over_files.result.connection ≡ c.in_ok-conn.conn = ap (λ k. k.connection) c.over_files.ensures.keeper in
    subst (λ h. ∥ (file_state c.args.keep.connection).may_leave (file_state h).now.trees ∥₁) (sym same)
    (c.in_ok-conn.ensures.left (subst (λ h. HasCleanDisk (file_state h)) same clean))

pub returns-clause-going : goal.returns-clause-going
returns-clause-going g c = search rules
