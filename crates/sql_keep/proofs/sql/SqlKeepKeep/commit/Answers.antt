use Rattle.std.proofs.Common.{◌≡◌, [], ◌∷◌, ap, subst, sym}
use Rattle.std.proofs.lemmas.Result.{on_ok_weaker}
use Rattle.sqlite.specs.Held.{state}
use Rattle.sql_keep.specs.StoreContent.{Holds, LeavesOnly}
use Rattle.sql_keep.proofs.Stops.{leaves_either, leaves_now}
use Rattle.sql_keep.proofs.sql.SqlKeepKeep.commit.Goals as goal

pub returns-clause-put : goal.returns-clause-put
returns-clause-put g c clean =
    let same : c.self.inside.conn ≡ c.args.self.now.connection = ap (λ k. k.connection) c.self.view_is in
    rw same at (on_ok_weaker c.commit_to-done.result (λ done. done.is) (c.commit_to-done.ensures.put clean))

pub returns-clause-alone : goal.returns-clause-alone
returns-clause-alone g c clean =
    on_ok_weaker c.commit_to-done.result
    (λ done x held. leaves_now (state g.S.Store c.commit_to-done.new.conn) x
    (λ trees left. g.met.S.Store.settled c.commit_to-done.new.conn.store trees done.is_open left) done.settled
    held) (c.commit_to-done.ensures.put clean)

pub returns-clause-either : goal.returns-clause-either
returns-clause-either g c clean going x held alone =
    let same : c.args.self.now.connection ≡ c.self.inside.conn = ap (λ k. k.connection) (sym c.self.view_is) in
    leaves_either (state g.S.Store c.self.inside.conn) (state g.S.Store c.commit_to-done.new.conn) c.args.changes.now x
    c.commit_to-done.ensures.survives clean
    (subst (λ h. Holds (state g.S.Store h).now x) same held)
    (subst (λ h. LeavesOnly (state g.S.Store h).may_leave (x ∷ [])) same alone)
