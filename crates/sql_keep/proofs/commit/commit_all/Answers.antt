use Rattle.std.proofs.Common.{◌≡◌, arith, refl, rules, subst, sym, true}
use Rattle.std.proofs.lemmas.Result.{on_ok_weaker}
use Rattle.std.specs.Prelude.{OnOk}
use Rattle.sqlite.specs.Held.{state}
use Rattle.sqlite.specs.State.{HasCleanDisk, Survives}
use Rattle.sql_keep.specs.Transactions.{AreChanged, Committed, IsPut, PutsIn}
use Rattle.sql_keep.proofs.Stops.{committed, survives_commit}
use Rattle.sql_keep.proofs.commit.commit_all.Goals as goal

module _ (g : _) (c : goal.After-conn-2-1 g) where
  same : c.commit.new.self.0 ≡ c.conn-2-1.given.0
  same = search rules

  puts : HasCleanDisk (state g.S.Store c.put_all.new.tx.conn.now)
      → PutsIn (state g.S.Store (record c.args.conn.now { in_transaction = true }))
      (state g.S.Store c.put_all.new.tx.conn.now) c.args.changes.now
  puts clean = (rw c.transaction-tx.ensures.begun at c.in_ok-put_all.ensures.put) clean refl

pub returns-clause-put : goal.returns-clause-put
returns-clause-put g c clean =
    let ended : HasCleanDisk (state g.S.Store c.commit.new.self.0) =
    subst (λ h. HasCleanDisk (state g.S.Store h)) (sym (same g c)) clean in
    subst (λ h.
    OnOk c.commit.result (Committed (state g.S.Store c.args.conn.now) (state g.S.Store h) c.args.changes.now))
    (same g c)
    (on_ok_weaker c.commit.result
    (λ ok. committed g.S.Store c.args.conn.now c.put_all.new.tx.conn.now c.commit.new.self.0
    (IsPut c.args.changes.now (state g.S.Store c.args.conn.now).now)
    (puts g c (omega (arith, ended, c.commit.ensures.survives.clean))) ok.1) (c.commit.ensures.ok ended))

pub returns-clause-survives : goal.returns-clause-survives
returns-clause-survives g c =
    let P = AreChanged (state g.S.Store c.args.conn.now).now c.args.changes.now in
    subst (λ h. Survives (state g.S.Store c.args.conn.now) (state g.S.Store h) P) (same g c)
    (survives_commit g.S.Store c.args.conn.now c.put_all.new.tx.conn.now c.commit.new.self.0 P
    (λ clean x held. ((puts g c clean).is x held).content)
    (rw c.transaction-tx.ensures.begun at c.put_all.ensures.survives) c.commit.ensures.survives)
