use Rattle.std.proofs.Common.{◌≡◌, arith, refl, rules, subst, sym, true}
use Rattle.std.proofs.lemmas.Result.{on_ok_weaker}
use Rattle.std.specs.Prelude.{OnOk}
use Rattle.sqlite.specs.Effect.{Database}
use Rattle.sqlite.specs.Held.{state}
use Rattle.sqlite.specs.State.{HasCleanDisk, State, Survives}
use Rattle.sqlite.proofs.StateLemmas.{survives_then}
use Rattle.sql_keep.specs.Description.{schema_of}
use Rattle.sql_keep.specs.Transactions.{IsSettled, Makes}
use Rattle.sql_keep.specs.UpgradeSteps.{AreRaised, IsRaised}
use Rattle.sql_keep.proofs.Stops.{committed, survives_commit}
use Rattle.sql_keep.proofs.Upgrades.{raises_in}
use Rattle.sql_keep.proofs.create.raise.Goals as goal

module _ (g : _) (c : goal.After-conn-2-1 g) where
  same : c.commit.new.self.0 ≡ c.conn-2-1.given.0
  same = search rules

  abbrev begun : State
  begun = state g.S.Store (record c.args.conn.now { in_transaction = true })

  abbrev Is : Database → Type 0
  Is = IsRaised c.args.version c.args.row.now (state g.S.Store c.args.conn.now).now

  both : HasCleanDisk (state g.S.Store c.upsert.new.tx.conn.now)
      → (state g.S.Store c.args.conn.now).now.schema ≡ schema_of c.args.version
      → Makes Is begun (state g.S.Store c.upsert.new.tx.conn.now)
  both clean has =
      raises_in begun (state g.S.Store c.create_later.new.tx.conn.now) (state g.S.Store c.upsert.new.tx.conn.now)
      c.args.version c.args.row.now c.requires.old has c.upsert.ensures.survives
      (rw c.transaction-tx.ensures.begun at c.in_ok-create_later.ensures.made) c.in_ok-upsert.ensures.put clean refl

pub returns-clause-made : goal.returns-clause-made
returns-clause-made g c clean has =
    let ended : HasCleanDisk (state g.S.Store c.commit.new.self.0) =
    subst (λ h. HasCleanDisk (state g.S.Store h)) (sym (same g c)) clean in
    subst (λ h. OnOk c.commit.result (IsSettled (Is g c) (state g.S.Store h))) (same g c)
    (on_ok_weaker c.commit.result
    (λ ok. committed g.S.Store c.args.conn.now c.upsert.new.tx.conn.now c.commit.new.self.0 (Is g c)
    (both g c (omega (arith, ended, c.commit.ensures.survives.clean)) has) ok.1) (c.commit.ensures.ok ended))

pub returns-clause-survives : goal.returns-clause-survives
returns-clause-survives g c =
    let last = c.upsert.new.tx.conn.now in
    let two =
    survives_then (begun g c) (state g.S.Store c.create_later.new.tx.conn.now) (state g.S.Store last) (λ _. ⊥)
    (λ _. ⊥) (λ _. ⊥) (λ _ _ none. none) (λ _ _ none. none)
    (rw c.transaction-tx.ensures.begun at c.create_later.ensures.survives) c.upsert.ensures.survives in
    let P = AreRaised c.args.version c.args.row.now (state g.S.Store c.args.conn.now).now in
    subst (λ h. Survives (state g.S.Store c.args.conn.now) (state g.S.Store h) P) (same g c)
    (survives_commit g.S.Store c.args.conn.now last c.commit.new.self.0 P
    (λ clean has x held. ((both g c clean has).is x held).content) two c.commit.ensures.survives)
