use Rattle.std.proofs.Common.{◌≡◌, arith, refl, rules, subst, sym, true}
use Rattle.std.proofs.lemmas.Result.{on_ok_weaker}
use Rattle.std.specs.Prelude.{OnOk}
use Rattle.sqlite.specs.Effect.{Database}
use Rattle.sqlite.specs.Held.{state}
use Rattle.sqlite.specs.State.{HasCleanDisk, State, Survives}
use Rattle.sqlite.proofs.StateLemmas.{survives_then}
use Rattle.sqlite_trees.specs.Tree.{Trees}
use Rattle.keep.specs.Content.{new_content, with_changes}
use Rattle.sql_keep.specs.StoreContent.{Holds, IsContent}
use Rattle.sql_keep.specs.Transactions.{IsSettled, Makes}
use Rattle.sql_keep.proofs.Stops.{committed, survives_commit}
use Rattle.sql_keep.proofs.Upgrades.{filled_in}
use Rattle.sql_keep.proofs.create.create.Goals as goal

module _ (g : _) (c : goal.After-conn-2-1 g) where
  same : c.commit.new.self.0 ≡ c.conn-2-1.given.0
  same = search rules

  abbrev begun : State
  begun = state g.S.Store (record c.args.conn.now { in_transaction = true })

  abbrev Is : Database → Type 0
  Is = λ db. Holds db (with_changes c.args.changes.now new_content)

  all : HasCleanDisk (state g.S.Store c.put_all.new.tx.conn.now)
      → Makes Is begun (state g.S.Store c.put_all.new.tx.conn.now)
  all clean =
      filled_in begun (state g.S.Store c.create_later.new.tx.conn.now) (state g.S.Store c.upsert.new.tx.conn.now)
      (state g.S.Store c.put_all.new.tx.conn.now) c.new_row-row.result c.args.changes.now c.new_row-row.ensures
      c.requires.empty c.upsert.ensures.survives c.put_all.ensures.survives
      (rw c.transaction-tx.ensures.begun at c.in_ok-create_later.ensures.made) c.in_ok-upsert.ensures.put
      c.in_ok-put_all.ensures.put clean refl

pub returns-clause-made : goal.returns-clause-made
returns-clause-made g c clean =
    let ended : HasCleanDisk (state g.S.Store c.commit.new.self.0) =
    subst (λ h. HasCleanDisk (state g.S.Store h)) (sym (same g c)) clean in
    subst (λ h. OnOk c.commit.result (IsSettled (Is g c) (state g.S.Store h))) (same g c)
    (on_ok_weaker c.commit.result
    (λ ok. committed g.S.Store c.args.conn.now c.put_all.new.tx.conn.now c.commit.new.self.0 (Is g c)
    (all g c (omega (arith, ended, c.commit.ensures.survives.clean))) ok.1) (c.commit.ensures.ok ended))

pub returns-clause-survives : goal.returns-clause-survives
returns-clause-survives g c =
    let last = c.put_all.new.tx.conn.now in
    let two =
    survives_then (begun g c) (state g.S.Store c.create_later.new.tx.conn.now)
    (state g.S.Store c.upsert.new.tx.conn.now) (λ _. ⊥) (λ _. ⊥) (λ _. ⊥) (λ _ _ none. none) (λ _ _ none. none)
    (rw c.transaction-tx.ensures.begun at c.create_later.ensures.survives) c.upsert.ensures.survives in
    let three =
    survives_then (begun g c) (state g.S.Store c.upsert.new.tx.conn.now) (state g.S.Store last) (λ _. ⊥) (λ _. ⊥)
    (λ _. ⊥) (λ _ _ none. none) (λ _ _ none. none) two c.put_all.ensures.survives in
    let P : Trees → Type 0 = λ trees. IsContent trees (with_changes c.args.changes.now new_content) in
    subst (λ h. Survives (state g.S.Store c.args.conn.now) (state g.S.Store h) P) (same g c)
    (survives_commit g.S.Store c.args.conn.now last c.commit.new.self.0 P
    (λ clean. ((all g c clean).is).content) three c.commit.ensures.survives)
