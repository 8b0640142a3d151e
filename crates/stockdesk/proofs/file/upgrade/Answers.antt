use Rattle.std.proofs.Common.{◌≤◌, inl, inr, pos, subst, sym, ℕ}
use Rattle.std.proofs.Math.Nat.{eq-or-lt_of_le}
use Rattle.std.proofs.lemmas.Result.{on_ok_weaker}
use Rattle.sqlite.specs.Effect.{Database}
use Rattle.sqlite.specs.Files.{file_state}
use Rattle.sqlite.specs.State.{HasCleanDisk}
use Rattle.sqlite.specs.WalFiles.{image_at}
use Rattle.sqlite_trees.specs.Tree.{Trees}
use Rattle.ledger.specs.Rows.{Content}
use Rattle.keep.specs.Content.{IsDesk, IsOneRow, newest}
use Rattle.sql_keep.specs.StoreContent.{HasTables, Holds, HoldsOf}
use Rattle.sql_keep.specs.Laws.{holds_tables, old_is_apart}
use Rattle.sql_keep.specs.Old.{HoldsOld, IsOld, IsOldContent}
use Rattle.sql_keep.specs.Starts.{StartsOld}
use Rattle.sql_keep.proofs.Schemas.{holds_one_row}
use Rattle.stockdesk.proofs.file.upgrade.Goals as goal

-- what the bytes hold of an older version the store holds
held_old : (g : _) (c : goal.After-upgrade g) (clean : HasCleanDisk (file_state c.in_ok-keep.keep.connection))
    (x : Content) → StartsOld (image_at g.S.Start) x → HoldsOld (file_state c.in_ok-keep.keep.connection).now x
held_old g c clean x there = (there.0, there.1, c.in_ok-keep.ensures.old clean there.0 x there.2)

pub returns-clause-made : goal.returns-clause-made
returns-clause-made g c clean =
    let was = c.upgrade.ensures.clean clean in
    on_ok_weaker c.upgrade.result.1
    (λ is x. (
      λ there. is.made x (held_old g c was x there),
      λ there. is.same x (c.in_ok-keep.ensures.opened.held was x there),
    )) (c.upgrade.ensures.upgrades clean).done

pub returns-clause-alone : goal.returns-clause-alone
returns-clause-alone g c clean = on_ok_weaker c.upgrade.result.1 (λ is. is.alone) (c.upgrade.ensures.upgrades clean).done

pub returns-clause-either : goal.returns-clause-either
returns-clause-either g c clean x there trees left =
    let was = c.upgrade.ensures.clean clean in
    let held = held_old g c was x there in
    elim ((c.upgrade.ensures.upgrades clean).either trees left) [
      | inl before ↦
          inl (subst (λ (t : Trees). IsOldContent t x) (sym (c.in_ok-keep.ensures.shown was trees before))
          (held.0, held.1, held.2.content))
      | inr made ↦ inr (made.whole x held)
    ]

pub returns-clause-kept : goal.returns-clause-kept
returns-clause-kept g c clean x there trees left =
    let was = c.upgrade.ensures.clean clean in
    let held = c.in_ok-keep.ensures.opened.held was x there in
    elim ((c.upgrade.ensures.upgrades clean).either trees left) [
      | inl before ↦ c.in_ok-keep.ensures.opened.alone was x there trees before
      | inr made ↦ absurd (old_is_apart _ x made.was (holds_tables _ x held))
    ]

pub returns-clause-unchanged : goal.returns-clause-unchanged
returns-clause-unchanged g c clean told x =
    let was = c.upgrade.ensures.clean clean in
    let same = sym ((c.upgrade.ensures.upgrades clean).unchanged told).0 in (
      λ there. subst (λ (d : Database). Holds d x) same (c.in_ok-keep.ensures.opened.held was x there),
      λ there. subst (λ (d : Database). HoldsOld d x) same (held_old g c was x there),
    )

-- what holds a desk of whatever version is told as one
is_told : (db : Database) (version : ℕ) (x : Content) → 1 ≤ version → version ≤ newest → HoldsOf version db x
    → IsOneRow (pos version) x.desk → ¬ IsOld db → ((y : Content) → HasTables db y → ¬ IsDesk y) → ⊥
is_told db version x some late held (row, one, is) not_old none = elim (eq-or-lt_of_le late) [
  | inl same ↦
      none x (holds_tables db x (subst (λ w. HoldsOf w db x) same held))
      (subst (λ w. IsOneRow (pos w) x.desk) same (row, one, is))
  | inr older ↦ not_old (version, (some, older), holds_one_row db version x row held one is)
]

pub returns-clause-desk : goal.returns-clause-desk
returns-clause-desk g c clean told (version, x, some, late, there, one) =
    let none = (c.upgrade.ensures.upgrades clean).desk told in
    is_told _ version x some late (c.in_ok-keep.ensures.old (c.upgrade.ensures.clean clean) version x there) one none.0 none.1
