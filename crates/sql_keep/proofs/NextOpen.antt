-- What a stop left is found again.
use Rattle.std.proofs.Common.{◌≡◌, ℕ, inl, inr, List, [], ◌∷◌, IsTrue, subst, sym}
use Rattle.std.specs.List.{AllByRecursion}
use Rattle.std.proofs.Math.Logic.{∥∥₁_map}
use Rattle.sqlite_disk.specs.declared.Disk.{Ghosts}
use Rattle.sqlite_wal.specs.Recovery.{Image}
use Rattle.sqlite_wal.specs.Files.{outcomes}
use Rattle.sqlite_wal.specs.Reads.{AreClean}
use Rattle.sqlite_pool.proofs.StateLemmas.{may_leave_is}
use Rattle.sqlite_catalog.specs.Listing.{IsSound}
use Rattle.sqlite_catalog.proofs.ReadLemmas.{lists_once}
use Rattle.sqlite_trees.specs.Objects.{catalog_tree}
use Rattle.sqlite_store.specs.declared.store.FileStore.{FileStore}
use Rattle.sqlite_store.specs.FileStore.{state, view, recovers, files}
use Rattle.sqlite.specs.Held.{AreDatabases}
use Rattle.sqlite.specs.State.{State}
use Rattle.sqlite.specs.Effect.{Database, IsDatabase}
use Rattle.sqlite.specs.Start.{FindsIn}
use Rattle.sqlite.proofs.Theorems.{next_run}
use Rattle.ledger.specs.declared.rows.Tables.{Tables}
use Rattle.ledger.specs.Rows.{Content}
use Rattle.ledger.specs.Tables.{content_of}
use Rattle.keep.specs.Content.{IsAmong, IsDesk, newest}
use Rattle.sql_keep.specs.Description.{schema_of}
use Rattle.sql_keep.specs.StoreContent.{Holds, HoldsOf, IsContentOf, LeavesOnly}

-- a sound database over trees that have a content holds it
pub holds_content : (v : ℕ) (db : Database) (x : Content) → IsSound db.schema db.trees → IsContentOf v db.trees x → HoldsOf v db x
holds_content v db x sound has = record {
  schema_is = lists_once (db.trees catalog_tree) db.schema (schema_of v) sound.lists has.lists;
  content = has;
}

-- The files hold what a stop could leave of this store. Then an open finds one of the contents that it could leave.
pub found_again : {D : Type 0} {g : Ghosts D} (it : FileStore D g) → IsTrue (view it).is_numbered → AreDatabases (recovers it)
    → (left : Image) → (state it).may_leave left → (these : List Content) → LeavesOnly (recovers it) these
    → (opened : State) → IsDatabase opened.committed → FindsIn left opened
    → ∥ ((x : Content) × Holds opened.committed x × IsAmong these x) ∥₁
found_again it numbered sound left may these only opened db found =
    ∥∥₁_map (next_run it numbered sound left may opened found) (λ may_be.
    let has = only opened.committed.trees may_be in
    let r : ((x : Content) × Holds opened.committed x × IsAmong these x) =
    (has.0, holds_content newest opened.committed has.0 db has.1, has.2) in
    r)

pub may_after : {D : Type 0} {g : Ghosts D} (it : FileStore D g) (log db : D) (image : Image) → (log, db) ≡ files it
    → AreClean g log db → outcomes g log db image → (state it).may_leave image
may_after {g = g} it log db image same clean may =
    may_leave_is it.pool image (subst (λ p. AreClean g p.0 p.1) same clean)
    (subst (λ p. outcomes g p.0 p.1 image) same may)

each_is : (P : Content → Type 0) (these : List Content) (x : Content) → AllByRecursion P these → IsAmong these x → P x
each_is P [] x all none = absurd none
each_is P (y ∷ these) x all (inl is) = subst P (sym is) all.0
each_is P (y ∷ these) x all (inr more) = each_is P these x all.1 more

module _ (Held : Content → Type 0) (these : List Content) where
  pub is_among : (t : Tables) → ((x : Content) → Held x → content_of t ≡ x)
      → ∥ ((x : Content) × Held x × IsAmong these x) ∥₁ → ∥ IsAmong these (content_of t) ∥₁
  is_among t one found =
      ∥∥₁_map found (λ f. let r : IsAmong these (content_of t) = subst (IsAmong these) (sym (one f.0 f.1)) f.2 in r)

  pub is_desk : (f : (x : Content) × Held x × IsAmong these x) → AllByRecursion IsDesk these → IsDesk f.0
  is_desk f all = each_is IsDesk these f.0 all f.2
