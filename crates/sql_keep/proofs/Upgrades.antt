-- What an upgrade does: the tables of later versions are made beside the others, and the row of `desk` is put in.
use Rattle.std.proofs.Common.{◌≡◌, ◌∙◌, ◌<◌, ◌≤◌, ℕ, List, [], ◌∷◌, IsTrue, ap, arith, pos, map, refl}
use Rattle.std.proofs.Common.{subst, sym}
use Rattle.std.proofs.lemmas.Cmp.{int_cmp_total, tied_itself}
use Rattle.sqlite.specs.Effect.{Database}
use Rattle.sqlite.specs.State.{State, HasCleanDisk, IsUnchanged, Survives}
use Rattle.sqlite.proofs.StateLemmas.{survives_then}
use Rattle.sqlite_trees.specs.Tree.{Trees}
use Rattle.ledger.specs.declared.rows.Change.{Change}
use Rattle.ledger.specs.declared.rows.Change.TheVariants as change
use Rattle.ledger.specs.declared.rows.DeskRow.{DeskRow}
use Rattle.ledger.specs.Changes.{put_row}
use Rattle.ledger.specs.Rows.{Content, DeskCells, desk_cmp}
use Rattle.ledger.specs.Tables.{desk_cells, no_content}
use Rattle.keep.specs.Content.{IsDesk, IsOneRow, IsVersion, new_content, new_row, newest, with_changes}
use Rattle.sql_keep.specs.StoreContent.{HasRowsOf, HasTables, Holds, IsContent, Stores}
use Rattle.sql_keep.specs.Loads.{Reads}
use Rattle.sql_keep.specs.Old.{AreUpgraded, HoldsOld, IsOld, IsUpgraded, raised, upgraded}
use Rattle.sql_keep.specs.Laws.{one_schema, rows_once}
use Rattle.sql_keep.specs.Stages.{AddsTables}
use Rattle.sql_keep.specs.UpgradeSteps.{AreRaised, IsRaised, with_row}
use Rattle.sql_keep.specs.Description.{desk_schema, schema_of, tables_after, tables_of}
use Rattle.keep.specs.declared.table_row.TableName.TheVariants as table
use Rattle.sql_keep.specs.Transactions.{IsSettled, Makes, PutsIn}
use Rattle.sql_keep.proofs.LaterTables.{holds_later, nothing}
use Rattle.sql_keep.proofs.Schemas.{is_of, is_of_version, rows_there}

-- the tables are made, and then the row is put in
pub raises_in : (a b c : State) (v : ℕ) (row : DeskRow) → v < newest → a.now.schema ≡ schema_of v → Survives b c (λ _. ⊥)
    → (HasCleanDisk b → IsTrue a.in_transaction
    → Makes (λ db. a.now.schema ≡ schema_of v → AddsTables (tables_of v) (tables_after v) a.now db) a b)
    → (HasCleanDisk c → IsTrue b.in_transaction → PutsIn b c (change.Desk row ∷ [])) → HasCleanDisk c
    → IsTrue a.in_transaction → Makes (IsRaised v row a.now) a c
raises_in a b c v row old has second make put clean begun =
    let made = make (omega (arith, clean, second.clean)) begun in
    let more = put clean made.mode in
    record {
      mode = more.mode;
      committed = more.committed ∙ made.committed;
      is = λ x rows. more.is x (holds_later v a.now b.now (made.is has) old x rows);
    }

-- ---- the row of the older version is replaced

replaced : (old new : DeskCells) → new.one ≡ old.one → put_row desk_cmp new (old ∷ []) ≡ new ∷ []
replaced old new same = rw (same, tied_itself int_cmp_total old.one) refl

module _ (db : Database) (v : ℕ) (old : v < newest) (some : 1 ≤ v) (is_schema : db.schema ≡ schema_of v)
    (was : DeskCells) (row : DeskRow) (is : desk_cells row ≡ raised was)
    (are : Stores table.Desk (db.trees 0) (was ∷ [])) where
  rows_of_v : (x : Content) → HoldsOld db x → HasRowsOf v db.trees x
  rows_of_v x held =
      subst (λ w. HasRowsOf w db.trees x)
      (one_schema db.schema held.0 v (omega (arith, held.1.1)) (omega (arith, old)) held.2.schema_is is_schema)
      held.2.content.has

  same_row : (x : Content) → HoldsOld db x → put_row desk_cmp (desk_cells row) x.desk ≡ map raised x.desk
  same_row x held =
      let one : x.desk ≡ was ∷ [] =
      rows_once table.Desk (db.trees 0) (was ∷ []) x.desk are ((rows_of_v x held).rows table.Desk some) in
      (λ i. put_row desk_cmp (is i) (one i)) ∙ replaced was (raised was) refl ∙ sym (ap (map raised) one)

  with_it : (x : Content) → HoldsOld db x → with_row row x ≡ upgraded x
  with_it x held = ap (λ (rows : List DeskCells). record x { desk = rows }) (same_row x held)

  pub whole_in : (trees : Trees) → AreRaised v row db trees → (x : Content) → HoldsOld db x → IsContent trees (upgraded x)
  whole_in trees made x held = subst (IsContent trees) (with_it x held) (made is_schema x (rows_of_v x held))

  pub whole_now : (new : Database) → IsRaised v row db new → (x : Content) → HoldsOld db x → Holds new (upgraded x)
  whole_now new made x held = subst (Holds new) (with_it x held) (made x (rows_of_v x held))

-- ---- the whole of it: the row was read, and then the two statements were done

module _ (start mid new : State) (v : ℕ) (old : v < newest) (some : 1 ≤ v) (was row : DeskRow)
    (is : desk_cells row ≡ raised (desk_cells was)) (has : start.now.schema ≡ schema_of v)
    (version : IsVersion (pos v) (desk_cells was))
    (found : Reads start mid (λ trees. Stores table.Desk (trees 0) (desk_cells was ∷ [])))
    (second : Survives mid new (AreRaised v row mid.now)) where
  module _ (clean : HasCleanDisk new) where
    read : IsUnchanged start mid × Stores table.Desk (start.now.trees 0) (desk_cells was ∷ [])
    read = found (omega (arith, clean, second.clean))

    was_old : IsOld start.now
    was_old = (v, (some, old), is_of_version start.now v (desk_cells was) some has read.1 version)

  pub upgraded_to : HasCleanDisk new → (mid.now.schema ≡ schema_of v → IsSettled (IsRaised v row mid.now) new)
      → IsUpgraded start new
  upgraded_to clean made =
      let same : mid.now ≡ start.now = (read clean).0.0.now_is in
      let raised = made (ap (λ (db : Database). db.schema) same ∙ has) in
      record {
        was = was_old clean;
        is_open = raised.is_open;
        settled = raised.settled;
        whole =
            whole_now start.now v old some has (desk_cells was) row is (read clean).1 new.now
            (subst (λ db. IsRaised v row db new.now) same raised.is);
      }

  pub survives_upgrade : Survives start mid (λ _. ⊥) → Survives start new (AreUpgraded start.now)
  survives_upgrade first =
      survives_then start mid new _ _ _ (λ _ db none. absurd none)
      (λ clean db made. record {
        was = was_old clean;
        whole =
            whole_in start.now v old some has (desk_cells was) row is (read clean).1 db
            (subst (λ now. AreRaised v row now db) (read clean).0.0.now_is made);
      })
      first second

-- ---- where nothing is upgraded

-- the one row that there is would be of the version that the schema is of
pub not_old : (db : Database) (v : ℕ) → v ≤ newest → db.schema ≡ schema_of v
    → ((rows : List DeskCells) → Stores table.Desk (db.trees 0) rows → ¬ IsOneRow (pos v) rows) → IsOld db → ⊥
not_old db v late is none old =
    let row = old.2.desk.0 in
    let same : old.0 ≡ v = is_of db old.0 v late is (omega (arith, old.1.1)) old.2 in
    none (row ∷ []) (rows_there db v table.Desk (λ rows. Stores table.Desk rows (row ∷ [])) is old.2.desk.1)
    (row, refl, subst (λ v. IsVersion (pos v) row) same old.2.desk.2)

pub not_current : (db : Database) (x : Content) → db.schema ≡ desk_schema
    → ((rows : List DeskCells) → Stores table.Desk (db.trees 0) rows → ¬ IsOneRow (pos newest) rows) → HasTables db x
    → IsDesk x → ⊥
not_current db x is none has =
    none x.desk (rows_there db newest table.Desk (λ rows. Stores table.Desk rows x.desk) is (has table.Desk))

-- ---- a new desk

-- it is nothing, and the row of a new desk
is_new : (row : DeskRow) → desk_cells row ≡ new_row → with_row row no_content ≡ new_content
is_new row is = ap (λ (cells : DeskCells). record no_content { desk = cells ∷ [] }) is

-- the tables are made, the row of a new desk is put in, and then the rows of the changes
pub filled_in : (a b c d : State) (row : DeskRow) (changes : List Change) → desk_cells row ≡ new_row
    → a.now.schema ≡ schema_of 0 → Survives b c (λ _. ⊥) → Survives c d (λ _. ⊥)
    → (HasCleanDisk b → IsTrue a.in_transaction
    → Makes (λ db. a.now.schema ≡ schema_of 0 → AddsTables (tables_of 0) (tables_after 0) a.now db) a b)
    → (HasCleanDisk c → IsTrue b.in_transaction → PutsIn b c (change.Desk row ∷ []))
    → (HasCleanDisk d → IsTrue c.in_transaction → PutsIn c d changes) → HasCleanDisk d
    → IsTrue a.in_transaction → Makes (λ db. Holds db (with_changes changes new_content)) a d
filled_in a b c d row changes is has second third make put puts clean begun =
    let raised =
    raises_in a b c 0 row (omega (arith)) has second make put (omega (arith, clean, third.clean)) begun in
    let held : Holds c.now new_content =
    subst (Holds c.now) (is_new row is) (raised.is no_content (nothing a.now.trees)) in
    let more = puts clean raised.mode in
    record {
      mode = more.mode;
      committed = more.committed ∙ raised.committed;
      is = more.is new_content held;
    }
