-- Stores with the tables of a version: what is named there, and where it lies.
use Rattle.std.proofs.Common.{◌≡◌, ◌<◌, ◌≤◌, ◌∙◌, ℕ, zero, suc, pos, List, [], ◌∷◌, Result, arith, subst, sym}
use Rattle.sqlite.specs.Effect.{Database}
use Rattle.sqlite.specs.Order.{Row}
use Rattle.sqlite.specs.Schema.{Schema}
use Rattle.ledger.specs.Rows.{Content, DeskCells}
use Rattle.keep.specs.Content.{IsAmong, newest}
use Rattle.sql_keep.specs.StoreContent.{HasTable, HasTables, HoldsOf, Stores}
use Rattle.sql_keep.specs.Description.{declared, desk_schema, schema_of, since}
use Rattle.sql_keep.specs.Laws.{named, one_schema}
use Rattle.sql_keep.specs.Names.{HasNames, TellsOtherSchema}
use Rattle.sql_keep.specs.Old.{IsOfVersion, IsOld}
use Rattle.sql_keep.specs.Schema.{desk_table}
use Rattle.keep.specs.declared.keep.KeepFault.{KeepFault}
use Rattle.keep.specs.declared.table_row.TableName.{TableName}
use Rattle.keep.specs.declared.table_row.TableName.TheVariants as table
use Rattle.sql_keep.proofs.Versions.{HasNamesOf, brought, in_version, lies, names_of_version, one_version}

-- the seven tables are none without their names
pub nameless : (db : Database) (x : Content) → ¬ HasNames db.schema → HasTables db x → ⊥
nameless db x none has = none (λ t early. named _ _ (has t).1)

-- a store of a version has its names
names_of : (v : ℕ) (db : Database) → IsOfVersion v db → HasNamesOf v db.schema
names_of v db is = record { early = λ t early. named _ _ (is.tables t early).1; late = is.no_later }

-- and so those of version 1
pub old_names : (db : Database) → IsOld db → HasNames db.schema
old_names db old t early =
    let names = names_of old.0 db old.2 in
    names.early t (omega (arith, early, old.1.0))

-- what is of a version has the schema of no other
pub is_of : (db : Database) (v w : ℕ) → w ≤ newest → db.schema ≡ schema_of w → v ≤ newest → IsOfVersion v db → v ≡ w
is_of db v w old is as_old of = one_version v w db.schema (names_of v db of) (names_of_version w db.schema is) as_old old

-- the schema of an older version is not that of the newest
pub older : (db : Database) (v : ℕ) → v < newest → db.schema ≡ schema_of v → db.schema ≡ desk_schema → ⊥
older db v old is also =
    let same : v ≡ newest = one_schema db.schema v newest (omega (arith, old)) (omega arith) is also in omega (arith, old, same)

-- an older version lacks a table
pub lacks_one : (db : Database) (x : Content) (v : ℕ) → v < newest → db.schema ≡ schema_of v → HasTables db x → ⊥
lacks_one db x v old is has =
    let t = brought newest (omega arith) (omega arith) in
    (names_of_version v db.schema is).late t.0 (omega (arith, old, t.1)) (named _ _ (has t.0).1)

-- what has the schema of the newest version is of no older one
pub not_older : (db : Database) → db.schema ≡ desk_schema → IsOld db → ⊥
not_older db is old =
    let same = is_of db old.0 newest (omega arith) is (omega (arith, old.1.1)) old.2 in omega (arith, same, old.1.1)

-- of the schema of a version nothing is told as of another
pub of_a_version : {T : Type 0} (schema : Schema) (v : ℕ) (answer : Result T KeepFault) (is_left : Type 0)
    → HasNames schema → 1 ≤ v → v ≤ newest → schema ≡ schema_of v → TellsOtherSchema schema answer is_left
of_a_version schema v answer is_left names some late is = record {
  nameless = λ none. absurd (none names);
  other = λ _ none. absurd (none (v, some, late, is));
}

-- the rows of a table lie where the version has it
pub rows_there : (db : Database) (v : ℕ) (t : TableName) (Are : List Row → Type 0) → db.schema ≡ schema_of v
    → HasTable db.schema db.trees (declared t) Are → Are (db.trees (declared t).tree)
rows_there db v t Are is has =
    let among = subst (λ (s : Schema). IsAmong s.tables (record (declared t) { tree = has.0 })) is has.1 in
    subst (λ tree. Are (db.trees tree)) (lies v t has.0 among).1 has.2

-- a store with the schema of a version and one row of that version is of it
pub is_of_version : (db : Database) (v : ℕ) (row : DeskCells) → 1 ≤ v → db.schema ≡ schema_of v
    → Stores table.Desk (db.trees desk_table.tree) (row ∷ []) → row.version ≡ pos v → IsOfVersion v db
is_of_version db v row some is are version =
    let there : (t : TableName) → since t ≤ v → IsAmong db.schema.tables (declared t) =
    λ t early. subst (λ (s : Schema). IsAmong s.tables (declared t)) (sym is) (in_version v t early) in
    record {
      desk = (row, (desk_table.tree, there table.Desk some, are), version);
      tables = λ t early. ((declared t).tree, there t early, tt);
      no_later = (names_of_version v db.schema is).late;
    }

-- what holds a content of a version, with one row of `desk` of that version, is of it
pub holds_one_row : (db : Database) (v : ℕ) (x : Content) (row : DeskCells) → HoldsOf v db x → x.desk ≡ row ∷ []
    → row.version ≡ pos v → IsOfVersion v db
holds_one_row db zero x row held one version =
    absurd (let none = sym (held.content.has.none table.Desk (omega arith)) ∙ one in cc)
holds_one_row db (suc v) x row held one version =
    is_of_version db (suc v) row (omega arith) held.schema_is
    (subst (Stores table.Desk (db.trees desk_table.tree)) one (held.content.has.rows table.Desk (omega arith)))
    version
