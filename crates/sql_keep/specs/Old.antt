-- Stores of older versions, and what is made of them.
use Rattle.std.specs.Prelude.{◌≡◌, ◌<◌, ◌≤◌, ◌⊎◌, ⊤, ℕ, ℤ, Err, IsTrue, OnOk, Result, pos, [], ◌∷◌, map}
use Rattle.sqlite.specs.Effect.{Database}
use Rattle.sqlite.specs.State.{State}
use Rattle.sqlite_trees.specs.Tree.{Trees}
use Rattle.ledger.specs.Rows.{Content, DeskCells}
use Rattle.sql_keep.specs.Schema.{desk_table}
use Rattle.keep.specs.Content.{IsDesk, IsVersion, newest}
use Rattle.sql_keep.specs.Description.{IsOlder, declared, desk_schema, since}
use Rattle.sql_keep.specs.StoreContent.{HasTable, HasTables, Holds, HoldsOf, IsContent, IsContentOf, LeavesOnly, Stores}
use Rattle.sql_keep.specs.Names.{HasTableNamed}
use Rattle.keep.specs.declared.table_row.TableName.{TableName}
use Rattle.keep.specs.declared.table_row.TableName.TheVariants as table

-- the row of `desk` has that version, and the table lies anywhere
abbrev pub HasDesk : ℤ → Database → Type 0
HasDesk version db = (row : DeskCells) × HasTable db.schema db.trees desk_table (λ rows. Stores table.Desk rows (row ∷ []))
    × IsVersion version row

-- The tables of that version are declared, in whatever order and beside whatever others, and hold whatever rows. None
-- of the tables has the name of one that a later version brought. And `desk` has one row, of that version.
pub record IsOfVersion (version : ℕ) (db : Database) : Type 0 where
  pub desk : HasDesk (pos version) db
  pub tables : (t : TableName) → since t ≤ version → HasTable db.schema db.trees (declared t) (λ _. ⊤)
  pub no_later : (t : TableName) → version < since t → ¬ HasTableNamed db.schema (declared t).name

-- the database is of an older version
abbrev pub IsOld : Database → Type 0
IsOld db = (version : ℕ) × IsOlder version × IsOfVersion version db

-- the schema is that of a desk as it is made, and `desk` has one row, of the newest version
pub record IsCurrent (db : Database) : Type 0 where
  pub schema_is : db.schema ≡ desk_schema
  pub desk : (row : DeskCells) × Stores table.Desk (db.trees desk_table.tree) (row ∷ []) × IsVersion (pos newest) row

-- the trees have this content, of an older version
abbrev pub IsOldContent : Trees → Content → Type 0
IsOldContent trees x = (version : ℕ) × IsOlder version × IsContentOf version trees x

abbrev pub HoldsOld : Database → Content → Type 0
HoldsOld db x = (version : ℕ) × IsOlder version × HoldsOf version db x

-- ---- upgrades

abbrev pub raised : DeskCells → DeskCells
raised row = record row { version = pos newest }

-- the row of `desk` is of the newest version, and all other rows are as they were
abbrev pub upgraded : Content → Content
upgraded x = record x { desk = map raised x.desk }

-- the database was of an older version; these trees have all of it, and are of the newest version
pub record AreUpgraded (db : Database) (trees : Trees) : Type 0 where
  pub was : IsOld db
  pub whole : (x : Content) → HoldsOld db x → IsContent trees (upgraded x)

-- the store was of an older version; now all of it is of the newest version, and is committed
pub record IsUpgraded (old new : State) : Type 0 where
  pub was : IsOld old.now
  pub is_open : IsTrue new.is_open
  pub settled : new.committed ≡ new.now
  pub whole : (x : Content) → HoldsOld old.now x → Holds new.now (upgraded x)

-- The store was of an older version or of the newest. It holds all its rows in the newest version, and a stop leaves
-- that and nothing else.
pub record IsMadeNewest (old new : State) : Type 0 where
  pub version : IsOld old.now ⊎ IsCurrent old.now
  pub made : (x : Content) → HoldsOld old.now x → Holds new.now (upgraded x)
  pub same : (x : Content) → Holds old.now x → Holds new.now x
  pub alone : (x : Content) → Holds new.now x → LeavesOnly new.may_leave (x ∷ [])

-- Either it is done; or the answer is that the store is no desk: then that is so, and the store is as it was.
-- Whatever is answered, a stop leaves what was there before, or the whole of the newest version.
pub record Upgrades {E : Type 0} (no_desk : E) (old new : State) (ended : Result (Unit {0}) E) : Type 0 where
  pub done : OnOk ended (IsMadeNewest old new)
  pub desk : ended ≡ Err no_desk → (¬ IsOld old.now) × ((x : Content) → HasTables old.now x → ¬ IsDesk x)
  pub unchanged : ended ≡ Err no_desk → (new.now ≡ old.now) × (new.committed ≡ old.committed)
  pub either : (trees : Trees) → new.may_leave trees → old.may_leave trees ⊎ AreUpgraded old.now trees
