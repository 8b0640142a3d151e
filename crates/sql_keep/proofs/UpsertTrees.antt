-- What INSERT .. ON CONFLICT (key) of one row makes of the trees: DO UPDATE upserts it, DO NOTHING inserts it.
use Rattle.std.specs.Prelude.{◌≡◌, ◌≢◌, ◌⊎◌, ℕ, false, true, List, [], ◌∷◌, Some, filter}
use Rattle.std.specs.List.{AllByRecursion}
use Rattle.sqlite.specs.Order.{Row}
use Rattle.sqlite_schema.specs.declared.schema.Table.{Table}
use Rattle.sqlite_schema.specs.declared.schema.Schema.{Schema}
use Rattle.sqlite_trees.specs.Tree.{Trees, put_row, rowid, has_rowid, without_rowid}
use Rattle.sqlite_rules.specs.Lists.{Has}
use Rattle.sqlite_rules.specs.Keys.{conflicts}
use Rattle.sqlite_rules.specs.Edit.{is_taken, id_in}

module _ (schema : Schema) (table : Table) (target : List ℕ) (new : Row) (old next : Trees) where
  -- no row has the key, and the new one is in
  pub record Added : Type 0 where
    pub none : (r : Row) → Has (old table.tree) r → conflicts (Some target) schema.indexes table new r ≡ false
    pub fresh : is_taken (old table.tree) new ≡ false
    pub rows : next table.tree ≡ put_row new (old table.tree)

  -- one row has the key, and has these cells at its own rowid
  pub record Remade (cells : Row) : Type 0 where
    pub was : Row
    pub there : Has (old table.tree) was
    pub has_key : conflicts (Some target) schema.indexes table new was ≡ true
    pub alone : filter (has_rowid (id_in (rowid was))) (old table.tree) ≡ was ∷ []
    pub fresh : is_taken (without_rowid (id_in (rowid was)) (old table.tree)) (rowid was ∷ cells) ≡ false
    pub rows : next table.tree ≡ put_row (rowid was ∷ cells) (without_rowid (id_in (rowid was)) (old table.tree))

  -- a row has the key, and the rows are as they were
  pub record Left : Type 0 where
    pub was : Row
    pub there : Has (old table.tree) was
    pub has_key : conflicts (Some target) schema.indexes table new was ≡ true
    pub rows : next table.tree ≡ old table.tree

  -- no row has the key, and nothing else is changed
  pub record IsAlone : Type 0 where
    pub added : Added
    pub others : AllByRecursion (λ t. t.tree ≢ table.tree → next t.tree ≡ old t.tree) schema.tables

  pub record Inserted : Type 0 where
    pub made : Added ⊎ Left
    pub others : AllByRecursion (λ t. t.tree ≢ table.tree → next t.tree ≡ old t.tree) schema.tables

  pub record Upserted (cells : Row) : Type 0 where
    pub made : Added ⊎ Remade cells
    pub others : AllByRecursion (λ t. t.tree ≢ table.tree → next t.tree ≡ old t.tree) schema.tables
