-- What the plain inserts do: the table of the row has it by its key, and the other tables have their rows.
use Rattle.std.proofs.Common.{◌≡◌, inl, ℕ, List, Ok, length, ap, subst}
use Rattle.sqlite.specs.Order.{Row}
use Rattle.sqlite.specs.State.{State, mode_of, Executes}
use Rattle.sqlite.specs.Listing.{understood}
use Rattle.sqlite.specs.Command.TheVariants.{Insert}
use Rattle.sqlite.proofs.Callers.{statement_of, runs_as}
use Rattle.sqlite_rules.specs.declared.error.Rowids.TheVariants.{Chosen}
use Rattle.sqlite_rules.specs.Edit.{with_rowid}
use Rattle.sqlite_trees.specs.Objects.{catalog_tree}
use Rattle.sqlite_catalog.specs.Listing.{Lists}
use Rattle.keep.specs.TableRows.{Cells, key_cmp}
use Rattle.keep.specs.declared.table_row.TableName.{TableName}
use Rattle.keep.proofs.KeyOrders.{key_cmp_total}
use Rattle.sql_keep.specs.StoreContent.{Stores}
use Rattle.sql_keep.specs.Description.{before, columns, declared, desk_schema, stored}
use Rattle.sql_keep.specs.Statements.{InsertsRow, new_row}
use Rattle.sql_keep.proofs.PlainInsert.{inserts_alone}
use Rattle.sql_keep.proofs.UpsertRows.{rows_kept}
use Rattle.sql_keep.proofs.UpsertTrees.{IsAlone}
use Rattle.sql_keep.proofs.Upserts.{PutsIntoTable, again, cast_source, facts, fresh, fresh_number, has_key, kept, meant}
use Rattle.sql_keep.proofs.Upserts.{same, shown_fresh, source, tells, terms, width}

pub inserts_into : (t : TableName) (text : List ℕ) → InsertsRow t text → (old new : State) (x : Cells t) (count : ℕ)
    → old.now.schema ≡ desk_schema → Executes text (columns t x) old new (Ok count)
    → (xs : List (Cells t)) → Stores t (old.now.trees (declared t).tree) xs → PutsIntoTable t x old.now new.now
inserts_into t text means old new x count has h xs are =
    let f = facts t in
    let tree : List Row = old.now.trees (declared t).tree in
    let w =
    runs_as text (columns t x) old new desk_schema has (Insert (length (before t)) (new_row (declared t))) means.command
    means.plain count h in
    let done =
    inserts_alone old.step_limit (mode_of old) (columns t x) desk_schema (length (before t)) (declared t) f.at f.uncounted
    (f.idle (mode_of old)) (terms t) (width t) (source t x) (f.reads x) (declared t).primary
    (statement_of text (understood desk_schema text)) old.now has w.tally new.now are.numbers w.changed in
    let put : IsAlone desk_schema (declared t) (declared t).primary (fresh t tree x) old.now.trees new.now.trees =
    subst (λ r. IsAlone desk_schema (declared t) (declared t).primary r old.now.trees new.now.trees)
    (ap (with_rowid Chosen tree) (cast_source t x)) done.1 in
    record {
      schema_is = done.0;
      lists = subst (Lists (new.now.trees catalog_tree)) done.0 w.sound.lists;
      own = λ ys are. rows_kept (key_cmp t) (key_cmp_total t) (stored t) (columns t) x (same t x) (tells t x)
          desk_schema (declared t) (declared t).primary (fresh t tree x) old.now.trees new.now.trees (kept t x) ys
          (λ r _. meant t tree x r) (shown_fresh t tree x)
          (λ was there is. again t x was (has_key t tree x ys are was there is)) (fresh_number t tree x) are
          (record { made = inl put.added; others = put.others });
      others = put.others;
    }
