-- What a statement INSERT .. VALUES of one row does: no row had its key, for a table with no reference and no counter.
use Rattle.std.proofs.Common.{◌≡◌, ℕ, ℤ, List, [], ◌∷◌, ◌/◌, true, false, not, ◌&&◌, Some, None, Ok}
use Rattle.std.proofs.Common.{IsTrue, Option, subst₂}
use Rattle.std.specs.List.{list_any}
use Rattle.std.specs.Prelude.{bytes_eq}
use Rattle.std.proofs.Common.{length, refl, sym, ap, subst, ◌∙◌, slice_get, is_eq, true≢false}
use Rattle.std.proofs.lemmas.Bool.{and_left, and_parts, and_right, false_from_ne_true, not-true, or_from}
use Rattle.sqlite.specs.declared.types.Value.TheVariants.{Int}
use Rattle.sqlite.specs.Order.{Row, value_cmp}
use Rattle.sqlite.specs.Term.{Term}
use Rattle.sqlite_schema.specs.declared.schema.Constraint.TheVariants.{Unique}
use Rattle.sqlite_schema.specs.declared.schema.Table.{Table}
use Rattle.sqlite_schema.specs.declared.schema.Schema.{Schema}
use Rattle.sqlite_schema.specs.declared.command.Source.TheVariants.{Values}
use Rattle.sqlite_schema.specs.declared.command.Command.TheVariants.{Insert}
use Rattle.sqlite_schema.specs.Rules.{agree, clashes, differ, equal, guards}
use Rattle.sqlite_schema.specs.declared.schema.Keys.{Keys}
use Rattle.sqlite_value.specs.Keys.{first_key, plain}
use Rattle.sqlite_value.proofs.KeyLemmas.{first_key-plain}
use Rattle.sqlite_value.specs.declared.keys.Collation.TheVariants.{Binary}
use Rattle.sqlite_trees.specs.View.{is_int}
use Rattle.sqlite_rules.specs.declared.error.Rowids.TheVariants.{Chosen}
use Rattle.sqlite_trees.specs.Tree.{Trees, rowid}
use Rattle.sqlite_rules.specs.Lists.{Has}
use Rattle.sqlite_rules.specs.Cast.{cast_row}
use Rattle.sqlite_rules.specs.Keys.{conflicts, shares}
use Rattle.sqlite_rules.specs.Edit.{edit_of, id_in, taken_by, with_rowid, Applies}
use Rattle.sqlite_rules.specs.Action.{works}
use Rattle.sqlite_rules.proofs.ListLemmas.{all_has, has_got, some_from, some_has, test_has}
use Rattle.sqlite_rules.proofs.RuleLemmas.{keeps_at}
use Rattle.sqlite_rules.proofs.TableLemmas.{has_put, int_is, put_all_keeps}
use Rattle.sqlite.specs.declared.run.Mode.{Mode}
use Rattle.sqlite.specs.Effect.{Database, value_rows}
use Rattle.sqlite.specs.Rows.{Written, Task, Inserts, count_of, rowids_for, stamped}
use Rattle.sqlite.specs.Does.{Tally, Does}
use Rattle.sqlite.proofs.Callers.{one_step}
use Rattle.sql_keep.specs.StoreContent.{HaveNumbers}
use Rattle.sql_keep.proofs.NewTables.{same_value, went}
use Rattle.sql_keep.proofs.OneRow.{counts, freed, wrote}
use Rattle.sql_keep.proofs.UpsertTrees.{IsAlone}
use Rattle.sql_keep.proofs.Values.{differ_int, equal_int}

-- a row that went in beside another one has another key
module _ (schema : Schema) (table : Table) (listed : Has schema.tables table) (target : List ℕ) (keys : Keys)
    (old next : Trees) (new : Row) (keyed : HaveNumbers (old table.tree))
    (a : Applies schema keys old (record { table = table; gone = []; news = new ∷ [] }) next) (r : Row)
    (there : Has (old table.tree) r) where
  number : rowid new ≡ Int (id_in (rowid new))
  number = int_is (rowid new) (and_parts _ _ a.keyed).0

  was : rowid r ≡ Int (id_in (rowid r))
  was = int_is (rowid r) (all_has (λ s. IsTrue (is_int (rowid s))) (old table.tree) r keyed there)

  apart : is_eq (value_cmp (rowid r) (rowid new)) ≡ false
  apart =
      false_from_ne_true _ (λ e. true≢false (sym (some_from (λ s. is_eq (value_cmp (rowid s) (rowid new))) (old table.tree) r
      there e) ∙ freed _ _ a.fresh))

  differs : differ (rowid r) (rowid new) ≡ true
  differs = let other = rw (was, number) at apart in rw (was, number) (differ_int _ _ ∙ ap not other)

  by_rowid : equal (first_key plain).collation (rowid r) (rowid new) ≡ false
  by_rowid =
      ap (λ k. equal k.collation (rowid r) (rowid new)) first_key-plain
      ∙ subst (λ v. equal Binary (rowid r) v ≡ is_eq (value_cmp (rowid r) v)) (sym number) (equal_int (rowid r) _) ∙ apart

  by_index : list_any (shares (Some target) table new r) schema.indexes ≡ true → ⊥
  by_index e =
      let it = some_has (shares (Some target) table new r) schema.indexes e in
      let parts = and_parts (guards it.0 table && bytes_eq target it.0.columns) _ it.2 in
      let guarded = (and_parts (guards it.0 table) _ parts.0).0 in
      let same_key = parts.1 in
      let next_new = subst (λ l. Has l new) (sym a.rows) (has_put new (old table.tree)) in
      let next_r = subst (λ l. Has l r) (sym a.rows) (put_all_keeps (new ∷ []) (old table.tree) r a.fresh there) in
      let unique =
      test_has (λ i. not (guards i table && clashes i.order i.columns (next table.tree) new)) schema.indexes it.0
      (keeps_at Unique schema next table new (a.fits.rules Unique (λ e. cc)) listed next_new) it.1 in
      let clash : clashes it.0.order it.0.columns (next table.tree) new ≡ true =
      some_from (λ other. agree it.0.order it.0.columns other it.0.columns new && differ (rowid other) (rowid new))
      (next table.tree) r next_r (λ i. same_key i && differs i) in
      true≢false (sym (λ i. guarded i && clash i) ∙ not-true _ unique)

  has_other_key : conflicts (Some target) schema.indexes table new r ≡ false
  has_other_key = or_from _ _ (and_right _ _ (and_left _ _ by_rowid)) (false_from_ne_true _ by_index)

module _ (limit : Option ℕ) (mode : Mode) (params : Row) (schema : Schema) (at : ℕ) (table : Table)
    (is : slice_get schema.tables at ≡ Some table) (uncounted : table.is_counted ≡ false)
    (idle : (gone : List Row) (news : List Row) → works schema mode.keys 0 table.tree gone news ≡ [])
    (terms : List Term) (width : ℕ) (source : Row)
    (reads : value_rows (stamped table params) width (length terms / width) terms ≡ source ∷ []) (target : List ℕ) where
  abbrev task : Task
  task = record { limit = limit; keys = mode.keys; schema = schema; table = table; params = params }

  abbrev new_in : Trees → Row
  new_in db = with_rowid Chosen (db table.tree) (cast_row table source)

  chosen : (top : ℤ) → rowids_for table top ≡ Chosen
  chosen top = rw uncounted refl

  put : (db : Trees) (w : Written) → Inserts task (Values terms width) db (Ok w)
      → Applies schema mode.keys db (record { table = table; gone = []; news = new_in db ∷ [] }) w.trees
  put db w h =
      let rows = went h in
      let counter = went rows.2 in
      let wrote = went counter.2 in
      let counted = went wrote.2 in
      let same : w.trees ≡ wrote.0 =
      ap (λ (it : Written). it.trees) (same_value counted.2)
      ∙ counts limit mode params schema at table is uncounted wrote.0 counted.0 counter.0 _ counted.1 in
      let is_one : rows.0 ≡ source ∷ [] = rows.1.1 ∙ reads in
      let edit = edit_of db table [] (rowids_for table (count_of counter.0)) 0 rows.0 in
      let a : Applies schema mode.keys db edit wrote.0 =
      one_step schema mode.keys db wrote.0 edit (idle (taken_by db edit) edit.news) wrote.1 in
      subst (Applies schema mode.keys db (record { table = table; gone = []; news = new_in db ∷ [] })) (sym same)
      (subst₂ (λ rowids l. Applies schema mode.keys db (edit_of db table [] rowids 0 l) wrote.0) (chosen _) is_one a)

  pub inserts_alone : (text : List ℕ) (db : Database) (has : db.schema ≡ schema) (tally : Tally) (after : Database)
      → HaveNumbers (db.trees table.tree)
      → Does limit mode params db text None (Insert at (Values terms width)) (Ok (tally, after))
      → (after.schema ≡ schema) × IsAlone schema table target (new_in db.trees) db.trees after.trees
  inserts_alone text db has tally after keyed h =
      let ran =
      wrote limit mode params schema at table is uncounted (Insert at (Values terms width)) db has tally after h in
      let a =
      subst (Applies schema mode.keys db.trees (record { table = table; gone = []; news = new_in db.trees ∷ [] }))
      (sym ran.3) (put db.trees ran.1 ran.2) in (
        ran.0,
        record {
          added = record {
            none =
                has_other_key schema table (has_got schema.tables at table is) target mode.keys db.trees after.trees
                (new_in db.trees) keyed a;
            fresh = freed _ _ a.fresh;
            rows = a.rows;
          };
          others = a.tables;
        },
      )
