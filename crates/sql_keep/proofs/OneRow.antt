-- What a statement INSERT .. VALUES of one row ON CONFLICT does is what it does with that row, for a table with no reference and no counter.
use Rattle.std.proofs.Common.{◌≡◌, ℕ, ℤ, List, [], ◌∷◌, Bool, true, false, not, Some, None, Option, Ok, refl, sym, ap}
use Rattle.std.proofs.Common.{subst, ◌∙◌, ◌/◌, length, slice_get, ◌&&◌}
use Rattle.sqlite.specs.Order.{Row}
use Rattle.sqlite.specs.Term.{Term}
use Rattle.sqlite_schema.specs.declared.schema.Table.{Table}
use Rattle.sqlite_schema.specs.declared.schema.Schema.{Schema}
use Rattle.sqlite_schema.specs.declared.command.Source.TheVariants.{Values}
use Rattle.sqlite_schema.specs.declared.command.Command.{Command}
use Rattle.sqlite_schema.specs.declared.command.Command.TheVariants.{InsertOr}
use Rattle.sqlite_schema.specs.declared.command.Conflict.TheVariants.{Abort}
use Rattle.sqlite_schema.specs.declared.command.Upsert.{Upsert}
use Rattle.sqlite_rules.specs.declared.error.Rowids.{Rowids}
use Rattle.sqlite_rules.specs.declared.error.Rowids.TheVariants.{Chosen, Given}
use Rattle.sqlite_trees.specs.Tree.{Trees}
use Rattle.sqlite_rules.specs.Lists.{Has}
use Rattle.sqlite_rules.specs.Cast.{cast_row}
use Rattle.sqlite_rules.specs.Keys.{conflicts}
use Rattle.sqlite_rules.specs.Edit.{edit_of, taken_by, with_rowid, Applies}
use Rattle.sqlite_rules.specs.Action.{works}
use Rattle.sqlite.specs.declared.run.Mode.{Mode}
use Rattle.sqlite.specs.Effect.{Database, value_rows}
use Rattle.sqlite.specs.Rows.{Written, Task, TriesEach, Counts, InsertsOr, rowids_for, stamped, Puts, Tries, nothing}
use Rattle.sqlite.specs.Does.{Tally, Does, AtPlace, OnRows, WritesRows}
use Rattle.sqlite.proofs.Callers.{one_step}
use Rattle.sql_keep.proofs.NewTables.{same_value, went}
use Rattle.sql_keep.proofs.UpsertTrees.{IsAlone}

pub freed : (b c : Bool) → (not b && c) ≡ true → b ≡ false
freed true c h = sym h
freed false c h = refl

module _ (limit : Option ℕ) (mode : Mode) (params : Row) (schema : Schema) (at : ℕ) (table : Table)
    (is : slice_get schema.tables at ≡ Some table) (uncounted : table.is_counted ≡ false) where
  abbrev task : Task
  task = record { limit = limit; keys = mode.keys; schema = schema; table = table; params = params }

  -- what a statement on the rows of the table wrote is there after it
  pub wrote : (command : Command) (db : Database) (has : db.schema ≡ schema) (tally : Tally) (after : Database)
      → AtPlace (λ t. OnRows (record {
        limit = limit;
        keys = mode.keys;
        schema = db.schema;
        table = t;
        params = params;
      }) mode None command db.trees) (slice_get db.schema.tables at) (Ok (tally, after))
      → (after.schema ≡ schema) × (w : Written) × WritesRows task db.trees command (Ok w) × (after.trees ≡ w.trees)
  wrote command db has tally after h =
      let own : AtPlace (λ t. OnRows (record task { table = t }) mode None command db.trees) (slice_get schema.tables at)
      (Ok (tally, after)) =
      subst (λ s. AtPlace (λ t. OnRows (record task { schema = s; table = t }) mode None command db.trees)
      (slice_get s.tables at) (Ok (tally, after))) has h in
      let ran : OnRows task mode None command db.trees (Ok (tally, after)) = rw is at own in
      let done = went ran in
      let now = ap (λ (p : Tally × Database). p.1) (same_value (went (went done.2).2).2) in
      (ap (λ (d : Database). d.schema) now, done.0, done.1, ap (λ (d : Database). d.trees) now)

  -- no number is taken from a count, where the table has none
  pub counts : (next after : Trees) (counter : Option Row) (top : ℤ) → Counts task next counter top (Ok after) → after ≡ next
  counts next after counter top h = let plain = rw uncounted at h in same_value plain

  -- the row goes in where none has its key
  pub added : (idle : (gone : List Row) (news : List Row) → works schema mode.keys 0 table.tree gone news ≡ [])
      (target : List ℕ) (new : Row) (steady : cast_row table new ≡ new) (db : Trees) (w : Written)
      → ((r : Row) → Has (db table.tree) r → conflicts (Some target) schema.indexes table new r ≡ false)
      → Puts task new db (Ok w) → IsAlone schema table target new db w.trees
  added idle target new steady db w none h =
      let wrote = went h in
      let same : w ≡ _ = same_value wrote.2 in
      let edit = edit_of db table [] Given 0 (new ∷ []) in
      let a : Applies schema mode.keys db edit w.trees =
      rw same (one_step schema mode.keys db wrote.0 edit (idle (taken_by db edit) edit.news) wrote.1) in
      let b = subst (λ n. Applies schema mode.keys db (record { table = table; gone = []; news = n ∷ [] }) w.trees) steady a in
      record { added = record { none = none; fresh = freed _ _ b.fresh; rows = b.rows }; others = b.tables }

  module _ (terms : List Term) (width : ℕ) (source : Row)
      (reads : value_rows (stamped table params) width (length terms / width) terms ≡ source ∷ [])
      (clauses : List Upsert) (Is : Trees → Type 0) where
    abbrev new_in : Trees → Row
    new_in db = with_rowid Chosen (db table.tree) (cast_row table source)

    abbrev new_by : Trees → Rowids → Row
    new_by db rowids = with_rowid rowids (db table.tree) (cast_row table source)

    module _ (db : Trees) (tries : (w : Written) → Tries task Abort clauses (new_in db) db (Ok w) → Is w.trees) where
      -- the one row that VALUES gives
      each : (all : List Row) → all ≡ source ∷ [] → (top : ℤ) (out : Written × ℤ)
          → TriesEach task Abort clauses all top (nothing db) (Ok out) → Is out.0.trees
      each all is_one top out h =
          let first = went (subst (λ rows. TriesEach task Abort clauses rows top (nothing db) (Ok out)) is_one h) in
          let plain : rowids_for table top ≡ Chosen = rw uncounted refl in
          let ran = subst (λ r. Tries task Abort clauses (new_by db r) db (Ok first.0)) plain first.1 in
          let same = ap (λ (o : Written × ℤ). o.0.trees) (same_value first.2) in
          subst Is (sym same) (tries first.0 ran)

      inserts : (w : Written) → InsertsOr task Abort clauses (Values terms width) db (Ok w) → Is w.trees
      inserts w h =
          let rows = went h in
          let counter = went rows.2 in
          let tried = went counter.2 in
          let counted = went tried.2 in
          let same : w.trees ≡ tried.0.0.trees =
          ap (λ (it : Written). it.trees) (same_value counted.2)
          ∙ counts tried.0.0.trees counted.0 counter.0 tried.0.1 counted.1 in
          subst Is (sym same) (each rows.0 (rows.1.1 ∙ reads) _ tried.0 tried.1)

    pub puts_one : (text : List ℕ) (db : Database) (has : db.schema ≡ schema) (tally : Tally) (after : Database)
        → ((w : Written) → Tries task Abort clauses (new_in db.trees) db.trees (Ok w) → Is w.trees)
        → Does limit mode params db text None (InsertOr at Abort (Values terms width) clauses) (Ok (tally, after))
        → (after.schema ≡ schema) × Is after.trees
    puts_one text db has tally after tries h =
        let ran = wrote (InsertOr at Abort (Values terms width) clauses) db has tally after h in
        (ran.0, subst Is (sym ran.3) (inserts db.trees tries ran.1 ran.2))
