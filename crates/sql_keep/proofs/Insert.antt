-- What a statement INSERT .. VALUES of one row ON CONFLICT (key) DO NOTHING does, for a table with no reference and no counter.
use Rattle.std.proofs.Common.{◌≡◌, ◌≢◌, inl, inr, ℕ, List, [], ◌∷◌, ◌/◌, Bool, true, false, Some, None, Option, Ok, ap}
use Rattle.std.proofs.Common.{length, refl, slice_get}
use Rattle.std.specs.List.{AllByRecursion}
use Rattle.sqlite.specs.Order.{Row}
use Rattle.sqlite.specs.Term.{Term}
use Rattle.sqlite_schema.specs.declared.schema.Table.{Table}
use Rattle.sqlite_schema.specs.declared.schema.Schema.{Schema}
use Rattle.sqlite_schema.specs.declared.command.Source.TheVariants.{Values}
use Rattle.sqlite_schema.specs.declared.command.Command.TheVariants.{InsertOr}
use Rattle.sqlite_schema.specs.declared.command.Conflict.TheVariants.{Abort}
use Rattle.sqlite_schema.specs.declared.command.Upsert.{Upsert}
use Rattle.sqlite_rules.specs.declared.error.Refusal.{Refusal}
use Rattle.sqlite_rules.specs.declared.error.Rowids.TheVariants.{Chosen}
use Rattle.sqlite_trees.specs.Tree.{Trees}
use Rattle.sqlite_rules.specs.Lists.{Has}
use Rattle.sqlite_rules.specs.Cast.{cast_row}
use Rattle.sqlite_rules.specs.Keys.{AreConflicts, conflicts}
use Rattle.sqlite_rules.specs.Edit.{with_rowid}
use Rattle.sqlite_rules.specs.Action.{works}
use Rattle.sqlite.specs.declared.run.Mode.{Mode}
use Rattle.sqlite.specs.Effect.{Database, value_rows}
use Rattle.sqlite.specs.Rows.{Written, Task, Meets, Judged, stamped, Clears, Puts, Tries, Upserts}
use Rattle.sqlite.specs.Does.{Tally, Does}
use Rattle.sql_keep.proofs.NewTables.{same_value}
use Rattle.sql_keep.proofs.OneRow.{added, puts_one}
use Rattle.sql_keep.proofs.UpsertTrees.{Inserted}

false_unless : (b : Bool) → (b ≡ true → ⊥) → b ≡ false
false_unless true h = absurd (h refl)
false_unless false h = refl

as_they_were : (tables : List Table) (n : ℕ) (old next : Trees) → next ≡ old
    → AllByRecursion (λ t. t.tree ≢ n → next t.tree ≡ old t.tree) tables
as_they_were [] n old next same = tt
as_they_were (t ∷ tables) n old next same = (λ _. ap (λ (db : Trees). db t.tree) same, as_they_were tables n old next same)

module _ (limit : Option ℕ) (mode : Mode) (params : Row) (schema : Schema) (at : ℕ) (table : Table)
    (is : slice_get schema.tables at ≡ Some table)
    (uncounted : table.is_counted ≡ false)
    (idle : (gone : List Row) (news : List Row) → works schema mode.keys 0 table.tree gone news ≡ [])
    (terms : List Term) (width : ℕ) (source : Row)
    (reads : value_rows (stamped table params) width (length terms / width) terms ≡ source ∷ []) (target : List ℕ) where
  abbrev task : Task
  task = record { limit = limit; keys = mode.keys; schema = schema; table = table; params = params }

  abbrev new_in : Trees → Row
  new_in db = with_rowid Chosen (db table.tree) (cast_row table source)

  abbrev clause : Upsert
  clause = record { target = Some target; update = None }

  module _ (db : Trees) (new : Row) (steady : cast_row table new ≡ new) (w : Written) where
    abbrev Is : Type 0
    Is = Inserted schema table target new db w.trees

    puts : ((r : Row) → Has (db table.tree) r → conflicts (Some target) schema.indexes table new r ≡ false)
        → Puts task new db (Ok w) → Is
    puts none h =
        let made = added limit mode params schema at table is uncounted idle target new steady db w none h in
        record { made = inl made.added; others = made.others }

    clears : ((r : Row) → Has (db table.tree) r → conflicts (Some target) schema.indexes table new r ≡ false)
        → (found : List Row) → Clears task Abort new db found (Ok w) → Is
    clears none [] h = puts none h
    clears none (x ∷ more) h = puts none h

    meets : (found : List Row) → AreConflicts (Some target) schema.indexes table (db table.tree) new found
        → Meets task (Upserts task Abort new db []) new db clause found (Ok w) → Is
    meets [] are h = clears (λ r r_in. false_unless _ (λ e. are.complete r r_in e)) h.0 h.2
    meets (x ∷ more) are h =
        let s = are.sound x (inl refl) in
        let same : w.trees ≡ db = ap (λ (it : Written). it.trees) (same_value h) in
        record {
          made = inr (record { was = s.0; there = s.1; has_key = s.2; rows = ap (λ (t : Trees). t table.tree) same });
          others = as_they_were schema.tables table.tree db w.trees same;
        }

    judged : (verdict : Option Refusal) → Judged task Abort (clause ∷ []) new db verdict (Ok w) → Is
    judged None h = meets h.0 h.1 h.2
    judged (Some why) h = absurd (let e = h in cc)

    tries : Tries task Abort (clause ∷ []) new db (Ok w) → Is
    tries (inl refused) = absurd (let e = refused.1 in cc)
    tries (inr it) = judged it.0 it.2

  pub inserts : (text : List ℕ) (db : Database) (has : db.schema ≡ schema) (tally : Tally) (after : Database)
      → cast_row table (new_in db.trees) ≡ new_in db.trees
      → Does limit mode params db text None (InsertOr at Abort (Values terms width) (clause ∷ [])) (Ok (tally, after))
      → (after.schema ≡ schema) × Inserted schema table target (new_in db.trees) db.trees after.trees
  inserts text db has tally after steady h =
      puts_one limit mode params schema at table is uncounted terms width source reads (clause ∷ [])
      (λ next. Inserted schema table target (new_in db.trees) db.trees next) text db has tally after
      (tries db.trees (new_in db.trees) steady) h
