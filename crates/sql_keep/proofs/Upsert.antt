-- What a statement INSERT .. VALUES of one row ON CONFLICT (key) DO UPDATE does, for a table with no reference and no counter.
use Rattle.std.proofs.Common.{◌≡◌, inl, inr, ℕ, ℤ, pos, negsuc, List, [], ◌∷◌, ◌++◌, map, filter, flat_map, cond, Bool}
use Rattle.std.proofs.Common.{true, false, not, Some, None, Option, Ok, refl, sym, ap, subst, ◌∙◌, ◌/◌, length}
use Rattle.std.proofs.Common.{slice_get, ◌&&◌, IsTrue, IsPermutation, true≢false, arith, drop}
use Rattle.std.specs.List.{list_all}
use Rattle.std.specs.Ordering.{is_eq}
use Rattle.std.proofs.lemmas.Cmp.{tied_itself}
use Rattle.std.proofs.lemmas.List.Sorted.{IsPermutation-trans, IsPermutation-map, length_permutation, All-permutation}
use Rattle.std.proofs.lemmas.List.Elements.{recursion_from_All, All-from_recursion}
use Rattle.sqlite.specs.declared.types.Value.{Value}
use Rattle.sqlite.specs.declared.types.Value.TheVariants.{Null, Int}
use Rattle.sqlite.specs.Order.{Row, column, value_cmp}
use Rattle.sqlite_value.proofs.OrderLemmas.{value_cmp_total}
use Rattle.sqlite_value.specs.declared.keys.Collation.TheVariants.{Binary}
use Rattle.sqlite.specs.Query.{Query, inner, end, IsAnswer, Output, output}
use Rattle.sqlite.specs.Program.{overlay}
use Rattle.sqlite.specs.Term.{Term, lit, col, op2, eval_all, holds}
use Rattle.sqlite_sql.specs.Ops.{binary, is_true}
use Rattle.sqlite_sql.specs.declared.ops.BinaryOp.TheVariants.{Compare}
use Rattle.sqlite_sql.specs.declared.ops.CompareOp.TheVariants.{Eq}
use Rattle.sqlite_schema.specs.declared.schema.Table.{Table}
use Rattle.sqlite_schema.specs.declared.schema.Schema.{Schema}
use Rattle.sqlite_schema.specs.declared.schema.Kind.TheVariants.{Integer}
use Rattle.sqlite_schema.specs.declared.program.Program.{Program}
use Rattle.sqlite_schema.specs.declared.command.Source.TheVariants.{Values}
use Rattle.sqlite_schema.specs.declared.command.Command.TheVariants.{InsertOr}
use Rattle.sqlite_schema.specs.declared.command.Conflict.TheVariants.{Abort}
use Rattle.sqlite_schema.specs.declared.command.Upsert.{Upsert}
use Rattle.sqlite_rules.specs.declared.error.Rowids.TheVariants.{Chosen, Given}
use Rattle.sqlite_rules.specs.declared.error.Refusal.{Refusal}
use Rattle.sqlite_trees.specs.Tree.{Trees, put_row, rowid, has_rowid}
use Rattle.sqlite_trees.specs.View.{is_int}
use Rattle.sqlite_rules.specs.Lists.{Has}
use Rattle.sqlite_rules.specs.Cast.{cast, cast_row}
use Rattle.sqlite_rules.specs.Calls.{ids_of}
use Rattle.sqlite_rules.specs.Keys.{AreConflicts, conflicts}
use Rattle.sqlite_rules.specs.Edit.{edit_of, taken_by, with_rowid, numbered, without_all, are_fresh, id_in, Applies}
use Rattle.sqlite_rules.specs.Action.{works}
use Rattle.sqlite_rules.proofs.ListLemmas.{all_has, all_from, has_filtered, has_kept, some_from}
use Rattle.sqlite_rules.proofs.ProbeLemmas.{has_mapped}
use Rattle.sqlite_rules.proofs.TableLemmas.{int_is, has_put}
use Rattle.sqlite_keyed.proofs.ListLemmas.{IsPermutation-same, filter_same}
use Rattle.sqlite.specs.declared.run.Mode.{Mode}
use Rattle.sqlite.specs.Effect.{Database, Answers, value_rows}
use Rattle.sqlite.specs.Rows.{Written, Task, Meets, Judged, stamped, shown, Clears, Puts, Tries, Upserts, Updates}
use Rattle.sqlite.specs.Does.{Tally, Does}
use Rattle.sqlite.proofs.Callers.{one_step, one_permutation}
use Rattle.std.proofs.lemmas.List.{length-map}
use Rattle.sql_keep.specs.StoreContent.{HaveNumbers}
use Rattle.sql_keep.proofs.Values.{equal_int, cast_int, same_number}
use Rattle.sql_keep.proofs.NewTables.{same_value, went}
use Rattle.sql_keep.proofs.OneRow.{added, freed, puts_one}
use Rattle.sql_keep.proofs.UpsertTrees.{Upserted}

later_freed : (b c : Bool) → (not b && c) ≡ true → c ≡ true
later_freed true c h = absurd (true≢false (sym h))
later_freed false c h = h

and_true : (a : Bool) → (a && true) ≡ a
and_true true = refl
and_true false = refl

numbered_given : (rows news : List Row) → numbered Given rows news ≡ news
numbered_given rows [] = refl
numbered_given rows (n ∷ news) = ap (λ l. n ∷ l) (numbered_given (put_row n rows) news)

matched : (p : Row → Bool) (given : Row) (q : Query) (rows : List Row)
    → map (λ (o : Output). o.1) (map (output q) (flat_map (λ r. cond (p r) ((given ∷ r ∷ []) ∷ []) []) rows))
    ≡ map (λ r. eval_all q.project (given ∷ r ∷ [])) (filter p rows)
matched p given q [] = refl
matched p given q (r ∷ rows) =
    elim (p r) as (λ b. map (λ (o : Output). o.1)
    (map (output q)
    (cond b ((given ∷ r ∷ []) ∷ []) [] ++ flat_map (λ r. cond (p r) ((given ∷ r ∷ []) ∷ []) []) rows))
    ≡ map (λ r. eval_all q.project (given ∷ r ∷ [])) (cond b (r ∷ filter p rows) (filter p rows)))
    [ true ↦ ap (λ l. eval_all q.project (given ∷ r ∷ []) ∷ l) (matched p given q rows) | false ↦ matched p given q rows ]

one_element : {X : Type 0} (xs : List X) (x : X) → Has xs x → length xs ≡ 1 → xs ≡ x ∷ []
one_element [] x h len = absurd h
one_element (y ∷ []) x (inl e) len = ap (λ z. z ∷ []) (sym e)
one_element (y ∷ []) x (inr none) len = absurd none
one_element (y ∷ z ∷ more) x h len = absurd (omega arith)

none_there : {X : Type 0} (x : X) (xs : List X) → Has xs x → length xs ≡ 0 → ⊥
none_there x [] h len = absurd h
none_there x (y ∷ ys) h len = omega (arith, len)

false_unless : (b : Bool) → (b ≡ true → ⊥) → b ≡ false
false_unless true h = absurd (h refl)
false_unless false h = refl

has_permuted : {X : Type 0} (xs ys : List X) (x : X) → IsPermutation xs ys → Has ys x → Has xs x
has_permuted xs ys x same h =
    all_has (Has xs) ys x (recursion_from_All (Has xs) ys
    (All-permutation (Has xs) xs ys same (All-from_recursion (Has xs) xs (all_from (Has xs) xs (λ e k. k))))) h

module _ (limit : Option ℕ) (mode : Mode) (params : Row) (schema : Schema) (at : ℕ) (table : Table)
    (is : slice_get schema.tables at ≡ Some table)
    (uncounted : table.is_counted ≡ false)
    (idle : (gone : List Row) (news : List Row) → works schema mode.keys 0 table.tree gone news ≡ [])
    (low : (db : Trees) → overlay db [] table.tree ≡ db table.tree)
    (terms : List Term) (width : ℕ) (source : Row)
    (reads : value_rows (stamped table params) width (length terms / width) terms ≡ source ∷ [])
    (target : List ℕ) (place : ℕ) (placed : (v : Value) (more : Row) → column (params ++ v ∷ more) place ≡ v)
    (sets : List Term) where
  abbrev task : Task
  task = record { limit = limit; keys = mode.keys; schema = schema; table = table; params = params }

  abbrev pub new_in : Trees → Row
  new_in db = with_rowid Chosen (db table.tree) (cast_row table source)

  abbrev query : Query
  query = record {
    from = inner table.tree end;
    filter = op2 (Compare Eq Binary) (col 1 0) (col 0 place) ∷ [];
    group = None;
    project = col 1 0 ∷ col 1 0 ∷ sets;
    distinct = false;
    collations = [];
    order = [];
    limit = lit (Int (negsuc 0));
    offset = lit (Int (pos 0));
  }

  abbrev program : Program
  program = record { lets = []; body = query }

  abbrev pub clauses : List Upsert
  clauses = record { target = Some target; update = Some program } ∷ []

  -- what the SET list reads
  abbrev pub given : Row → Row → Row
  given new there = params ++ rowid there ∷ shown table new

  -- the row that it makes of a row
  abbrev pub set_row : Row → Row → Row → Row
  set_row new there r = eval_all (col 1 0 ∷ sets) (given new there ∷ r ∷ [])

  passes : (new there r : Row) (id : ℤ) → rowid there ≡ Int id
      → list_all (holds (given new there ∷ r ∷ [])) query.filter ≡ has_rowid id r
  passes new there r id known =
      and_true _
      ∙ ap (λ v. is_true (binary (Compare Eq Binary) (rowid r) v)) (placed (rowid there) (shown table new) ∙ known)
      ∙ equal_int (rowid r) id

  answered : (db : Trees) (new there : Row) (id : ℤ) → rowid there ≡ Int id → (rows : List Row)
      → Answers (record { schema = schema; trees = db }) program (given new there) rows
      → IsPermutation (map (λ r. rowid r ∷ set_row new there r) (filter (has_rowid id) (db table.tree))) rows
  answered db new there id known rows h =
      let a : IsAnswer query (overlay db []) (given new there) rows = h.answer Null in
      let test = λ (r : Row). list_all (holds (given new there ∷ r ∷ [])) query.filter in
      let staged : a.staged ≡ flat_map (λ r. cond (test r) ((given new there ∷ r ∷ []) ∷ []) []) (db table.tree) =
      a.grouped ∙ ap (flat_map (λ r. cond (test r) ((given new there ∷ r ∷ []) ∷ []) [])) (low db) in
      let kept : map (λ (o : Output). o.1) a.kept
      ≡ map (λ r. rowid r ∷ set_row new there r) (filter (has_rowid id) (db table.tree)) =
      ap (map (λ (o : Output). o.1)) (a.distinct ∙ ap (map (output query)) staged)
      ∙ matched test (given new there) query (db table.tree)
      ∙ ap (map (λ r. rowid r ∷ set_row new there r))
      (filter_same test (has_rowid id) (λ r. passes new there r id known) (db table.tree)) in
      IsPermutation-trans _ _ _ (IsPermutation-same _ _ (sym kept))
      (IsPermutation-trans _ _ _ (IsPermutation-map (λ (o : Output). o.1) _ _ a.same)
      (IsPermutation-same _ _ (sym a.shown)))

  -- a row that is updated keeps its rowid, so a second one of the same rowid would be refused
  module _ (new : Row) (db : Trees) (was : Row) (id : ℤ) (known : rowid was ≡ Int id)
      (keyed : HaveNumbers (db table.tree)) (there : Has (db table.tree) was) where
    abbrev before : List Row
    before = filter (has_rowid id) (db table.tree)

    abbrev made : Row → Row
    made r = rowid r ∷ set_row new (rowid was ∷ []) r

    found_there : Has before was
    found_there = has_kept (has_rowid id) (db table.tree) was there (rw known (ap is_eq (tied_itself value_cmp_total (Int id))))

    id_of : (rows : List Row) → IsPermutation (map made before) rows → (a : Row) → Has rows a
        → rowid (cast_row table (drop 1 a)) ≡ Int id
    id_of rows perm a h =
        let from = has_mapped made before a (has_permuted (map made before) rows a perm h) in
        let kept = has_filtered (has_rowid id) (db table.tree) from.0 from.1 in
        let int = int_is (rowid from.0) (all_has (λ s. IsTrue (is_int (rowid s))) (db table.tree) from.0 keyed kept.0) in
        let same : id_in (rowid from.0) ≡ id = same_number _ _ (subst (λ v. is_eq (value_cmp v (Int id)) ≡ true) int kept.1) in
        ap (λ (r : Row). cast Integer (column (drop 1 r) 0)) from.2 ∙ ap (cast Integer) (int ∙ ap Int same) ∙ cast_int id

    only : (rows : List Row) → IsPermutation (map made before) rows → (left : List Row)
        → are_fresh left (numbered Given left (map (λ s. cast_row table (drop 1 s)) rows)) ≡ true → length rows ≡ 1
    only [] perm left fresh =
        absurd (none_there was before found_there
        (sym (length-map before made) ∙ sym (length_permutation (map made before) [] perm)))
    only (a ∷ []) perm left fresh = refl
    only (a ∷ b ∷ more) perm left fresh =
        let free = freed _ _ (later_freed _ _ fresh) in
        let first = id_of (a ∷ b ∷ more) perm a (inl refl) in
        let second = id_of (a ∷ b ∷ more) perm b (inr (inl refl)) in
        let tied : is_eq (value_cmp (rowid (cast_row table (drop 1 a))) (rowid (cast_row table (drop 1 b)))) ≡ true =
        rw (first, second) (ap is_eq (tied_itself value_cmp_total (Int id))) in
        absurd (true≢false (sym (some_from (λ r. is_eq (value_cmp (rowid r) (rowid (cast_row table (drop 1 b)))))
        (put_row (cast_row table (drop 1 a)) left) (cast_row table (drop 1 a)) (has_put _ left) tied) ∙ free))

  resolves : (new : Row) (db : Trees) (w : Written) (keyed : HaveNumbers (db table.tree)) (cells was : Row)
      (there : Has (db table.tree) was) (has_key : conflicts (Some target) schema.indexes table new was ≡ true)
      → cast_row table (set_row new (rowid was ∷ []) was) ≡ rowid was ∷ cells
      → Updates task program (given new (rowid was ∷ [])) db (Ok w) → Upserted schema table target new db w.trees cells
  resolves new db w keyed cells was there has_key remakes h =
      let queried = went h in
      let rows = queried.0 in
      let wrote = went queried.2 in
      let edit = edit_of db table (ids_of rows) Given 1 rows in
      let same : w.trees ≡ wrote.0 = ap (λ (it : Written). it.trees) (same_value wrote.2) in
      let a : Applies schema mode.keys db edit w.trees =
      subst (Applies schema mode.keys db edit) (sym same)
      (one_step schema mode.keys db wrote.0 edit (idle (taken_by db edit) edit.news) wrote.1) in
      let id = id_in (rowid was) in
      let known = int_is (rowid was) (all_has (λ s. IsTrue (is_int (rowid s))) (db table.tree) was keyed there) in
      let perm = answered db new (rowid was ∷ []) id known rows queried.1 in
      let once = only new db was id known keyed there rows perm (without_all (db table.tree) (ids_of rows)) a.fresh in
      let alone : filter (has_rowid id) (db table.tree) ≡ was ∷ [] =
      one_element _ was (found_there new db was id known keyed there)
      (sym (length-map _ _) ∙ sym (length_permutation _ rows perm) ∙ once) in
      let exact : rows ≡ (rowid was ∷ set_row new (rowid was ∷ []) was) ∷ [] =
      one_permutation _ rows
      (subst (λ l. IsPermutation (map (λ r. rowid r ∷ set_row new (rowid was ∷ []) r) l) rows) alone perm) in
      let b = subst (λ l. Applies schema mode.keys db (edit_of db table (ids_of l) Given 1 l) w.trees) exact a in
      let c =
      subst (λ n. Applies schema mode.keys db (record { table = table; gone = id ∷ []; news = n ∷ [] }) w.trees)
      remakes b in
      record {
        made =
            inr (record {
              was = was;
              there = there;
              has_key = has_key;
              alone = alone;
              fresh = freed _ _ c.fresh;
              rows = c.rows;
            });
        others = c.tables;
      }

  -- what the SET list has to make of the row that has the key
  abbrev pub Remakes : Trees → Row → Row → Type 0
  Remakes db new cells =
      (was : Row) → Has (db table.tree) was → conflicts (Some target) schema.indexes table new was ≡ true
      → cast_row table (set_row new (rowid was ∷ []) was) ≡ rowid was ∷ cells

  module _ (db : Trees) (keyed : HaveNumbers (db table.tree)) (cells : Row) where
    puts : (new : Row) (steady : cast_row table new ≡ new) (w : Written)
        → ((r : Row) → Has (db table.tree) r → conflicts (Some target) schema.indexes table new r ≡ false)
        → Puts task new db (Ok w) → Upserted schema table target new db w.trees cells
    puts new steady w none h =
        let made = added limit mode params schema at table is uncounted idle target new steady db w none h in
        record { made = inl made.added; others = made.others }

    clears : (new : Row) (steady : cast_row table new ≡ new) (w : Written)
        → ((r : Row) → Has (db table.tree) r → conflicts (Some target) schema.indexes table new r ≡ false)
        → (found : List Row) → Clears task Abort new db found (Ok w) → Upserted schema table target new db w.trees cells
    clears new steady w none [] h = puts new steady w none h
    clears new steady w none (x ∷ more) h = puts new steady w none h

    tries : (new : Row) (steady : cast_row table new ≡ new) (remakes : Remakes db new cells) (w : Written)
        → Tries task Abort clauses new db (Ok w) → Upserted schema table target new db w.trees cells
    tries new steady remakes w (inl refused) = absurd (let e = refused.1 in cc)
    tries new steady remakes w (inr it) = judged it.0 it.2
      where
        meets : (found : List Row) → AreConflicts (Some target) schema.indexes table (db table.tree) new found
            → Meets task (Upserts task Abort new db []) new db (record { target = Some target; update = Some program })
            found (Ok w) → Upserted schema table target new db w.trees cells
        meets [] are h = clears new steady w (λ r r_in. false_unless _ (λ e. are.complete r r_in e)) h.0 h.2
        meets (x ∷ more) are h =
            let s = are.sound x (inl refl) in
            resolves new db w keyed cells s.0 s.1 s.2 (remakes s.0 s.1 s.2)
            (subst (λ t. Updates task program (given new t) db (Ok w)) s.3 h)

        judged : (verdict : Option Refusal) → Judged task Abort clauses new db verdict (Ok w)
            → Upserted schema table target new db w.trees cells
        judged None h = meets h.0 h.1 h.2
        judged (Some why) h = absurd (let e = h in cc)

  pub upserts : (text : List ℕ) (db : Database) (has : db.schema ≡ schema) (tally : Tally) (after : Database)
      (keyed : HaveNumbers (db.trees table.tree)) (cells : Row)
      → cast_row table (new_in db.trees) ≡ new_in db.trees → Remakes db.trees (new_in db.trees) cells
      → Does limit mode params db text None (InsertOr at Abort (Values terms width) clauses) (Ok (tally, after))
      → (after.schema ≡ schema) × Upserted schema table target (new_in db.trees) db.trees after.trees cells
  upserts text db has tally after keyed cells steady remakes h =
      puts_one limit mode params schema at table is uncounted terms width source reads clauses
      (λ next. Upserted schema table target (new_in db.trees) db.trees next cells) text db has tally after
      (tries db.trees keyed cells (new_in db.trees) steady remakes) h
