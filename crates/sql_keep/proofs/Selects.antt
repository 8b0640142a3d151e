-- What the selects answer: each stored row once, and nothing is changed.
use Rattle.std.proofs.Common.{arith, ◌≡◌, ◌∙◌, List, [], ◌∷◌, ℕ, Ok, Err, Result, refl, sym, ap, ap₂, ◌≤◌, subst, map}
use Rattle.std.proofs.Common.{IsPermutation}
use Rattle.std.specs.Prelude.{Vec, OnOk, IfOk, flat_map}
use Rattle.std.specs.declared.alloc.Global.{Global}
use Rattle.std.proofs.lemmas.List.Sorted.{IsPermutation-map, IsPermutation-trans}
use Rattle.sqlite_keyed.proofs.ListLemmas.{IsPermutation-same}
use Rattle.sqlite.specs.declared.types.Value.TheVariants.{Null}
use Rattle.sqlite.specs.declared.error.Error.{Error}
use Rattle.sqlite.specs.declared.rows.Row.{Row as Answer}
use Rattle.sqlite.specs.Order.{Row}
use Rattle.sqlite.specs.State.{State, CommitsShowing, Shown, IsUnchanged, Survives}
use Rattle.sqlite.specs.Listing.{understood}
use Rattle.sqlite.specs.Term.{eval_all}
use Rattle.sqlite.specs.Query.{Query, IsAnswer, output, Output}
use Rattle.sqlite.specs.Program.{overlay}
use Rattle.sqlite.proofs.Callers.{reads_as, never_commits, IsPlain}
use Rattle.sqlite.proofs.StateLemmas.{survives_weaker}
use Rattle.sqlite_trees.specs.Tree.{Trees}
use Rattle.sqlite.specs.Schema.{Schema}
use Rattle.keep.specs.Content.{newest}
use Rattle.sql_keep.specs.Description.{IsSchemaWith, declared, schema_of, selected, since}
use Rattle.sql_keep.specs.Statements.{ListsTable, listing, project}
use Rattle.keep.specs.declared.table_row.TableName.{TableName}

shown_each : (query : Query) (rows : List Row)
    → map (λ (p : Output). p.1) (map (output query) (flat_map (λ r. ([] ∷ r ∷ []) ∷ []) rows))
    ≡ map (λ r. eval_all query.project ([] ∷ r ∷ [])) rows
shown_each query [] = refl
shown_each query (r ∷ rows) = ap (λ l. eval_all query.project ([] ∷ r ∷ []) ∷ l) (shown_each query rows)

-- what the query shows of a stored row
project_is : (t : TableName) (r : Row) → eval_all (project (declared t)) ([] ∷ r ∷ []) ≡ selected t r
project_is t r = grind arith

-- a table lies in its own tree
own : (t : TableName) (trees : Trees) → overlay trees [] (declared t).tree ≡ trees (declared t).tree
own t trees = grind arith

map_is : {X Y : Type 0} (f g : X → Y) → ((x : X) → f x ≡ g x) → (xs : List X) → map f xs ≡ map g xs
map_is f g same [] = refl
map_is f g same (x ∷ xs) = ap₂ ◌∷◌ (same x) (map_is f g same xs)

-- over the schema the text shows each row of the table once, and changes nothing
module _ (t : TableName) (schema : Schema) (text : List ℕ) (lists : ListsTable schema t text) where
  abbrev query : Query
  query = listing (declared t)

  abbrev tree : Trees → List Row
  tree trees = trees (declared t).tree

  selects : (old new : State) (rows : List Row) → old.now.schema ≡ schema → Shown text [] old new rows
      → IsPermutation (map (selected t) (tree old.now.trees)) rows
  selects old new rows has h =
      let got = reads_as text [] old new schema has _ lists.command lists.plain lists.aside rows h in
      let a : IsAnswer query (overlay old.now.trees []) [] rows = got.answer Null in
      let staged : a.staged ≡ flat_map (λ r. ([] ∷ r ∷ []) ∷ []) (tree old.now.trees) =
      a.grouped ∙ ap (λ rows. flat_map (λ (r : Row). ([] ∷ r ∷ []) ∷ []) rows) (own t old.now.trees) in
      let kept : map (λ (p : Output). p.1) a.kept ≡ map (selected t) (tree old.now.trees) =
      ap (map (λ (p : Output). p.1)) (a.distinct ∙ ap (map (output query)) staged)
      ∙ shown_each query (tree old.now.trees) ∙ map_is _ _ (project_is t) (tree old.now.trees) in
      IsPermutation-trans _ _ _ (IsPermutation-same _ _ (sym kept))
      (IsPermutation-trans _ _ _ (IsPermutation-map (λ (p : Output). p.1) _ _ a.same)
      (IsPermutation-same _ _ (sym a.shown)))

  shown_same : (old new : State) (rows : List Row) → old.now.schema ≡ schema → Shown text [] old new rows → IsUnchanged old new
  unfolding Shown
  shown_same old new rows has h =
      let known = sym h.1.is ∙ ap (λ s. understood s text) has in
      let bare = subst IsPlain (sym known) lists.plain in
      (rw bare.0 at h.2).3

  pub rows_if : (old new : State) (r : Result (Vec Answer Global) Error) → old.now.schema ≡ schema
      → IfOk r (λ rows. Shown text [] old new rows.items)
      → IfOk r (λ rows. IsPermutation (map (selected t) (tree old.now.trees)) rows.items)
  rows_if old new (Ok rows) has h = selects old new rows.items has h
  rows_if old new (Err e) has h = tt

  pub same_if : (old new : State) (r : Result (Vec Answer Global) Error) → old.now.schema ≡ schema
      → IfOk r (λ rows. Shown text [] old new rows.items) → OnOk r (IsUnchanged old new)
  same_if old new (Ok rows) has h = shown_same old new rows.items has h
  same_if old new (Err e) has h = tt

  pub plain_if : (here : Schema) → here ≡ schema → IsPlain (understood here text)
  plain_if here has = subst (λ s. IsPlain (understood s text)) (sym has) lists.plain

  pub survives_if : (old new : State) → Survives old new (CommitsShowing text [] old)
      → Survives old new (λ _. ¬ (old.now.schema ≡ schema))
  survives_if old new =
      survives_weaker old new _ _
      (λ _ db commits has. never_commits text [] old db (plain_if old.now.schema has) commits)

-- of each version that has the table
module _ (t : TableName) (text : List ℕ) (lists : (v : ℕ) → since t ≤ v → v ≤ newest → ListsTable (schema_of v) t text) where
  pub plain : (here : Schema) → IsSchemaWith t here → IsPlain (understood here text)
  plain here is = plain_if t (schema_of is.0) text (lists is.0 is.1 is.2) here is.3

  pub rows : (before after : State) (r : Result (Vec Answer Global) Error) → IsSchemaWith t before.now.schema
      → IfOk r (λ rows. Shown text [] before after rows.items)
      → IfOk r (λ rows. IsPermutation (map (selected t) (before.now.trees (declared t).tree)) rows.items)
  rows before after r is h = rows_if t (schema_of is.0) text (lists is.0 is.1 is.2) before after r is.3 h

  pub same : (before after : State) (r : Result (Vec Answer Global) Error) → IsSchemaWith t before.now.schema
      → IfOk r (λ rows. Shown text [] before after rows.items) → OnOk r (IsUnchanged before after)
  same before after r is h = same_if t (schema_of is.0) text (lists is.0 is.1 is.2) before after r is.3 h

  pub survives : (before after : State) → IsSchemaWith t before.now.schema
      → Survives before after (CommitsShowing text [] before) → Survives before after (λ _. ⊥)
  survives before after is =
      survives_weaker before after _ _
      (λ _ db commits. never_commits text [] before db (plain before.now.schema is) commits)
