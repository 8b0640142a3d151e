-- What the statements that make tables do.
use Rattle.std.proofs.Common.{arith, ◌≡◌, ◌⊎◌, ◌<◌, ◌≤◌, ◌+◌, inl, inr, ℕ, zero, suc, false, get_or, length, map, refl}
use Rattle.std.proofs.Common.{take, List, [], ◌∷◌, ◌++◌, Ok, Err, Result, None, sym, ap, subst, ◌∙◌}
use Rattle.std.specs.Prelude.{OnOk}
use Rattle.std.proofs.lemmas.List.{append-nil, append_assoc, take_more}
use Rattle.std.specs.List.{AllByRecursion as Each}
use Rattle.sqlite.specs.Change.{next_tree, created, KeepsRows}
use Rattle.sqlite.specs.Command.TheVariants.{CreateTable}
use Rattle.sqlite.specs.Does.{Tally, lacks_sequence}
use Rattle.sqlite.specs.Effect.{Database}
use Rattle.sqlite.specs.State.{State, Executes, ExecutesInside, Writes}
use Rattle.sqlite.specs.declared.error.Error.{Error}
use Rattle.sqlite.proofs.Callers.{runs_as}
use Rattle.sqlite_schema.specs.declared.schema.Table.{Table}
use Rattle.sqlite_schema.specs.declared.schema.Schema.{Schema}
use Rattle.sqlite_trees.specs.Tree.{Trees}
use Rattle.sqlite_trees.specs.Objects.{catalog_tree}
use Rattle.sqlite_catalog.specs.Listing.{Lists}
use Rattle.keep.specs.Content.{newest}
use Rattle.sql_keep.specs.Description.{before, declared, schema_of, schema_with, tables_after, tables_of}
use Rattle.sql_keep.specs.Stages.{AddsTables}
use Rattle.sql_keep.specs.Statements.{MakesTable}
use Rattle.keep.specs.declared.table_row.TableName.{TableName}
use Rattle.keep.specs.declared.table_row.TableName.TheVariants as table
use Rattle.sql_keep.specs.Transactions.{Makes}

pub went : {B E R : Type 0} {b : B} {Stops : E → Type 0} → ((stop : E) × Stops stop × (Ok b ≡ Err stop)) ⊎ R → R
went (inl stopped) = absurd (let e = stopped.2 in cc)
went (inr on) = on

pub same_value : {B E : Type 0} {a b : B} → ◌≡◌ {A = Result B E} (Ok a) (Ok b) → a ≡ b
same_value e = cc

-- no table counts its rows
uncounted : (t : TableName) → lacks_sequence (schema_with (before t ++ t ∷ [])) ≡ false
uncounted t = grind arith

-- the trees are taken one after the other
next_is : (t : TableName) → next_tree (schema_with (before t)) ≡ (declared t).tree
next_is t = grind arith

-- a table is made beside the others
module _ (t : TableName) (text : List ℕ) (means : MakesTable t text) where
  abbrev prior : Schema
  prior = schema_with (before t)

  abbrev after : Schema
  after = schema_with (before t ++ t ∷ [])

  abbrev new_table : Table
  new_table = record (declared t) { tree = 0 }

  adds_table : (old new : State) (count : ℕ) → old.now.schema ≡ prior → Executes text [] old new (Ok count)
      → AddsTables (before t) (t ∷ []) old.now new.now
  adds_table old new count is h =
      let run = runs_as text [] old new prior is CreateTable means.command means.plain count h in
      let w = subst (λ t. Writes old new None CreateTable t [] count) means.whole run in
      let all = went w.changed in
      let first = went all.1 in
      let made = first.1 in
      let both : Ok made.table ≡ Ok new_table = sym made.defined ∙ means.defined in
      let same : made.table ≡ new_table = cc in
      let reads : first.0.schema ≡ after = made.is ∙ ap (λ s. created s made.table) is ∙ ap (created prior) same ∙ means.next in
      let steady : lacks_sequence first.0.schema ≡ false = ap lacks_sequence reads ∙ uncounted t in
      let now : new.now ≡ first.0 = ap (λ (p : Tally × Database). p.1) (same_value all.2) ∙ same_value (rw steady at first.2) in
      let schema : new.now.schema ≡ after = ap (λ (d : Database). d.schema) now ∙ reads in
      record {
        schema_is = schema;
        lists = inr (subst (Lists (new.now.trees catalog_tree)) schema w.sound.lists);
        others =
            subst (λ (d : Database). KeepsRows prior.tables old.now.trees d.trees) (sym now)
            (subst (λ s. KeepsRows s.tables old.now.trees first.0.trees) is made.others);
        empty = (
          ap (λ n. new.now.trees n) (sym (next_is t)) ∙ ap (λ (d : Database). d.trees (next_tree prior)) now
              ∙ subst (λ s. first.0.trees (next_tree s) ≡ []) is made.empty,
          tt,
        );
      }

  pub added_table : (old new : State) (r : Result ℕ Error) → ExecutesInside 0 text [] old new r
      → OnOk r (Makes (λ db. old.now.schema ≡ prior → AddsTables (before t) (t ∷ []) old.now db) old new)
  added_table old new (Err e) h = tt
  added_table old new (Ok count) h = record {
    mode = h.1.mode;
    committed = h.1.committed_is;
    is = λ is. adds_table old new count is h.0;
  }

-- ---- one more

keeps_itself : (tables : List Table) (trees : Trees) → KeepsRows tables trees trees
keeps_itself [] trees = tt
keeps_itself (t ∷ tables) trees = (refl, keeps_itself tables trees)

-- nothing is made
pub adds_none : (first : List TableName) (db : Database) → db.schema ≡ schema_with first → AddsTables first [] db db
adds_none first db is = record {
  schema_is = is ∙ ap schema_with (sym (append-nil first));
  lists = inl refl;
  others = keeps_itself (schema_with first).tables db.trees;
  empty = tt;
}

-- the first tables keep their rows through both
keep_on : (first more : List TableName) (a b c : Trees) → KeepsRows (map declared first) a b
    → KeepsRows (map declared (first ++ more)) b c → KeepsRows (map declared first) a c
keep_on [] more a b c one two = tt
keep_on (t ∷ first) more a b c one two = (two.0 ∙ one.0, keep_on first more a b c one.1 two.1)

-- those that had none have none
stay_empty : (first more : List TableName) (t : TableName) (b c : Trees) → Each (λ u. b (declared u).tree ≡ []) more
    → KeepsRows (map declared (first ++ more)) b c → c (declared t).tree ≡ []
    → Each (λ u. c (declared u).tree ≡ []) (more ++ t ∷ [])
stay_empty [] [] t b c none kept last = (last, tt)
stay_empty [] (u ∷ more) t b c none kept last = (kept.0 ∙ none.0, stay_empty [] more t b c none.1 kept.1 last)
stay_empty (f ∷ first) more t b c none kept last = stay_empty first more t b c none kept.1 last

pub adds_more : (first more : List TableName) (t : TableName) (a b c : Database) → AddsTables first more a b
    → AddsTables (first ++ more) (t ∷ []) b c → AddsTables first (more ++ t ∷ []) a c
adds_more first more t a b c one two =
    let joined : schema_with ((first ++ more) ++ t ∷ []) ≡ schema_with (first ++ (more ++ t ∷ [])) =
    ap schema_with (append_assoc first more (t ∷ [])) in
    record {
      schema_is = two.schema_is ∙ joined;
      lists = inr (subst (Lists (c.trees catalog_tree)) joined (listed two.lists));
      others = keep_on first more a.trees b.trees c.trees one.others two.others;
      empty = stay_empty first more t b.trees c.trees one.empty two.others two.empty.0;
    }
  where
    listed : (t ∷ [] ≡ []) ⊎ Lists (c.trees catalog_tree) (schema_with ((first ++ more) ++ t ∷ []))
        → Lists (c.trees catalog_tree) (schema_with ((first ++ more) ++ t ∷ []))
    listed (inl none) = absurd (let e = none in cc)
    listed (inr lists) = lists

-- ---- the versions' tables, in the order in which they are made

-- what is made before a table is what the version has, and what is made after that
prior_is : (v : ℕ) → v ≤ newest → (k : ℕ) → k < length (tables_after v)
    → before (get_or (tables_after v) k table.Desk) ≡ tables_of v ++ take k (tables_after v)
prior_is zero old zero few = refl
prior_is zero old (suc zero) few = refl
prior_is zero old (suc (suc zero)) few = refl
prior_is zero old (suc (suc (suc zero))) few = refl
prior_is zero old (suc (suc (suc (suc zero)))) few = refl
prior_is zero old (suc (suc (suc (suc (suc zero))))) few = refl
prior_is zero old (suc (suc (suc (suc (suc (suc zero)))))) few = refl
prior_is zero old (suc (suc (suc (suc (suc (suc (suc k))))))) few = absurd (omega arith)
prior_is (suc zero) old zero few = refl
prior_is (suc zero) old (suc k) few = absurd (omega arith)
prior_is (suc (suc zero)) old k few = absurd (omega arith)
prior_is (suc (suc (suc v))) old k few = absurd (omega arith)

-- one of the tables that later versions have brought is made, beside those before it
module _ (old mid new : State) (v k : ℕ) (late : v ≤ newest) where
  abbrev Made : List TableName → ℕ → Database → Type 0
  Made tables k db = old.now.schema ≡ schema_of v → AddsTables (tables_of v) (take k tables) old.now db

  abbrev Next : List TableName → Database → Type 0
  Next tables db =
      let t = get_or tables k table.Desk in
      mid.now.schema ≡ schema_with (before t) → AddsTables (before t) (t ∷ []) mid.now db

  pub makes_more : (tables : List TableName) → tables ≡ tables_after v → k < length tables
      → Makes (Made (tables_after v) k) old mid → Makes (Next tables) mid new
      → Makes (Made (tables_after v) (k + 1)) old new
  makes_more tables are few one two =
      let t = get_or (tables_after v) k table.Desk in
      let some : k < length (tables_after v) = subst (λ (tables : List TableName). k < length tables) are few in
      let prior = prior_is v late k some in
      let more : take (k + 1) (tables_after v) ≡ take k (tables_after v) ++ t ∷ [] =
      take_more (tables_after v) k table.Desk some in
      let step : Next (tables_after v) new.now = subst (λ (tables : List TableName). Next tables new.now) are two.is in
      record {
        mode = two.mode;
        committed = two.committed ∙ one.committed;
        is = λ has.
            let first = one.is has in
            let next =
            subst (λ first. AddsTables first (t ∷ []) mid.now new.now) prior
            (step (first.schema_is ∙ ap schema_with (sym prior))) in
            subst (λ tables. AddsTables (tables_of v) tables old.now new.now) (sym more)
            (adds_more (tables_of v) (take k (tables_after v)) t old.now mid.now new.now first next);
      }
