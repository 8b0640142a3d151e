-- What the upserts do: the table of the row has it by its key, and the other tables have their rows.
use Rattle.std.proofs.Common.{arith, ◌≡◌, ◌∙◌, ◌/◌, ◌+◌, inl, inr, ℕ, ℤ, suc, zero, Bool, true, false, ◌&&◌, ◌||◌, List}
use Rattle.std.proofs.Common.{[], ◌∷◌, ◌++◌, Some, None, Ok, Option, drop, length, map, refl, sym, ap, ap₂, subst}
use Rattle.std.proofs.Common.{is_eq, take, IsTrue, Ordering, Equal, Greater, Less}
use Rattle.std.specs.List.{AllByRecursion}
use Rattle.std.specs.Prelude.{◌≢◌, slice_get}
use Rattle.std.proofs.lemmas.Cmp.{int_ranked, tied_itself}
use Rattle.std.proofs.lemmas.List.Sorted.{IsPermutation-sym}
use Rattle.std.specs.Cmp.{IsTotalOrder}
use Rattle.std.specs.List.Sorted.{IsStrictlySortedBy}
use Rattle.std.specs.Ordering.{ordering_reverse}
use Rattle.sqlite.specs.declared.types.Value.{Value}
use Rattle.sqlite.specs.declared.types.Value.TheVariants.{Null, Int, Text}
use Rattle.sqlite.specs.Effect.{Database, value_rows}
use Rattle.sqlite.specs.Order.{Row, column, value_cmp}
use Rattle.sqlite.specs.Program.{overlay}
use Rattle.sqlite.specs.Rows.{stamped, shown as shown_new}
use Rattle.sqlite.specs.State.{State, mode_of, Executes}
use Rattle.sqlite.specs.Listing.{understood}
use Rattle.sqlite.specs.Term.{Term, col, eval_all}
use Rattle.sqlite.specs.Command.TheVariants.{InsertOr}
use Rattle.sqlite.specs.Source.TheVariants.{Values}
use Rattle.sqlite.specs.declared.run.Mode.{Mode}
use Rattle.sqlite.specs.Does.{Does}
use Rattle.sqlite_schema.specs.declared.command.Conflict.TheVariants.{Abort}
use Rattle.sqlite.specs.Kind.TheVariants.{Integer}
use Rattle.sqlite.proofs.Callers.{statement_of, runs_as}
use Rattle.sqlite_rules.specs.declared.error.Rowids.TheVariants.{Chosen}
use Rattle.sqlite_rules.specs.Action.{works}
use Rattle.sqlite_rules.specs.Cast.{cast, cast_row}
use Rattle.sqlite_rules.specs.Lists.{Has}
use Rattle.sqlite_rules.specs.Keys.{conflicts}
use Rattle.sqlite_rules.specs.Edit.{id_in, with_rowid}
use Rattle.sqlite_rules.proofs.ListLemmas.{all_has}
use Rattle.sqlite_rules.proofs.ProbeLemmas.{has_mapped, mapped_has}
use Rattle.sqlite_rules.proofs.TableLemmas.{int_is}
use Rattle.sqlite_trees.specs.Tree.{Trees, rowid}
use Rattle.sqlite_trees.specs.View.{is_int}
use Rattle.sqlite_trees.specs.Objects.{catalog_tree}
use Rattle.sqlite_catalog.specs.Listing.{Lists}
use Rattle.sqlite_value.proofs.OrderLemmas.{value_cmp-Int, value_cmp-Text}
use Rattle.sqlite_value.proofs.KeyLemmas.{first_key-plain}
use Rattle.sqlite_value.specs.Keys.{first_key}
use Rattle.sqlite_schema.specs.Rules.{equal}
use Rattle.ledger.specs.Changes.{put_row}
use Rattle.sql_keep.specs.StoreContent.{Stores}
use Rattle.keep.specs.TableRows.{Cells, key_cmp}
use Rattle.sql_keep.specs.Description.{before, columns, declared, desk_schema, stored}
use Rattle.keep.proofs.KeyOrders.{key_cmp_total}
use Rattle.sql_keep.specs.Description.{from_columns}
use Rattle.sql_keep.specs.Laws.{there_and_back}
use Rattle.sql_keep.specs.Schema.{plain_order}
use Rattle.sql_keep.specs.Statements.{PutsRow, new_terms, set_terms, updated, upsert}
use Rattle.keep.specs.declared.table_row.TableName.{TableName}
use Rattle.keep.specs.declared.table_row.TableName.TheVariants as table
use Rattle.sql_keep.proofs.Values.{cast_int, cast_null, equal_int, equal_text, is_equal, same_text, both_equal, both_are}
use Rattle.sql_keep.proofs.UpsertTrees.{Inserted, Upserted}
use Rattle.sql_keep.proofs.Insert.{inserts}
use Rattle.sql_keep.proofs.Upsert.{upserts}
use Rattle.sql_keep.proofs.UpsertRows.{has_permuted, rows_kept, shown_key}

-- ---- a row as it goes in

abbrev pub terms : TableName → List Term
terms t = new_terms (declared t).key (length (declared t).columns)

abbrev pub width : TableName → ℕ
width t = length (declared t).columns + 1

abbrev without_key : Option ℕ → Row → Row
without_key None c = c
without_key (Some key) c = Null ∷ drop 1 c

abbrev first : Option ℕ → Row → Value
first None c = Null
first (Some key) c = column c 0

-- its columns behind the rowid, as the table stores them
abbrev pub kept : (t : TableName) → Cells t → Row
kept t x = without_key (declared t).key (columns t x)

-- as VALUES gives it, its rowid first, which is Null where SQLite chooses it
abbrev pub source : (t : TableName) → Cells t → Row
source t x = first (declared t).key (columns t x) ∷ kept t x

abbrev pub fresh : (t : TableName) → List Row → Cells t → Row
fresh t rows x = with_rowid Chosen rows (source t x)

-- STRICT changes no value of a row
steady : (t : TableName) (v : Value) (x : Cells t) → cast Integer v ≡ v → cast_row (declared t) (v ∷ kept t x) ≡ v ∷ kept t x
steady table.Desk v x h = rw (h, cast_null, cast_int x.version, cast_int x.clock, cast_int x.places) refl
steady table.Field v x h =
    rw (h, cast_int x.lo, cast_int x.hi, cast_int x.start, cast_int x.value, cast_int x.inf, cast_int x.sup) refl
steady table.Move v x h = rw (h, cast_null, cast_int x.qty) refl
steady table.Orders v x h = rw (h, cast_null, cast_int x.kind, cast_int x.until, cast_int x.state) refl
steady table.Line v x h = rw (h, cast_int x.number, cast_int x.nr, cast_int x.way, cast_int x.held, cast_int x.used) refl
steady table.Kept v x h = rw (h, cast_int x.place) refl
steady table.Firm v x h = rw (h, cast_null) refl

steady_first : (t : TableName) (x : Cells t)
    → cast Integer (first (declared t).key (columns t x)) ≡ first (declared t).key (columns t x)
steady_first table.Desk x = cast_int x.one
steady_first table.Field x = cast_null
steady_first table.Move x = cast_int x.place
steady_first table.Orders x = cast_int x.number
steady_first table.Line x = cast_null
steady_first table.Kept x = cast_null
steady_first table.Firm x = cast_int x.number

pub cast_source : (t : TableName) (x : Cells t) → cast_row (declared t) (source t x) ≡ source t x
cast_source t x = steady t _ x (steady_first t x)

-- the rowid that it gets is a whole number
fresh_is : (t : TableName) (rows : List Row) (x : Cells t) → (n : ℤ) × (fresh t rows x ≡ Int n ∷ kept t x)
fresh_is table.Desk rows x = (_, refl)
fresh_is table.Field rows x = (_, refl)
fresh_is table.Move rows x = (_, refl)
fresh_is table.Orders rows x = (_, refl)
fresh_is table.Line rows x = (_, refl)
fresh_is table.Kept rows x = (_, refl)
fresh_is table.Firm rows x = (_, refl)

pub steady_fresh : (t : TableName) (rows : List Row) (x : Cells t) → cast_row (declared t) (fresh t rows x) ≡ fresh t rows x
steady_fresh t rows x =
    let is = fresh_is t rows x in
    subst (λ r. cast_row (declared t) r ≡ r) (sym is.1) (steady t (Int is.0) x (cast_int is.0))

pub fresh_number : (t : TableName) (rows : List Row) (x : Cells t) → IsTrue (is_int (rowid (fresh t rows x)))
fresh_number t rows x = grind arith

-- it shows the columns of the row
pub shown_fresh : (t : TableName) (rows : List Row) (x : Cells t) → stored t (fresh t rows x) ≡ columns t x
shown_fresh t rows x = grind arith

-- ---- rows with its key

-- the first columns, as many as the key has, are these
abbrev same_first : ℕ → Row → Row → Bool
same_first (suc zero) c d = is_eq (value_cmp (column c 0) (column d 0))
same_first count c d = is_eq (value_cmp (column c 0) (column d 0)) && is_eq (value_cmp (column c 1) (column d 1))

abbrev pub same : (t : TableName) → Cells t → Row → Bool
same t x c = same_first (length (declared t).primary) c (columns t x)

pub tells : (t : TableName) (x y : Cells t) → same t x (columns t y) ≡ is_eq (key_cmp t y x)
tells table.Desk x y = ap is_eq (value_cmp-Int y.one x.one)
tells table.Field x y =
    ap₂ (λ a b. is_eq a && is_eq b) (value_cmp-Text y.branch x.branch) (value_cmp-Text y.article x.article)
    ∙ sym (both_are _ _)
tells table.Move x y = ap is_eq (value_cmp-Int y.place x.place)
tells table.Orders x y = ap is_eq (value_cmp-Int y.number x.number)
tells table.Line x y =
    ap₂ (λ a b. is_eq a && is_eq b) (value_cmp-Int y.number x.number) (value_cmp-Int y.nr x.nr) ∙ sym (both_are _ _)
tells table.Kept x y = ap is_eq (value_cmp-Text y.reqkey x.reqkey)
tells table.Firm x y = ap is_eq (value_cmp-Int y.number x.number)

bare : (a : Bool) → (a && true) ≡ a
bare true = refl
bare false = refl

or_none : (a : Bool) → (a || false) ≡ a
or_none true = refl
or_none false = refl

one_column : (v w : Value) → equal (first_key plain_order).collation v w ≡ is_eq (value_cmp v w)
    → (equal (first_key plain_order).collation v w && true) ≡ is_eq (value_cmp v w)
one_column v w h = bare _ ∙ h

two_columns : (v w y z : Value) → equal (first_key plain_order).collation v w ≡ is_eq (value_cmp v w)
    → equal (first_key plain_order).collation y z ≡ is_eq (value_cmp y z)
    → (equal (first_key plain_order).collation v w && (equal (first_key plain_order).collation y z && true))
    ≡ (is_eq (value_cmp v w) && is_eq (value_cmp y z))
two_columns v w y z h k = ap (λ b. equal (first_key plain_order).collation v w && b) (bare _) ∙ (λ i. h i && k i)

by_int : (v : Value) (n : ℤ) → equal (first_key plain_order).collation v (Int n) ≡ is_eq (value_cmp v (Int n))
by_int v n = ap (λ k. equal k.collation v (Int n)) first_key-plain ∙ equal_int v n

by_text : (v : Value) (text : List ℕ) → equal (first_key plain_order).collation v (Text text) ≡ is_eq (value_cmp v (Text text))
by_text v text = ap (λ k. equal k.collation v (Text text)) first_key-plain ∙ equal_text v text

-- the rows that are in its way are those with its key
pub meant : (t : TableName) (rows : List Row) (x : Cells t) (r : Row)
    → conflicts (Some (declared t).primary) desk_schema.indexes (declared t) (fresh t rows x) r ≡ same t x (stored t r)
meant table.Desk rows x r = or_none _ ∙ one_column (column r 0) (Int x.one) (by_int (column r 0) x.one)
meant table.Field rows x r =
    or_none _
    ∙ two_columns (column r 1) (Text x.branch) (column r 2) (Text x.article) (by_text (column r 1) x.branch)
    (by_text (column r 2) x.article)
meant table.Move rows x r = or_none _ ∙ one_column (column r 0) (Int x.place) (by_int (column r 0) x.place)
meant table.Orders rows x r = or_none _ ∙ one_column (column r 0) (Int x.number) (by_int (column r 0) x.number)
meant table.Line rows x r =
    or_none _
    ∙ two_columns (column r 1) (Int x.number) (column r 2) (Int x.nr) (by_int (column r 1) x.number)
    (by_int (column r 2) x.nr)
meant table.Kept rows x r = or_none _ ∙ one_column (column r 1) (Text x.reqkey) (by_text (column r 1) x.reqkey)
meant table.Firm rows x r = or_none _ ∙ one_column (column r 0) (Int x.number) (by_int (column r 0) x.number)

-- where the keys are equal, so are their columns
key_columns : (t : TableName) (x y : Cells t) → key_cmp t y x ≡ Equal
    → take (length (declared t).primary) (columns t y) ≡ take (length (declared t).primary) (columns t x)
key_columns table.Desk x y e = ap (λ n. Int n ∷ []) (int_ranked y.one x.one Equal (sym e))
key_columns table.Field x y e =
    let both = both_equal _ _ e in
    ap₂ (λ a b. Text a ∷ Text b ∷ []) (same_text y.branch x.branch both.0) (same_text y.article x.article both.1)
key_columns table.Move x y e = ap (λ n. Int n ∷ []) (int_ranked y.place x.place Equal (sym e))
key_columns table.Orders x y e = ap (λ n. Int n ∷ []) (int_ranked y.number x.number Equal (sym e))
key_columns table.Line x y e =
    let both = both_equal _ _ e in
    ap₂ (λ a b. Int a ∷ Int b ∷ []) (int_ranked y.number x.number Equal (sym both.0))
    (int_ranked y.nr x.nr Equal (sym both.1))
key_columns table.Kept x y e = ap (λ t. Text t ∷ []) (same_text y.reqkey x.reqkey e)
key_columns table.Firm x y e = ap (λ n. Int n ∷ []) (int_ranked y.number x.number Equal (sym e))

module _ (t : TableName) (rows : List Row) (x : Cells t) (xs : List (Cells t)) (are : Stores t rows xs) (was : Row)
    (there : Has rows was) (is : same t x (stored t was) ≡ true) where
  -- a row that has the key has its columns
  pub has_key : take (length (declared t).primary) (stored t was) ≡ take (length (declared t).primary) (columns t x)
  has_key =
      let y = shown_key (key_cmp t) (key_cmp_total t) (stored t) (columns t) x (same t x) (tells t x) rows xs are was there is in
      ap (take (length (declared t).primary)) y.1 ∙ key_columns t x y.0 (is_equal _ y.2)

  pub number_is : rowid was ≡ Int (id_in (rowid was))
  number_is = int_is (rowid was) (all_has (λ r. IsTrue (is_int (rowid r))) rows was are.numbers there)

-- ---- what becomes of such a row

-- its columns with these of the key
abbrev remade : Option ℕ → ℕ → Row → Row → Row
remade None count key c = key ++ drop count c
remade (Some place) count key c = Null ∷ drop 1 c

remade_is : (t : TableName) (x : Cells t)
    → remade (declared t).key (length (declared t).primary) (take (length (declared t).primary) (columns t x))
    (columns t x) ≡ kept t x
remade_is t x = grind arith

-- what the SET list makes of it
set_is : (t : TableName) (x : Cells t) (new was : Row)
    → eval_all (col 1 0 ∷ set_terms (declared t)) ((columns t x ++ rowid was ∷ shown_new (declared t) new) ∷ was ∷ [])
    ≡ rowid was
    ∷ remade (declared t).key (length (declared t).primary) (take (length (declared t).primary) (stored t was))
    (columns t x)
set_is t x new was = grind arith

pub again : (t : TableName) (x : Cells t) (was : Row)
    → take (length (declared t).primary) (stored t was) ≡ take (length (declared t).primary) (columns t x)
    → stored t (rowid was ∷ kept t x) ≡ columns t x
again table.Desk x was e = ap (λ (k : Row). column k 0 ∷ drop 1 (columns table.Desk x)) e
again table.Field x was e = refl
again table.Move x was e = ap (λ (k : Row). column k 0 ∷ drop 1 (columns table.Move x)) e
again table.Orders x was e = ap (λ (k : Row). column k 0 ∷ drop 1 (columns table.Orders x)) e
again table.Line x was e = refl
again table.Kept x was e = refl
again table.Firm x was e = ap (λ (k : Row). column k 0 ∷ drop 1 (columns table.Firm x)) e

-- ---- the facts of a table that SQLite's steps ask for

pub record Facts (t : TableName) : Type 0 where
  pub at : slice_get desk_schema.tables (length (before t)) ≡ Some (declared t)
  pub uncounted : (declared t).is_counted ≡ false
  pub idle : (mode : Mode) (gone news : List Row) → works desk_schema mode.keys 0 (declared t).tree gone news ≡ []
  pub low : (trees : Trees) → overlay trees [] (declared t).tree ≡ trees (declared t).tree
  pub reads : (x : Cells t)
      → value_rows (stamped (declared t) (columns t x)) (width t) (length (terms t) / width t) (terms t)
      ≡ source t x ∷ []
  pub placed : (x : Cells t) (v : Value) (more : Row) → column (columns t x ++ v ∷ more) (length (declared t).columns) ≡ v

pub facts : (t : TableName) → Facts t
facts t = record {
  at = grind arith;
  uncounted = grind arith;
  idle = λ mode gone news. grind arith;
  low = λ trees. grind arith;
  reads = λ x. grind arith;
  placed = λ x v more. grind arith;
}

-- rows among which it is stay as they are where it is put in
module _ {X : Type 0} (cmp : X → X → Ordering) (total : IsTotalOrder cmp) (x : X) where
  stays : (xs : List X) → Has xs x → IsStrictlySortedBy cmp xs → put_row cmp x xs ≡ xs
  unfolding IsStrictlySortedBy
  stays [] h sorted = absurd h
  stays (y ∷ ys) (inl e) sorted =
      let equal : cmp x y ≡ Equal = subst (λ z. cmp x z ≡ Equal) e (tied_itself total x) in
      rw equal (ap (λ z. z ∷ ys) e)
  stays (y ∷ ys) (inr more) sorted =
      let after : cmp x y ≡ Greater =
      total.antisymm x y ∙ ap ordering_reverse (all_has (λ z. cmp y z ≡ Less) ys x sorted.0 more) in
      rw after (ap (λ zs. y ∷ zs) (stays ys more sorted.1))

-- ---- a row put into its table

-- the row is put into its table by its key, and the other tables have their rows
pub record PutsIntoTable (t : TableName) (x : Cells t) (old new : Database) : Type 0 where
  pub schema_is : new.schema ≡ desk_schema
  pub lists : Lists (new.trees catalog_tree) desk_schema
  pub own : (xs : List (Cells t)) → Stores t (old.trees (declared t).tree) xs
      → Stores t (new.trees (declared t).tree) (put_row (key_cmp t) x xs)
  pub others : AllByRecursion (λ u. u.tree ≢ (declared t).tree → new.trees u.tree ≡ old.trees u.tree) desk_schema.tables

module _ (t : TableName) (text : List ℕ) (means : PutsRow t text) (old new : State) (x : Cells t) (count : ℕ)
    (has : old.now.schema ≡ desk_schema) (h : Executes text (columns t x) old new (Ok count)) where
  abbrev trees : Trees
  trees = old.now.trees

  abbrev tree : List Row
  tree = trees (declared t).tree

  in_place : with_rowid Chosen tree (cast_row (declared t) (source t x)) ≡ fresh t tree x
  in_place = ap (with_rowid Chosen tree) (cast_source t x)

  settled : cast_row (declared t) (with_rowid Chosen tree (cast_row (declared t) (source t x)))
      ≡ with_rowid Chosen tree (cast_row (declared t) (source t x))
  settled = subst (λ r. cast_row (declared t) r ≡ r) (sym in_place) (steady_fresh t tree x)

  -- a row that has the key gets the other columns
  updates : upsert t
      ≡ InsertOr (length (before t)) Abort (Values (terms t) (width t))
      (record {
        target = Some (declared t).primary;
        update = Some (record { lets = []; body = updated (declared t) });
      } ∷ [])
      → (xs : List (Cells t)) → Stores t tree xs → PutsIntoTable t x old.now new.now
  updates is xs are =
      let f = facts t in
      let w = runs_as text (columns t x) old new desk_schema has (upsert t) means.command means.plain count h in
      let done = upserts old.step_limit (mode_of old) (columns t x) desk_schema (length (before t)) (declared t) f.at
      f.uncounted (f.idle (mode_of old)) f.low (terms t) (width t) (source t x) (f.reads x) (declared t).primary
      (length (declared t).columns) (f.placed x) (set_terms (declared t))
      (statement_of text (understood desk_schema text)) old.now has w.tally new.now are.numbers (kept t x) settled
      (λ was there conflict.
      let same_key =
      sym (meant t tree x was)
      ∙ subst (λ r. conflicts (Some (declared t).primary) desk_schema.indexes (declared t) r was ≡ true) in_place
      conflict in
      ap (cast_row (declared t)) (set_is t x (with_rowid Chosen tree (cast_row (declared t) (source t x))) was
      ∙ ap (λ k. rowid was ∷ remade (declared t).key (length (declared t).primary) k (columns t x))
      (has_key t tree x xs are was there same_key) ∙ ap (λ c. rowid was ∷ c) (remade_is t x))
      ∙ steady t (rowid was) x (subst (λ v. cast Integer v ≡ v) (sym (number_is t tree x xs are was there same_key))
      (cast_int (id_in (rowid was)))))
      (subst (λ c. Does old.step_limit (mode_of old) (columns t x) old.now
      (statement_of text (understood desk_schema text)) None c (Ok (w.tally, new.now))) is w.changed) in
      let put : Upserted desk_schema (declared t) (declared t).primary (fresh t tree x) trees new.now.trees (kept t x) =
      subst (λ r. Upserted desk_schema (declared t) (declared t).primary r trees new.now.trees (kept t x)) in_place
      done.1 in
      record {
        schema_is = done.0;
        lists = subst (Lists (new.now.trees catalog_tree)) done.0 w.sound.lists;
        own = λ ys are. rows_kept (key_cmp t) (key_cmp_total t) (stored t) (columns t) x (same t x) (tells t x)
            desk_schema (declared t) (declared t).primary (fresh t tree x) trees new.now.trees (kept t x) ys
            (λ r _. meant t tree x r) (shown_fresh t tree x)
            (λ was there is. again t x was (has_key t tree x ys are was there is)) (fresh_number t tree x) are put;
        others = put.others;
      }

  -- where the key is all, a row that has it stays
  left : upsert t
      ≡ InsertOr (length (before t)) Abort (Values (terms t) (width t))
      (record { target = Some (declared t).primary; update = None } ∷ [])
      → ((r : Row) → take (length (declared t).primary) (stored t r) ≡ stored t r)
      → take (length (declared t).primary) (columns t x) ≡ columns t x → PutsIntoTable t x old.now new.now
  left is stored_all columns_all =
      let f = facts t in
      let w = runs_as text (columns t x) old new desk_schema has (upsert t) means.command means.plain count h in
      let done = inserts old.step_limit (mode_of old) (columns t x) desk_schema (length (before t)) (declared t) f.at
      f.uncounted (f.idle (mode_of old)) (terms t) (width t) (source t x) (f.reads x) (declared t).primary
      (statement_of text (understood desk_schema text)) old.now has w.tally new.now settled
      (subst (λ c. Does old.step_limit (mode_of old) (columns t x) old.now
      (statement_of text (understood desk_schema text)) None c (Ok (w.tally, new.now))) is w.changed) in
      let put : Inserted desk_schema (declared t) (declared t).primary (fresh t tree x) trees new.now.trees =
      subst (λ r. Inserted desk_schema (declared t) (declared t).primary r trees new.now.trees) in_place done.1 in
      record {
        schema_is = done.0;
        lists = subst (Lists (new.now.trees catalog_tree)) done.0 w.sound.lists;
        own = λ ys are. own ys are put;
        others = put.others;
      }
    where
      shown_same : (ys : List (Cells t)) → Stores t tree ys → (was : Row) → Has tree was
          → same t x (stored t was) ≡ true → stored t was ≡ columns t x
      shown_same ys are was there is = sym (stored_all was) ∙ has_key t tree x ys are was there is ∙ columns_all

      is_there : (ys : List (Cells t)) → Stores t tree ys → (was : Row) → Has tree was → same t x (stored t was) ≡ true → Has ys x
      is_there ys are was there is =
          let shown = subst (Has (map (stored t) tree)) (shown_same ys are was there is) (mapped_has (stored t) tree was there) in
          let found =
          has_mapped (columns t) ys (columns t x)
          (has_permuted (map (columns t) ys) (map (stored t) tree) (columns t x)
          (IsPermutation-sym _ _ are.same) shown) in
          let same : found.0 ≡ x = sym (there_and_back t found.0) ∙ ap (from_columns t) (sym found.2) ∙ there_and_back t x in
          subst (Has ys) same found.1

      own : (ys : List (Cells t)) → Stores t tree ys
          → Inserted desk_schema (declared t) (declared t).primary (fresh t tree x) trees new.now.trees
          → Stores t (new.now.trees (declared t).tree) (put_row (key_cmp t) x ys)
      own ys are put = elim put.made [
        | inl a ↦ rows_kept (key_cmp t) (key_cmp_total t) (stored t) (columns t) x (same t x) (tells t x) desk_schema
            (declared t) (declared t).primary (fresh t tree x) trees new.now.trees (kept t x) ys
            (λ r _. meant t tree x r) (shown_fresh t tree x)
            (λ was there is. again t x was (has_key t tree x ys are was there is)) (fresh_number t tree x) are
            (record { made = inl a; others = put.others })
        | inr a ↦
            let there = is_there ys are a.was a.there (sym (meant t tree x a.was) ∙ a.has_key) in
            subst (λ rows. Stores t rows (put_row (key_cmp t) x ys)) (sym a.rows)
            (subst (Stores t tree) (sym (stays (key_cmp t) (key_cmp_total t) x ys there are.sorted)) are)
      ]

-- what the statement does
pub puts_into : (t : TableName) (text : List ℕ) → PutsRow t text → (old new : State) (x : Cells t) (count : ℕ)
    → old.now.schema ≡ desk_schema → Executes text (columns t x) old new (Ok count)
    → (xs : List (Cells t)) → Stores t (old.now.trees (declared t).tree) xs → PutsIntoTable t x old.now new.now
puts_into table.Desk text means old new x count has h xs are = updates table.Desk text means old new x count has h refl xs are
puts_into table.Field text means old new x count has h xs are = updates table.Field text means old new x count has h refl xs are
puts_into table.Move text means old new x count has h xs are = updates table.Move text means old new x count has h refl xs are
puts_into table.Orders text means old new x count has h xs are = updates table.Orders text means old new x count has h refl xs are
puts_into table.Line text means old new x count has h xs are = updates table.Line text means old new x count has h refl xs are
puts_into table.Kept text means old new x count has h xs are = updates table.Kept text means old new x count has h refl xs are
puts_into table.Firm text means old new x count has h xs are =
    left table.Firm text means old new x count has h refl (λ r. refl) refl
