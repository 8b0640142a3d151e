-- What the upserts do to the content: the table of the row has it, and the others are as they were.
use Rattle.std.proofs.Common.{◌≡◌, ◌∙◌, ℕ, Ok, Err, Result, refl, sym, ap, subst, arith, List, ◌∷◌, ◌++◌, [], IsTrue}
use Rattle.std.specs.Prelude.{OnOk, ◌≢◌}
use Rattle.sqlite.specs.declared.error.Error.{Error}
use Rattle.sqlite.specs.Order.{Row}
use Rattle.sqlite.specs.State.{State, Executes, ExecutesInside, IsUnchanged}
use Rattle.ledger.specs.declared.rows.Change.{Change}
use Rattle.ledger.specs.declared.rows.Change.TheVariants as change
use Rattle.ledger.specs.Rows.{Content}
use Rattle.sqlite.specs.Effect.{Database}
use Rattle.keep.specs.TableRows.{Cells, rows_of}
use Rattle.sql_keep.specs.Description.{declared, desk_schema}
use Rattle.sql_keep.specs.Statements.{InsertsRow, PutsRow}
use Rattle.keep.specs.declared.table_row.TableName.{TableName}
use Rattle.keep.specs.declared.table_row.TableName.TheVariants as table
use Rattle.sql_keep.specs.StoreContent.{Holds, Stores}
use Rattle.sql_keep.specs.Laws.{is_among}
use Rattle.sql_keep.specs.Laws.{is_now}
use Rattle.keep.specs.Content.{with_changes}
use Rattle.sql_keep.specs.Transactions.{PutsIn, cells_of, columns_of, table_of}
use Rattle.sql_keep.proofs.LaterTables.{content_now}
use Rattle.keep.proofs.Among.{of_each}
use Rattle.sql_keep.proofs.Insertions.{inserts_into}
use Rattle.sql_keep.proofs.Upserts.{PutsIntoTable, puts_into}

-- where the statement has put them in, the transaction goes on
upserted : (text : List ℕ) (columns : Row) (changes : List Change) (old new : State)
    → ((count : ℕ) → Executes text columns old new (Ok count) → (x : Content) → Holds old.now x
    → Holds new.now (with_changes changes x))
    → (r : Result ℕ Error) → ExecutesInside 0 text columns old new r → OnOk r (PutsIn old new changes)
upserted text columns changes old new holds (Ok count) h = record {
  mode = h.1.mode;
  committed = h.1.committed_is;
  is = holds count h.0;
}
upserted text columns changes old new holds (Err e) h = tt

-- ---- a row put into its table

rows_put : (c : Change) (t : TableName) (old new : Database) (x : Content)
    → PutsIntoTable (table_of c) (cells_of c) old new → Stores t (old.trees (declared t).tree) (rows_of t x)
    → Stores t (new.trees (declared t).tree) (rows_of t (with_changes (c ∷ []) x))
rows_put (change.Desk row) table.Desk old new x puts was = puts.own x.desk was
rows_put (change.Field row) table.Field old new x puts was = puts.own x.fields was
rows_put (change.Move row) table.Move old new x puts was = puts.own x.moves was
rows_put (change.Order row) table.Orders old new x puts was = puts.own x.orders was
rows_put (change.Line row) table.Line old new x puts was = puts.own x.lines was
rows_put (change.Kept row) table.Kept old new x puts was = puts.own x.kept was
rows_put (change.Firm row) table.Firm old new x puts was = puts.own x.firms was
rows_put c t old new x puts was =
    subst (λ rows. Stores t rows (rows_of t x))
    (sym (of_each (λ u. u.tree ≢ (declared (table_of c)).tree → new.trees u.tree ≡ old.trees u.tree)
    desk_schema.tables (declared t) puts.others (is_among t) (λ e. omega (arith, e)))) was

pub holds_put : (c : Change) (old new : Database) (x : Content) → PutsIntoTable (table_of c) (cells_of c) old new
    → Holds old x → Holds new (with_changes (c ∷ []) x)
holds_put c old new x puts held = record {
  schema_is = puts.schema_is;
  content =
      content_now new.trees (with_changes (c ∷ []) x) puts.lists
      (λ t. rows_put c t old new x puts (held.content.has.rows t (is_now t)));
}

row_put : (c : Change) (text : List ℕ) (old new : State)
    → ((count : ℕ) → old.now.schema ≡ desk_schema → Executes text (columns_of c) old new (Ok count)
    → (xs : List (Cells (table_of c))) → Stores (table_of c) (old.now.trees (declared (table_of c)).tree) xs
    → PutsIntoTable (table_of c) (cells_of c) old.now new.now)
    → (r : Result ℕ Error) → ExecutesInside 0 text (columns_of c) old new r → OnOk r (PutsIn old new (c ∷ []))
row_put c text old new puts = upserted text (columns_of c) (c ∷ []) old new (λ count h x held.
    holds_put c old.now new.now x (puts count held.schema_is h (rows_of (table_of c) x)
    (held.content.has.rows (table_of c) (is_now (table_of c)))) held)

-- what the statements of a row's table do
pub row_upserted : (c : Change) (text : List ℕ) → PutsRow (table_of c) text → (old new : State) (r : Result ℕ Error)
    → ExecutesInside 0 text (columns_of c) old new r → OnOk r (PutsIn old new (c ∷ []))
row_upserted c text means old new =
    row_put c text old new (puts_into (table_of c) text means old new (cells_of c))

pub row_inserted : (c : Change) (text : List ℕ) → InsertsRow (table_of c) text → (old new : State) (r : Result ℕ Error)
    → ExecutesInside 0 text (columns_of c) old new r → OnOk r (PutsIn old new (c ∷ []))
row_inserted c text means old new =
    row_put c text old new (inserts_into (table_of c) text means old new (cells_of c))

-- ---- rows put in one after another

first : (c : Change) (cs : List Change) (x : Content) → with_changes (c ∷ cs) x ≡ with_changes cs (with_changes (c ∷ []) x)
first (change.Desk r) cs x = refl
first (change.Field r) cs x = refl
first (change.Move r) cs x = refl
first (change.Order r) cs x = refl
first (change.Line r) cs x = refl
first (change.Kept r) cs x = refl
first (change.Firm r) cs x = refl

one_more : (cs : List Change) (c : Change) (x : Content)
    → with_changes (cs ++ c ∷ []) x ≡ with_changes (c ∷ []) (with_changes cs x)
one_more [] c x = refl
one_more (d ∷ cs) c x =
    first d (cs ++ c ∷ []) x ∙ one_more cs c (with_changes (d ∷ []) x) ∙ ap (with_changes (c ∷ [])) (sym (first d cs x))

pub puts_none : (s : State) → IsTrue s.in_transaction → PutsIn s s []
puts_none s begun = record { mode = begun; committed = refl; is = λ x held. held }

pub puts_then : (a b c : State) (xs : List Change) (x : Change) → PutsIn a b xs → PutsIn b c (x ∷ []) → PutsIn a c (xs ++ x ∷ [])
puts_then a b c xs x p q = record {
  mode = q.mode;
  committed = q.committed ∙ p.committed;
  is = λ y held. subst (Holds c.now) (sym (one_more xs x y)) (q.is _ (p.is y held));
}

-- rows that are put in where nothing was done before
pub puts_from : (a b c : State) (xs : List Change) (r : Result ℕ Error) → IsUnchanged a b → OnOk r (PutsIn b c xs)
    → OnOk r (PutsIn a c xs)
puts_from a b c xs (Ok count) same q = record {
  mode = q.mode;
  committed = q.committed ∙ same.0.committed_is;
  is = λ x held. q.is x (subst (λ d. Holds d x) (sym same.0.now_is) held);
}
puts_from a b c xs (Err e) same q = tt
