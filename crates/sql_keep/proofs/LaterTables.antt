-- The rows of an older version in the tables of the newest: those that later versions have brought have none.
use Rattle.std.proofs.Common.{◌≡◌, ◌∙◌, ◌<◌, ◌≤◌, ◌++◌, ◌⊎◌, Bool, false, true, inl, inr, arith, ℕ, zero, suc, List, []}
use Rattle.std.proofs.Common.{ap, map, nat_le, refl, subst, sym}
use Rattle.std.specs.List.Sorted.{IsStrictlySortedBy}
use Rattle.sqlite.specs.Effect.{Database}
use Rattle.sqlite.specs.Order.{Row}
use Rattle.sqlite_catalog.specs.Listing.{Lists}
use Rattle.sqlite_keyed.proofs.ListLemmas.{IsPermutation-same}
use Rattle.sqlite_trees.specs.Objects.{catalog_tree}
use Rattle.sqlite_trees.specs.Tree.{Trees}
use Rattle.ledger.specs.Rows.{Content}
use Rattle.ledger.specs.Tables.{no_content}
use Rattle.keep.specs.Content.{IsAmong, newest}
use Rattle.sql_keep.specs.StoreContent.{HasRowsOf, HaveNumbers, Holds, IsContent, Stores}
use Rattle.keep.specs.TableRows.{rows_of}
use Rattle.sql_keep.specs.Description.{declared, desk_schema, schema_of, schema_with, since, stored, tables_after, tables_of}
use Rattle.sql_keep.specs.Laws.{is_now}
use Rattle.sql_keep.specs.Stages.{AddsTables}
use Rattle.keep.specs.declared.table_row.TableName.{TableName}
use Rattle.keep.specs.declared.table_row.TableName.TheVariants as table
use Rattle.sql_keep.proofs.Versions.{brought, in_version, is_late, upto-false, upto-true}
use Rattle.keep.proofs.Among.{of_each}

-- what the catalog lists and the tables hold now is the content
pub content_now : (trees : Trees) (x : Content) → Lists (trees catalog_tree) desk_schema
    → ((t : TableName) → Stores t (trees (declared t).tree) (rows_of t x)) → IsContent trees x
content_now trees x lists rows = record {
  lists = lists;
  has = record { rows = λ t now. rows t; none = λ t late. absurd (let now = is_now t in omega (arith, now, late)) };
}

-- of a table with no rows
none : (t : TableName) (rows : List Row) → rows ≡ [] → Stores t rows []
unfolding IsStrictlySortedBy
none t rows is = record {
  same = IsPermutation-same _ _ (ap (map (stored t)) is);
  sorted = tt;
  numbers = subst HaveNumbers (sym is) tt;
}

no_rows : (t : TableName) → rows_of t no_content ≡ []
no_rows table.Desk = refl
no_rows table.Field = refl
no_rows table.Move = refl
no_rows table.Orders = refl
no_rows table.Line = refl
no_rows table.Kept = refl
no_rows table.Firm = refl

not_earlier : (t : TableName) → 1 ≤ since t
not_earlier t = grind arith

-- before the first version there is nothing
pub nothing : (trees : Trees) → HasRowsOf 0 trees no_content
nothing trees = record {
  rows = λ t early. absurd (let some = not_earlier t in omega (arith, early, some));
  none = λ t late. no_rows t;
}

-- each version's tables and those that came later are the tables of the newest
all_of : (v : ℕ) → v ≤ newest → tables_of v ++ tables_after v ≡ tables_of newest
all_of zero old = refl
all_of (suc zero) old = refl
all_of (suc (suc zero)) old = refl
all_of (suc (suc (suc v))) old = absurd (omega arith)

module _ (v : ℕ) (old new : Database) (adds : AddsTables (tables_of v) (tables_after v) old new) where
  rows_later : (x : Content) → HasRowsOf v old.trees x → (t : TableName) → Stores t (new.trees (declared t).tree) (rows_of t x)
  rows_later x has t = by (nat_le (since t) v) refl
    where
      by : (b : Bool) → nat_le (since t) v ≡ b → Stores t (new.trees (declared t).tree) (rows_of t x)
      by true is =
          let early : since t ≤ v = upto-true (since t) v is in
          subst (λ rows. Stores t rows (rows_of t x))
          (sym (of_each (λ u. new.trees u.tree ≡ old.trees u.tree) (schema_of v).tables (declared t) adds.others
          (in_version v t early))) (has.rows t early)
      by false is =
          let late : v < since t = upto-false (since t) v is in
          subst (Stores t (new.trees (declared t).tree)) (sym (has.none t late))
          (none t _
          (of_each (λ u. new.trees (declared u).tree ≡ []) (tables_after v) t adds.empty (is_late v t late)))

  listed : v < newest
      → (tables_after v ≡ []) ⊎ Lists (new.trees catalog_tree) (schema_with (tables_of v ++ tables_after v))
      → Lists (new.trees catalog_tree) (schema_with (tables_of v ++ tables_after v))
  listed late (inl nothing) =
      let t = brought newest (omega arith) (omega arith) in
      absurd (subst (λ tables. IsAmong tables t.0) nothing (is_late v t.0 (omega (arith, late, t.1))))
  listed late (inr lists) = lists

  pub holds_later : v < newest → (x : Content) → HasRowsOf v old.trees x → Holds new x
  holds_later late x has =
      let all = ap schema_with (all_of v (omega (arith, late))) in
      record {
        schema_is = adds.schema_is ∙ all;
        content =
            content_now new.trees x (subst (Lists (new.trees catalog_tree)) all (listed late adds.lists))
            (rows_later x has);
      }
