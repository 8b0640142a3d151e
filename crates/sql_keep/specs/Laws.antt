-- What a keeper over SQLite proves about itself, as every keeper does. What the laws of an implementation need must
-- stand in `specs`; so these proofs are here.
use Rattle.std.proofs.Common.{◌≡◌, ◌≤◌, ◌∙◌, ◌-◌, ℕ, nat_eq, if◌then◌else◌, get_or, length, inl, inr, zero, suc, []}
use Rattle.std.proofs.Common.{◌∷◌, List, map, ap, arith, refl, subst, sym}
use Rattle.std.specs.List.{Any}
use Rattle.std.proofs.Math.Logic.{∥∥₁_map}
use Rattle.sqlite.specs.Order.{Row}
use Rattle.sqlite.specs.Table.{Table}
use Rattle.sqlite.specs.Schema.{Schema}
use Rattle.sqlite.specs.Effect.{Database}
use Rattle.sqlite_trees.specs.Tree.{Trees}
use Rattle.ledger.specs.Rows.{Content}
use Rattle.keep.specs.Content.{IsAmong, newest}
use Rattle.keep.specs.TableRows.{Cells, key_cmp, rows_of}
use Rattle.keep.specs.declared.table_row.TableName.{TableName}
use Rattle.keep.specs.declared.table_row.TableName.TheVariants as table
use Rattle.sql_keep.specs.Description.{all_tables, columns, declared, desk_schema, from_columns, schema_of, since, stored}
use Rattle.sql_keep.specs.Names.{HasNames}
use Rattle.sql_keep.specs.Old.{IsOld}
use Rattle.sql_keep.specs.StoreContent.{HasTables, Holds, IsContent, LeavesOnly, MayLeave, Stores}
use Rattle.keep.proofs.KeyOrders.{key_cmp_total}
use Rattle.keep.proofs.OneContent.{one_list, same_content}

-- a row is determined by its columns
pub there_and_back : (t : TableName) (x : Cells t) → from_columns t (columns t x) ≡ x
there_and_back table.Desk x = refl
there_and_back table.Field x = refl
there_and_back table.Move x = refl
there_and_back table.Orders x = refl
there_and_back table.Line x = refl
there_and_back table.Kept x = refl
there_and_back table.Firm x = refl

-- rows that a table stores are stored as one list
pub rows_once : (t : TableName) (rows : List Row) (xs ys : List (Cells t)) → Stores t rows xs → Stores t rows ys
    → ys ≡ xs
rows_once t rows xs ys one other =
    one_list (key_cmp t) (key_cmp_total t) (columns t) (from_columns t) (there_and_back t) (map (stored t) rows) xs ys one.same
    other.same one.sorted other.sorted

-- each table is there in the newest version
pub is_now : (t : TableName) → since t ≤ newest
is_now t = grind arith

-- trees have at most one content
pub only_content : (trees : Trees) (x y : Content) → IsContent trees x → IsContent trees y → y ≡ x
only_content trees x y p q = same_content y x (λ t. rows_once t (trees (declared t).tree) (rows_of t x) (rows_of t y)
    (p.has.rows t (is_now t)) (q.has.rows t (is_now t)))

-- what a stop may leave stands in each list of all that it may leave, since trees have at most one content
pub is_in_these : (may_leave : Trees → Type 0) (these : List Content) (x : Content) → LeavesOnly may_leave these
    → MayLeave may_leave x → IsAmong these x
is_in_these may_leave these x only left =
    let found = only left.0 left.1 in
    subst (IsAmong these) (only_content left.0 x found.0 left.2 found.1) found.2

-- where there is such a list, a stop may leave some content
pub leaves_a_content : (may_leave : Trees → Type 0) (these : List Content) → ∥ ((trees : Trees) × may_leave trees) ∥₁
    → LeavesOnly may_leave these → ∥ ((x : Content) × MayLeave may_leave x) ∥₁
leaves_a_content may_leave these some only =
    ∥∥₁_map some (λ left. let found = only left.0 left.1 in let r : ((x : Content)
    × MayLeave may_leave x) = (found.0, (left.0, left.1, found.1)) in r)

-- where a table is declared, there is a table of its name
pub named : (tables : List Table) (t : Table) → IsAmong tables t → Any (λ u. u.name ≡ t.name) tables
named [] t h = absurd h
named (u ∷ us) t (inl e) = (0, u, omega arith, refl, sym (ap (λ v. v.name) e))
named (u ∷ us) t (inr h) = let more = named us t h in (suc more.0, more.1, omega (arith, more.2), more.3, more.4)

-- the newest version has brought the table that is made last
brought_last : (t : TableName) × (since t ≡ newest)
brought_last = (get_or all_tables (length all_tables - 1) table.Desk, refl)

-- a store of an older version lacks the table that is made last
pub old_is_apart : (db : Database) (x : Content) → IsOld db → HasTables db x → ⊥
old_is_apart db x old has =
    let t = brought_last in old.2.no_later t.0 (omega (arith, old.1.1, t.1)) (named _ _ (has t.0).1)

-- each table lies in the schema of a desk as it is made
pub is_among : (t : TableName) → IsAmong desk_schema.tables (declared t)
is_among t = grind arith

-- what is held stands in the seven tables
pub holds_tables : (db : Database) (x : Content) → Holds db x → HasTables db x
holds_tables db x held t = (
  (declared t).tree,
  subst (λ (s : Schema). IsAmong s.tables (declared t)) (sym held.schema_is) (is_among t),
  held.content.has.rows t (is_now t),
)

-- what holds for each version holds for all, and 0 stands for no tables before the first
each_version : (P : ℕ → Type 0) → P 0 → P 1 → P 2 → (version : ℕ) → version ≤ newest → P version
each_version P none one two zero late = none
each_version P none one two (suc zero) late = one
each_version P none one two (suc (suc zero)) late = two
each_version P none one two (suc (suc (suc version))) late = absurd (omega arith)

-- the version that has so many tables
abbrev of_count : ℕ → ℕ
of_count count = if nat_eq count 0 then 0 else (if nat_eq count 6 then 1 else 2)

counted : (v : ℕ) → v ≤ newest → of_count (length (schema_of v).tables) ≡ v
counted = each_version (λ v. of_count (length (schema_of v).tables) ≡ v) refl refl refl

-- a schema is that of one version
pub one_schema : (schema : Schema) (v w : ℕ) → v ≤ newest → w ≤ newest → schema ≡ schema_of v → schema ≡ schema_of w → v ≡ w
one_schema schema v w old also is other =
    sym (counted v old) ∙ ap (λ (s : Schema). of_count (length s.tables)) (sym is ∙ other) ∙ counted w also

first_has : (t : TableName) → since t ≤ 1 → IsAmong (schema_of 1).tables (declared t)
first_has t early = grind arith

-- the schema of each version has the names
pub names_of_each : (schema : Schema) (v : ℕ) → 1 ≤ v → v ≤ newest → schema ≡ schema_of v → HasNames schema
names_of_each schema v some old is =
    subst HasNames (sym is) (each_version (λ v. 1 ≤ v → HasNames (schema_of v)) (λ none. absurd (omega arith))
    (λ one t early. named (schema_of 1).tables (declared t) (first_has t early))
    (λ two t early. named (schema_of 2).tables (declared t) (is_among t)) v old some)
