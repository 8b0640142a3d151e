-- Which tables a version has, and which schema is that of which version.
use Rattle.std.proofs.Common.{◌≡◌, ◌<◌, ◌≤◌, ◌∙◌, Bool, false, true, if◌then◌else◌, inl, inr, ℕ, zero, suc, List, []}
use Rattle.std.proofs.Common.{◌∷◌, ap, arith, filter, get_or, length, map, nat_eq, nat_le, nat_lt, refl, subst, sym}
use Rattle.std.specs.List.{AllByRecursion as Each, Any}
use Rattle.sqlite.specs.Schema.{Schema}
use Rattle.sqlite.specs.Table.{Table}
use Rattle.keep.specs.Content.{IsAmong, newest}
use Rattle.sql_keep.specs.Description.{all_tables, declared, schema_of, since, tables_after, tables_of}
use Rattle.keep.proofs.Among.{of_each}
use Rattle.sql_keep.specs.Laws.{named}
use Rattle.sql_keep.specs.Names.{HasTableNamed}
use Rattle.keep.specs.declared.table_row.TableName.{TableName}
use Rattle.keep.specs.declared.table_row.TableName.TheVariants as table

-- ---- lists

pub mapped : {X Y : Type 0} (f : X → Y) (xs : List X) (x : X) → IsAmong xs x → IsAmong (map f xs) (f x)
mapped f [] x among = absurd among
mapped f (y ∷ ys) x (inl is) = inl (ap f is)
mapped f (y ∷ ys) x (inr more) = inr (mapped f ys x more)

from_map : {X Y : Type 0} (f : X → Y) (xs : List X) (y : Y) → IsAmong (map f xs) y → (x : X) × IsAmong xs x × (y ≡ f x)
from_map f [] y among = absurd among
from_map f (x ∷ xs) y (inl is) = (x, inl refl, is)
from_map f (x ∷ xs) y (inr more) = let found = from_map f xs y more in (found.0, inr found.1, found.2)

kept : {X : Type 0} (P : X → Bool) (xs : List X) (x : X) → IsAmong xs x → P x ≡ true → IsAmong (filter P xs) x
kept P [] x among chosen = absurd among
kept {X} P (y ∷ ys) x among chosen = by (P y) refl (λ more. kept P ys x more chosen) among
  where
    by : (b : Bool) → P y ≡ b → (IsAmong ys x → IsAmong (filter P ys) x) → IsAmong (y ∷ ys) x
        → IsAmong (if b then y ∷ filter P ys else filter P ys) x
    by true is more (inl first) = inl first
    by true is more (inr later) = inr (more later)
    by false is more (inl first) = absurd (let no = sym is ∙ ap P (sym first) ∙ chosen in cc)
    by false is more (inr later) = more later

chosen : {X : Type 0} (P : X → Bool) (xs : List X) (x : X) → IsAmong (filter P xs) x → P x ≡ true
chosen P [] x among = absurd among
chosen {X} P (y ∷ ys) x among = by (P y) refl (chosen P ys x) among
  where
    by : (b : Bool) → P y ≡ b → (IsAmong (filter P ys) x → P x ≡ true)
        → IsAmong (if b then y ∷ filter P ys else filter P ys) x → P x ≡ true
    by true is more (inl first) = ap P first ∙ is
    by true is more (inr later) = more later
    by false is more later = more later

each_kept : {X : Type 0} (P : X → Bool) (Q : X → Type 0) (xs : List X) → ((x : X) → P x ≡ true → Q x) → Each Q (filter P xs)
each_kept P Q [] all = tt
each_kept {X} P Q (y ∷ ys) all = by (P y) refl (each_kept P Q ys all)
  where
    by : (b : Bool) → P y ≡ b → Each Q (filter P ys) → Each Q (if b then y ∷ filter P ys else filter P ys)
    by true is more = (all y is, more)
    by false is more = more

any_among : {X : Type 0} (P : X → Type 0) (xs : List X) → Any P xs → (x : X) × IsAmong xs x × P x
any_among {X} P xs found = (found.1, at xs found.0 found.1 found.2 found.3, found.4)
  where
    at : (xs : List X) (k : ℕ) (x : X) → k < length xs → get_or xs k x ≡ x → IsAmong xs x
    at [] k x few is = absurd (omega arith)
    at (y ∷ ys) zero x few is = inl (sym is)
    at (y ∷ ys) (suc k) x few is = inr (at ys k x (omega arith) is)

-- ---- the tables of a version

upto : (m n : ℕ) → m ≤ n → nat_le m n ≡ true
upto m n h = grind arith

below : (m n : ℕ) → m < n → nat_lt m n ≡ true
below m n h = grind arith

pub upto-true : (m n : ℕ) → nat_le m n ≡ true → m ≤ n
upto-true m n e = grind arith

pub upto-false : (m n : ℕ) → nat_le m n ≡ false → n < m
upto-false m n e = grind arith

in_all : (t : TableName) → IsAmong all_tables t
in_all t = grind arith

is_early : (v : ℕ) (t : TableName) → since t ≤ v → IsAmong (tables_of v) t
is_early v t early = kept (λ t. nat_le (since t) v) all_tables t (in_all t) (upto (since t) v early)

pub is_late : (v : ℕ) (t : TableName) → v < since t → IsAmong (tables_after v) t
is_late v t late = kept (λ t. nat_lt v (since t)) all_tables t (in_all t) (below v (since t) late)

pub each_early : (v : ℕ) (P : TableName → Type 0) → ((t : TableName) → since t ≤ v → P t) → Each P (tables_of v)
each_early v P all = each_kept (λ t. nat_le (since t) v) P all_tables (λ t chosen. all t (upto-true (since t) v chosen))

pub of_early : (v : ℕ) (P : TableName → Type 0) → Each P (tables_of v) → (t : TableName) → since t ≤ v → P t
of_early v P all t early = of_each P (tables_of v) t all (is_early v t early)

pub in_version : (v : ℕ) (t : TableName) → since t ≤ v → IsAmong (schema_of v).tables (declared t)
in_version v t early = mapped declared (tables_of v) t (is_early v t early)

-- ---- tables by their names

-- the third letters of their names differ
abbrev by_letter : ℕ → TableName
by_letter letter =
    if nat_eq letter 115 then table.Desk
    else (if nat_eq letter 101 then table.Field
    else (if nat_eq letter 118 then table.Move else (if nat_eq letter 100 then table.Orders
    else (if nat_eq letter 110 then table.Line else (if nat_eq letter 112 then table.Kept else table.Firm)))))

by_its_letter : (t : TableName) → by_letter (get_or (declared t).name 2 0) ≡ t
by_its_letter table.Desk = refl
by_its_letter table.Field = refl
by_its_letter table.Move = refl
by_its_letter table.Orders = refl
by_its_letter table.Line = refl
by_its_letter table.Kept = refl
by_its_letter table.Firm = refl

alike : (t u : TableName) → (declared t).name ≡ (declared u).name → t ≡ u
alike t u same = sym (by_its_letter t) ∙ ap (λ (name : List ℕ). by_letter (get_or name 2 0)) same ∙ by_its_letter u

is_since : (v : ℕ) (t : TableName) (found : Table) → found.name ≡ (declared t).name → IsAmong (schema_of v).tables found
    → (since t ≤ v) × (found ≡ declared t)
is_since v t found is among =
    let u = from_map declared (tables_of v) found among in
    let same : u.0 ≡ t = alike u.0 t (sym (ap (λ (t : Table). t.name) u.2) ∙ is) in
    let early : nat_le (since t) v ≡ true =
    subst (λ t. nat_le (since t) v ≡ true) same (chosen (λ t. nat_le (since t) v) all_tables u.0 u.1) in
    (upto-true (since t) v early, u.2 ∙ ap declared same)

-- a table lies in the schema of a version where it says
pub lies : (v : ℕ) (t : TableName) (tree : ℕ) → IsAmong (schema_of v).tables (record (declared t) { tree = tree })
    → (since t ≤ v) × (tree ≡ (declared t).tree)
lies v t tree among =
    let found = is_since v t (record (declared t) { tree = tree }) refl among in
    (found.0, ap (λ (t : Table). t.tree) found.1)

-- what has its name there is it
pub named_in : (v : ℕ) (t : TableName) → HasTableNamed (schema_of v) (declared t).name → since t ≤ v
named_in v t found =
    let u = any_among (λ (u : Table). u.name ≡ (declared t).name) (schema_of v).tables found in (is_since v t u.0 u.2 u.1).0

-- ---- versions

-- each version has brought a table
pub brought : (v : ℕ) → 1 ≤ v → v ≤ newest → (t : TableName) × (since t ≡ v)
brought zero some old = absurd (omega arith)
brought (suc zero) some old = (table.Desk, refl)
brought (suc (suc zero)) some old = (table.Firm, refl)
brought (suc (suc (suc v))) some old = absurd (omega arith)

-- each table of the version has its name in the schema, and no later one
pub record HasNamesOf (v : ℕ) (schema : Schema) : Type 0 where
  pub early : (t : TableName) → since t ≤ v → HasTableNamed schema (declared t).name
  pub late : (t : TableName) → v < since t → ¬ HasTableNamed schema (declared t).name

pub names_of_version : (v : ℕ) (schema : Schema) → schema ≡ schema_of v → HasNamesOf v schema
names_of_version v schema is = subst (HasNamesOf v) (sym is) (record {
  early = λ t early. named _ _ (in_version v t early);
  late = λ t late found. omega (arith, late, named_in v t found);
})

not_less : (v w : ℕ) (schema : Schema) → HasNamesOf v schema → HasNamesOf w schema → w ≤ newest → v < w → ⊥
not_less v w schema has also old less =
    let t = brought w (omega (arith, less)) old in has.late t.0 (omega (arith, less, t.1)) (also.early t.0 (omega (arith, t.1)))

-- a schema has the names of one version
pub one_version : (v w : ℕ) (schema : Schema) → HasNamesOf v schema → HasNamesOf w schema → v ≤ newest → w ≤ newest → v ≡ w
one_version v w schema has also old as_old =
    let below : v < w → ⊥ = not_less v w schema has also as_old in
    let above : w < v → ⊥ = not_less w v schema also has old in omega (arith, below, above)
