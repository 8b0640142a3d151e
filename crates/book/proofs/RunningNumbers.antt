-- Running numbers: what the entries of fields say of a ledger, and what becomes of them.
use Rattle.ledger.proofs.Prelude.{Add, Bool, BreaksBound, Contains, Content, Each, Equal, Field, FieldCells, Global}
use Rattle.ledger.proofs.Prelude.{Good, Greater, IsSafeMoved, IsSomeAnd, Ledger, Less, List, Name, None, Option}
use Rattle.ledger.proofs.Prelude.{Ordering, Some, Stock, String, Take, Way, [], accept, ap, arith, common_steps, false}
use Rattle.ledger.proofs.Prelude.{field_cells, field_cmp, field_named, field_row, held_to_add, held_to_take, holding}
use Rattle.ledger.proofs.Prelude.{if◌then◌else◌, insert_entry, ints, is_eq, is_lt, is_some, map, match_ordering}
use Rattle.ledger.proofs.Prelude.{name_cmp, next, pos, put_row, put_rows, refl, same_name, settled, string_bytes, subst}
use Rattle.ledger.proofs.Prelude.{sym, true≢false, ℕ, ℤ, ◌+ℤ◌, ◌+◌, ◌-ℤ◌, ◌<ℤ◌, ◌∙◌, ◌∷◌, ◌≡◌, ◌≤ℤ◌, ◌≤◌}
use Rattle.book.proofs.Prelude.{FieldEntry, IsUpToDate, entry_row, field_of, with_entries}
use Rattle.escrow.specs.Choices.{IsInfimum as IsLeastOf, IsSafe as IsSafeStock, IsSupremum as IsGreatestOf}
use Rattle.book.specs.Plans.{Fits, PlanView}
use Rattle.ledger.specs.Rows.{DeskCells, desk_row}
use Rattle.ledger.proofs.EqualRows.{rows_are, rows_of, same_first, same_rest}
use Rattle.book.proofs.KeyPlaces.{equal_field}
use Rattle.ledger.proofs.Runs.{in_order}
use Rattle.book.proofs.ShownNumbers.{Contains-of_find}
use Rattle.ledger.proofs.Lists.{each-at}
use Rattle.ledger.proofs.Safety.{nothing_on}

-- ---- one quantity

pub least_is : (s : Stock) (z : ℤ) → IsLeastOf s z → z ≡ pos s.value -ℤ pos s.held_to_take
least_is s z h = grind (arith, (h.least s.held_to_take 0 (omega arith) (omega arith)), h.reached.2, h.reached.4)

pub greatest_is : (s : Stock) (z : ℤ) → IsGreatestOf s z → z ≡ pos s.value +ℤ pos s.held_to_add
greatest_is s z h = grind (arith, common_steps, h.greatest, s.held_to_add, h.reached.3, h.reached.4)

-- ---- what a good ledger's field keeps to

pub bounds_at : (A : Ledger) (f : Field) → Good A → Contains A.fields f
    → (pos f.lo ≤ℤ (settled A f -ℤ held_to_take A f.name)) × ((settled A f -ℤ held_to_take A f.name) ≤ℤ settled A f) ×
    (settled A f ≤ℤ (settled A f +ℤ held_to_add A f.name)) × ((settled A f +ℤ held_to_add A f.name) ≤ℤ pos f.hi)
    × (f.hi ≤ 1000000000)
bounds_at A f good there = each-at _ A.fields there.0 f there.1 (sym there.2) (in_order A good)

-- ---- an entry that is up to date

pub numbers_up : (A : Ledger) (n : Name) (e : FieldEntry) → IsUpToDate A (n, e)
    → (pos e.quantity.value ≡ settled A (field_of (n, e))) × (pos e.quantity.held_to_take ≡ held_to_take A n)
    × (pos e.quantity.held_to_add ≡ held_to_add A n)
numbers_up A n e up =
    let value = ap (λ (r : FieldCells). r.value) up in let inf = ap (λ (r : FieldCells). r.inf) up in
    let sup = ap (λ (r : FieldCells). r.sup) up in
    (value, omega (arith, ints), omega (arith, ints))

-- ---- the check of a bound

not_above : (a b : ℤ) → (a ≤ℤ b → ⊥) → b <ℤ a
not_above a b h = grind (arith, ints)

-- so much fits between the least or the greatest value and its bound
abbrev pub HasRoom : Way → Stock → ℕ → Type 0
HasRoom Take s q = s.lo + (s.held_to_take + q) ≤ s.value
HasRoom Add s q = s.value + (s.held_to_add + q) ≤ s.hi

pub ask_granted : (s : Stock) (w : Way) (q : ℕ) → IsSafeStock (holding s w q) → HasRoom w s q
ask_granted s Take q safe =
    let least = (safe (s.held_to_take + q) 0 (omega arith) (omega arith)).0 in omega (arith, ints)
ask_granted s Add q safe =
    let greatest = (safe 0 (s.held_to_add + q) (omega arith) (omega arith)).1 in omega (arith, ints)

pub move_granted : (s : Stock) (w : Way) (q : ℕ) → IsSafeMoved s w q → HasRoom w s q
move_granted s Take q safe = let least = (safe s.held_to_take 0 (omega arith) (omega arith)).0 in omega (arith, ints)
move_granted s Add q safe = let greatest = (safe 0 s.held_to_add (omega arith) (omega arith)).1 in omega (arith, ints)

-- where an amount has room the check of the bound passes
pub grants : (A : Ledger) (n : Name) (e : FieldEntry) (w : Way) (q : ℕ) → IsUpToDate A (n, e)
    → field_named A n ≡ Some (field_of (n, e)) → HasRoom w e.quantity q → BreaksBound w A n q → ⊥
grants A n e Take q up there room breaks =
    let f : Field = field_of (n, e) in
    let numbers = numbers_up A n e up in
    let below : ((settled A f -ℤ held_to_take A n) -ℤ pos q) <ℤ pos e.quantity.lo = subst
    (λ (o : Option Field). IsSomeAnd o (λ f. ((settled A f -ℤ held_to_take A f.name) -ℤ pos q) <ℤ pos f.lo)) there breaks in
    omega (arith, ints)
grants A n e Add q up there room breaks =
    let f : Field = field_of (n, e) in
    let numbers = numbers_up A n e up in
    let above : pos e.quantity.hi <ℤ ((settled A f +ℤ held_to_add A n) +ℤ pos q) = subst
    (λ (o : Option Field). IsSomeAnd o (λ f. pos f.hi <ℤ ((settled A f +ℤ held_to_add A f.name) +ℤ pos q))) there breaks in
    omega (arith, ints)

-- what a field that is up to date grants where the bound is not broken
pub refuses : (A : Ledger) (n : Name) (e : FieldEntry) (way : Way) (q : ℕ) → Good A → IsUpToDate A (n, e)
    → field_named A n ≡ Some (field_of (n, e))
    → (IsSafeStock (holding e.quantity way q) × IsSafeMoved e.quantity way q → ⊥) → BreaksBound way A n q
refuses A n e Take q good up there unsafe =
    let f : Field = field_of (n, e) in
    let r = bounds_at A f good (Contains-of_find (λ g. same_name n g.name) A.fields f there) in
    let numbers = numbers_up A n e up in
    subst (λ (o : Option Field). IsSomeAnd o (λ f. ((settled A f -ℤ held_to_take A f.name) -ℤ pos q) <ℤ pos f.lo)) (sym there)
    (not_above (pos e.quantity.lo) ((settled A f -ℤ held_to_take A n) -ℤ pos q)
    (λ low. unsafe (
      (λ taken added t a. (omega (arith, ints), omega (arith, ints))),
      (λ taken added t a. (omega (arith, ints), omega (arith, ints))),
    )))
refuses A n e Add q good up there unsafe =
    let f : Field = field_of (n, e) in
    let r = bounds_at A f good (Contains-of_find (λ g. same_name n g.name) A.fields f there) in
    let numbers = numbers_up A n e up in
    subst (λ (o : Option Field). IsSomeAnd o (λ f. pos f.hi <ℤ ((settled A f +ℤ held_to_add A f.name) +ℤ pos q))) (sym there)
    (not_above ((settled A f +ℤ held_to_add A n) +ℤ pos q) (pos e.quantity.hi)
    (λ high. unsafe (
      (λ taken added t a. (omega (arith, ints), omega (arith, ints))),
      (λ taken added t a. (omega (arith, ints), omega (arith, ints))),
    )))

-- ---- rows of entries

pub rows_of_entries : (A : Ledger) (es : List (Name × FieldEntry)) → Each (IsUpToDate A) es
    → map entry_row es ≡ map (field_row A) (map field_of es)
rows_of_entries A [] all = refl
rows_of_entries A (e ∷ es) all = let first = all.0 in let more = rows_of_entries A es all.1 in λ i. first i ∷ more i

same_field : (e : Name × FieldEntry) (A : Ledger) (f : Field) → entry_row e ≡ field_row A f → field_of e ≡ f
same_field e A f is = grind arith

pub entry_cells_are : (e : Name × FieldEntry) (branch article : String Global) (lo hi start value inf sup : ℤ)
    → string_bytes branch ≡ e.0.branch → string_bytes article ≡ e.0.article → lo ≡ pos e.1.quantity.lo
    → hi ≡ pos e.1.quantity.hi → start ≡ pos e.1.start
    → value ≡ pos e.1.quantity.value → inf ≡ pos e.1.quantity.value -ℤ pos e.1.quantity.held_to_take
    → sup ≡ pos e.1.quantity.value +ℤ pos e.1.quantity.held_to_add
    → field_cells (record {
      branch = branch;
      article = article;
      lo = lo;
      hi = hi;
      start = start;
      value = value;
      inf = inf;
      sup = sup;
    }) ≡ entry_row e
entry_cells_are e branch article lo hi start value inf sup b a l h s v i u =
    λ z. record { branch = b z; article = a z; lo = l z; hi = h z; start = s z; value = v z; inf = i z; sup = u z }

-- entries whose rows are those of a ledger are its fields, up to date
pub entries_of_rows : (A : Ledger) (es : List (Name × FieldEntry)) (fs : List Field)
    → map entry_row es ≡ map (field_row A) fs → (map field_of es ≡ fs) × Each (IsUpToDate A) es
entries_of_rows A [] [] is = (refl, tt)
entries_of_rows A [] (f ∷ fs) is = absurd (cc)
entries_of_rows A (e ∷ es) [] is = absurd (cc)
entries_of_rows A (e ∷ es) (f ∷ fs) is =
    let more = entries_of_rows A es fs (same_rest (entry_row e) (field_row A f) (map entry_row es) (map (field_row A) fs) is) in
    grind (
      arith,
      (same_rest (entry_row e) (field_row A f) (map entry_row es) (map (field_row A) fs) is),
      (same_first (entry_row e) (field_row A f) (map entry_row es) (map (field_row A) fs) is),
      same_field,
    )

-- ---- entries put in

-- put among entries, an entry's row is put among rows
put_one : (n : Name) (v : FieldEntry) (l : List (Name × FieldEntry))
    → map entry_row (insert_entry name_cmp l n v) ≡ put_row field_cmp (entry_row (n, v)) (map entry_row l)
put_one n v [] = refl
put_one n v (e ∷ l) = by (name_cmp n e.0) refl (put_one n v l)
  where
    by : (o : Ordering) → name_cmp n e.0 ≡ o
        → map entry_row (insert_entry name_cmp l n v) ≡ put_row field_cmp (entry_row (n, v)) (map entry_row l)
        → map entry_row (match_ordering o ((n, v) ∷ e ∷ l) ((e.0, v) ∷ l) (e ∷ insert_entry name_cmp l n v))
        ≡ (if is_lt o then entry_row (n, v) ∷ entry_row e ∷ map entry_row l
        else (if is_eq o then entry_row (n, v) ∷ map entry_row l
        else entry_row e ∷ put_row field_cmp (entry_row (n, v)) (map entry_row l)))
    by Less is more = refl
    by Equal is more = ap (λ (k : Name). entry_row (k, v) ∷ map entry_row l) (sym (equal_field n e.0 is))
    by Greater is more = ap (λ (rows : List FieldCells). entry_row e ∷ rows) more

put_all : (es old : List (Name × FieldEntry))
    → map entry_row (with_entries es old) ≡ put_rows field_cmp (map entry_row es) (map entry_row old)
put_all [] old = refl
put_all (e ∷ es) old =
    put_all es (insert_entry name_cmp old e.0 e.1) ∙ ap (put_rows field_cmp (map entry_row es)) (put_one e.0 e.1 old)

-- the fields of a plan put in, the fields are those of the next ledger, up to date
pub adopted : (A : Ledger) (plan : PlanView) (es old : List (Name × FieldEntry)) → Good A
    → Good (accept A plan.request) → Fits A plan → map entry_row es ≡ plan.changes.fields
    → map field_of old ≡ A.fields → Each (IsUpToDate A) old
    → (map field_of (with_entries es old) ≡ (accept A plan.request).fields)
    × Each (IsUpToDate (accept A plan.request)) (with_entries es old)
adopted A plan es old good next fits told fields all =
    let B : Ledger = accept A plan.request in
    let before = rows_of_entries A old all ∙ ap (map (field_row A)) fields in
    let put = fits.changes.suffice (rows_of A) (rows_of B) (rows_are A good) (rows_are B next) in
    entries_of_rows B (with_entries es old) B.fields
    (put_all es old ∙ (λ i. put_rows field_cmp (told i) (before i)) ∙ ap (λ (c : Content). c.fields) put)

-- the clock of a desk row
pub clock_told : (B : Ledger) (n : ℕ) (rows : List DeskCells) → rows ≡ desk_row B ∷ []
    → map (λ row. row.clock) rows ≡ pos n ∷ [] → n ≡ B.clock
clock_told B n rows is told =
    let same : pos B.clock ∷ [] ≡ pos n ∷ [] = sym (ap (map (λ row. row.clock)) is) ∙ told in cc

-- ---- a new field

pub off : (b : Bool) (z : ℤ) → b ≡ false → (if b then z else pos 0) ≡ pos 0
off b z e = cc

-- its value is its start, and nothing is held on it
pub new_field : (A B : Ledger) (n : Name) (lo hi start : ℕ) → Good A → field_named A n ≡ None → B.moves ≡ A.moves
    → B.orders ≡ A.orders
    → entry_row (
      n,
      record {
        start = start;
        quantity = record { lo = lo; hi = hi; value = start; held_to_take = 0; held_to_add = 0 };
      },
    )
    ≡ field_row B (record { name = n; lo = lo; hi = hi; start = start })
new_field A B n lo hi start good none same_moves same_orders =
    grind (arith, numbers.0, numbers.1, numbers.2, same_moves, same_orders)
  where
    numbers : (settled A (record { name = n; lo = lo; hi = hi; start = start }) ≡ pos start)
        × (held_to_take A n ≡ pos 0) × (held_to_add A n ≡ pos 0)
    numbers =
        nothing_on A (record { name = n; lo = lo; hi = hi; start = start }) good (λ some. true≢false (sym some ∙ ap is_some none))
