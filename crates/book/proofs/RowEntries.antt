-- Rows of a good ledger each tell something in range, and rows that each tell something tell a ledger.
use Rattle.ledger.proofs.Prelude.{AllZip, Bool, Each, Field, Good, IsArticle, IsBranch, IsFieldRow, IsGoodField}
use Rattle.ledger.proofs.Prelude.{IsGoodKept, IsGoodLine, IsGoodMove, IsGoodOrder, IsLevel, IsSome, IsStrictlySortedBy}
use Rattle.ledger.proofs.Prelude.{Ledger, LineCells, List, Name, Order, Some, TellsField, [], ap, arith, false}
use Rattle.ledger.proofs.Prelude.{field_cells, find, firm_rows, flat_map, held_to_add, held_to_take, if◌then◌else◌}
use Rattle.ledger.proofs.Prelude.{ints, kept_cells, kept_row, line_cells, line_name, lines_from, map, move_cells}
use Rattle.ledger.proofs.Prelude.{move_row, nat_abs, nat_cmp, order_cells, order_lines, order_row, pos, refl, same_name}
use Rattle.ledger.proofs.Prelude.{settled, subst, sym, true, true≢false, ℕ, ◌++◌, ◌+ℤ◌, ◌+◌, ◌-ℤ◌, ◌∙◌, ◌∷◌, ◌≡◌, ◌≤ℤ◌}
use Rattle.ledger.proofs.Prelude.{◌≤◌}
use Rattle.book.proofs.Prelude.{FieldEntry, Head, IsBounded, IsFieldTold, IsKeptTold, IsLineTold, IsMoveTold, KeptEntry}
use Rattle.book.proofs.Prelude.{MoveEntry, TellHeads, entry_row, field_of, head_of, mark_rows}
use Rattle.ledger.specs.declared.rows.FieldRow.{FieldRow}
use Rattle.ledger.specs.declared.rows.KeptRow.{KeptRow}
use Rattle.ledger.specs.declared.order.Line.{Line}
use Rattle.ledger.specs.declared.rows.LineRow.{LineRow}
use Rattle.ledger.specs.declared.rows.MoveRow.{MoveRow}
use Rattle.ledger.specs.declared.rows.OrderRow.{OrderRow}
use Rattle.ledger.specs.Rows.{FirmCells, OrderCells}
use Rattle.book.specs.inner.RowEntries.{AreRowsOfOrders, IsHeadTold, TellOrders, TellsLine, head_row}
use Rattle.ledger.proofs.Bounds.{inf_is, inf_unique, sup_is, sup_unique}
use Rattle.ledger.proofs.Falls.{sounds_from_good}
use Rattle.ledger.proofs.Lists.{each-two, each-unmap}
use Rattle.book.proofs.Marks.{Marked, same_heads}
use Rattle.ledger.proofs.Runs.{in_order}
use Rattle.ledger.proofs.Sums.{each-imp}
use Rattle.ledger.proofs.EqualRows.{each-join, same_first, same_rest}
use Rattle.ledger.proofs.FieldNames.{name_is}

-- ---- rows, one by one

each_row : {X Y V : Type 0} (f : X → V) (g : Y → V) (Q : X → Type 0) (P : Y → Type 0)
    → ((x : X) (y : Y) → Q x → g y ≡ f x → P y) → (xs : List X) (ys : List Y) → Each Q xs → map g ys ≡ map f xs
    → Each P ys
each_row f g Q P to [] [] all e = tt
each_row f g Q P to [] (y ∷ ys) all e = absurd (cc)
each_row f g Q P to (x ∷ xs) [] all e = tt
each_row f g Q P to (x ∷ xs) (y ∷ ys) all e =
    (to x y all.0 (same_first _ _ _ _ e), each_row f g Q P to xs ys all.1 (same_rest (g y) (f x) (map g ys) (map f xs) e))

each_zip : {X Y V : Type 0} (R : X → V → Type 0) (g : Y → V) (Q : X → Type 0) (P : Y → Type 0)
    → ((x : X) (y : Y) → Q x → R x (g y) → P y) → (xs : List X) (ys : List Y) → Each Q xs → AllZip R xs (map g ys)
    → Each P ys
each_zip R g Q P to [] [] all z = tt
each_zip R g Q P to [] (y ∷ ys) all z = absurd z
each_zip R g Q P to (x ∷ xs) [] all z = tt
each_zip R g Q P to (x ∷ xs) (y ∷ ys) all z = (to x y all.0 z.0, each_zip R g Q P to xs ys all.1 z.1)

-- the codes of a field that is there
pub named_codes : (n : Name) (fs : List Field) → Each IsGoodField fs → IsSome (find (λ f. same_name n f.name) fs)
    → IsBranch n.branch × IsArticle n.article
named_codes n [] good there = absurd (true≢false (sym there))
named_codes n (f ∷ fs) good there = step (same_name n f.name) refl (λ k. named_codes n fs good.1 k) there
  where
    step : (b : Bool) → same_name n f.name ≡ b
        → (IsSome (find (λ f. same_name n f.name) fs) → IsBranch n.branch × IsArticle n.article)
        → IsSome (if b then Some f else find (λ f. same_name n f.name) fs) → IsBranch n.branch × IsArticle n.article
    step true e more h =
        let is = name_is n f.name e in (
          subst (λ (m : Name). IsBranch m.branch) (sym is) good.0.branch,
          subst (λ (m : Name). IsArticle m.article) (sym is) good.0.article,
        )
    step false e more h = more h

-- the numbers of a field, in their order
abbrev AreInOrder : Ledger → Field → Type 0
AreInOrder A f =
    (pos f.lo ≤ℤ (settled A f -ℤ held_to_take A f.name)) × ((settled A f -ℤ held_to_take A f.name) ≤ℤ settled A f) ×
    (settled A f ≤ℤ (settled A f +ℤ held_to_add A f.name)) × ((settled A f +ℤ held_to_add A f.name) ≤ℤ pos f.hi)
    × (f.hi ≤ 1000000000)

field_told : (A : Ledger) (f : Field) (row : FieldRow) → Good A → IsGoodField f → AreInOrder A f
    → IsFieldRow A f (field_cells row) → (e : Name × FieldEntry) × IsFieldTold e row
field_told A f row g good r is =
    let sound = sounds_from_good A g in
    let least = inf_unique A f row.inf (settled A f -ℤ held_to_take A f.name) is.inf (inf_is A sound f) in
    let greatest = sup_unique A f row.sup (settled A f +ℤ held_to_add A f.name) is.sup (sup_is A sound f) in
    let low = r.0 in
    let inf = r.1 in
    let sup = r.2 in
    let high = r.3 in
    let value_is = is.value in (
      (
        f.name,
        record {
          start = f.start;
          quantity = record {
            lo = f.lo;
            hi = f.hi;
            value = nat_abs
                (settled A f);
            held_to_take = nat_abs (held_to_take A f.name);
            held_to_add = nat_abs (held_to_add A f.name);
          };
        },
      ),
      record {
        branch = good.branch;
        article = good.article;
        start = good.start;
        branch_is = is.branch;
        article_is = is.article;
        start_is = is.start;
        quantity = record {
          bounded = record { low = omega (arith, ints); high = omega (arith, ints) };
          greatest = good.hi;
          lo = is.lo;
          hi = is.hi;
          value = omega (arith, ints);
          inf = omega (arith, ints);
          sup = omega (arith, ints);
        };
      },
    )

-- what is told of a field, said of the ledger's field
pub good_field : (e : Name × FieldEntry) (row : FieldRow) → IsFieldTold e row → IsGoodField (field_of e)
good_field e row told = grind arith

pub tells_field : (e : Name × FieldEntry) (row : FieldRow) → IsFieldTold e row
    → TellsField (field_of e) (field_cells row)
tells_field e row told = record {
  branch = told.branch_is;
  article = told.article_is;
  lo = told.quantity.lo;
  hi = told.quantity.hi;
  start = told.start_is;
}

pub told_bounded : (es : List (Name × FieldEntry)) (rows : List FieldRow) → AllZip IsFieldTold es rows
    → Each (λ e. IsBounded e.1.quantity) es
told_bounded [] rows told = tt
told_bounded (e ∷ es) [] told = absurd told
told_bounded (e ∷ es) (r ∷ rows) told = (told.0.quantity.bounded, told_bounded es rows told.1)

pub told_rows : (es : List (Name × FieldEntry)) (rows : List FieldRow) → AllZip IsFieldTold es rows
    → map entry_row es ≡ map field_cells rows
told_rows [] [] told = refl
told_rows [] (r ∷ rows) told = absurd told
told_rows (e ∷ es) [] told = absurd told
told_rows (e ∷ es) (r ∷ rows) told = let more = told_rows es rows told.1 in cc

pub fields_told : (A : Ledger) (rows : List FieldRow) → Good A → AllZip (IsFieldRow A) A.fields (map field_cells rows)
    → Each (λ row. (e : Name × FieldEntry) × IsFieldTold e row) rows
fields_told A rows g z =
    each_zip (IsFieldRow A) field_cells (λ f. IsGoodField f × AreInOrder A f) (λ row. (e : Name × FieldEntry) × IsFieldTold e row)
    (λ f row good is. field_told A f row g good.0 good.1 is) A.fields rows
    (each-two IsGoodField (AreInOrder A) A.fields g.fields (in_order A g)) z

pub moves_told : (A : Ledger) (rows : List MoveRow) → Good A → map move_cells rows ≡ map move_row A.moves
    → Each (λ row. (e : MoveEntry) × IsMoveTold e row) rows
moves_told A rows g e = each_row move_row move_cells (IsGoodMove A) (λ row. (e : MoveEntry) × IsMoveTold e row)
    (λ m row good is. let codes = named_codes m.field A.fields g.fields good.field in (
      record { place = m.place; branch = m.field.branch; article = m.field.article; amount = m.amount },
      record { branch = codes.0; article = codes.1; cells = is },
    ))
    A.moves rows g.moves e

pub heads_told : (A : Ledger) (rows : List OrderRow) → Good A → map order_cells rows ≡ map order_row A.orders
    → Each (λ row. (h : Head) × IsHeadTold h row) rows
heads_told A rows g e = each_row order_row order_cells (IsGoodOrder A) (λ row. (h : Head) × IsHeadTold h row)
    (λ o row good is. (head_of o, record { number = good.number; until = good.until; cells = is })) A.orders rows g.orders e

pub kept_told : (A : Ledger) (rows : List KeptRow) → Good A → map kept_cells rows ≡ map kept_row A.kept
    → Each (λ row. (e : List ℕ × KeptEntry) × IsKeptTold e row) rows
kept_told A rows g e = each_row kept_row kept_cells IsGoodKept (λ row. (e : List ℕ × KeptEntry) × IsKeptTold e row)
    (λ k row good is. (
      (k.key, record { place = k.place; words = k.command }),
      record { key = good.key; command = good.command; cells = is },
    )) A.kept rows g.kept e

-- a line in range that the cells tell
record Line_told (cells : LineCells) : Type 0 where
  line : Line
  branch : IsBranch line.branch
  article : IsArticle line.article
  held : IsLevel line.held
  used : IsLevel line.used
  tells : TellsLine line cells

lines_each : (A : Ledger) (n nr : ℕ) (ls : List Line) → Good A → Each (IsGoodLine A) ls
    → Each Line_told (lines_from n nr ls)
lines_each A n nr [] g good = tt
lines_each A n nr (l ∷ ls) g good =
    let more = lines_each A n (nr + 1) ls g good.1 in
    grind (arith, (named_codes (line_name l) A.fields g.fields good.0.field))

orders_each : (A : Ledger) (os : List Order) → Good A → Each (IsGoodOrder A) os
    → Each Line_told (flat_map order_lines os)
orders_each A [] g good = tt
orders_each A (o ∷ os) g good =
    each-join _ (order_lines o) (flat_map order_lines os) (lines_each A o.number 1 o.lines g good.0.lines)
    (orders_each A os g good.1)

pub lines_told : (A : Ledger) (rows : List LineRow) → Good A → map line_cells rows ≡ flat_map order_lines A.orders
    → Each (λ row. (l : Line) × IsLineTold l row) rows
lines_told A rows g e = grind (arith, each-imp, each-unmap, orders_each)

-- ---- rows, all together

pub rows_of : {E Y X V : Type 0} (P : E → Y → Type 0) (view : E → X) (row : X → V) (cells : Y → V)
    → ((e : E) (y : Y) → P e y → cells y ≡ row (view e)) → (es : List E) (ys : List Y) → AllZip P es ys
    → map cells ys ≡ map row (map view es)
rows_of P view row cells to [] [] z = refl
rows_of P view row cells to [] (y ∷ ys) z = absurd z
rows_of P view row cells to (e ∷ es) [] z = absurd z
rows_of P view row cells to (e ∷ es) (y ∷ ys) z =
    let a = to e y z.0 in let b = rows_of P view row cells to es ys z.1 in λ i. a i ∷ b i

heads_rows : (os : List Order) → map head_row (map head_of os) ≡ map order_row os
heads_rows [] = refl
heads_rows (o ∷ os) = ap (λ rows. order_row o ∷ rows) (heads_rows os)

marks_rows : (os : List Order) → flat_map mark_rows (map head_of os) ≡ flat_map firm_rows os
marks_rows [] = refl
marks_rows (o ∷ os) = ap (λ rows. firm_rows o ++ rows) (marks_rows os)

pub heads_cells : (hs : List Head) (rows : List OrderRow) → AllZip IsHeadTold hs rows
    → map order_cells rows ≡ map head_row hs
heads_cells [] [] z = refl
heads_cells [] (r ∷ rows) z = absurd z
heads_cells (h ∷ hs) [] z = absurd z
heads_cells (h ∷ hs) (r ∷ rows) z = let a = z.0.cells in let b = heads_cells hs rows z.1 in λ i. a i ∷ b i

head_numbers : (os : List Order) → map (λ h. h.number) (map head_of os) ≡ map (λ o. o.number) os
head_numbers [] = refl
head_numbers (o ∷ os) = ap (λ ns. o.number ∷ ns) (head_numbers os)

-- The heads that the rows of orders in the order of their numbers tell are those of the orders.
pub heads_same : (hs : List Head) (os : List Order) → IsStrictlySortedBy nat_cmp (map (λ o. o.number) os)
    → TellHeads hs (map order_row os) (flat_map firm_rows os) → map head_of os ≡ hs
heads_same hs os sorted told =
    same_heads (map head_of os) hs (subst (IsStrictlySortedBy nat_cmp) (sym (head_numbers os)) sorted)
    (heads_rows os ∙ sym told.orders_are) (marks_rows os ∙ sym told.firms_are)

-- orders with these heads have their rows
pub orders_rows : (hs : List Head) (os : List Order) → map head_of os ≡ hs
    → TellHeads hs (map order_row os) (flat_map firm_rows os)
orders_rows hs os e = record {
  orders_are = ap (map head_row) (sym e) ∙ heads_rows os;
  firms_are = ap (flat_map mark_rows) (sym e) ∙ marks_rows os;
}

-- orders that heads and lines tell have the rows that tell these heads and lines
pub rows_of_orders : (hs : List Head) (os : List Order) (orders : List OrderCells) (lines : List LineCells)
    (firms : List FirmCells)
    → TellHeads hs orders firms → TellOrders os hs lines → AreRowsOfOrders os orders lines firms
rows_of_orders hs os orders lines firms heads told =
    let have = orders_rows hs os told.heads_are in
    record {
      orders_are = sym heads.orders_are ∙ have.orders_are;
      lines_are = sym told.lines_are;
      firms_are = sym heads.firms_are ∙ have.firms_are;
    }

-- the heads that a good ledger's rows tell, and the rows of its lines, tell its orders
pub orders_told : (A : Ledger) (hs : List Head) (orders : List OrderCells) (lines : List LineCells) (firms : List FirmCells)
    → Good A → TellHeads hs orders firms → AreRowsOfOrders A.orders orders lines firms → TellOrders A.orders hs lines
orders_told A hs orders lines firms g heads rows = record {
  heads_are =
      heads_same hs A.orders g.orders_in_order
      (record { orders_are = heads.orders_are ∙ rows.orders_are; firms_are = heads.firms_are ∙ rows.firms_are });
  lines_are = sym rows.lines_are;
}

-- the heads that a good ledger's rows of orders tell are marked by those of its firm orders
pub marked_by : (A : Ledger) (hs : List Head) (rows : List OrderRow) → Good A → AllZip IsHeadTold hs rows
    → map order_cells rows ≡ map order_row A.orders → Marked (map head_row hs) (flat_map firm_rows A.orders)
marked_by A hs rows g told e = record {
  heads = map head_of A.orders;
  sorted = subst (IsStrictlySortedBy nat_cmp) (sym (head_numbers A.orders)) g.orders_in_order;
  same = heads_rows A.orders ∙ sym e ∙ heads_cells hs rows told;
  rows = marks_rows A.orders;
}
