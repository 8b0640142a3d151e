-- The rows of a good ledger: one content, in the order of their keys, and equal rows of equal ledgers.
use Rattle.ledger.proofs.Prelude.{AllZip, AreOthers, Bool, Content, Each, Field, FieldCells, FirmCells, Good}
use Rattle.ledger.proofs.Prelude.{IsFieldRow, IsGoodKept, IsRowsOf, IsStrictlySortedBy, Kept, Kind, Ledger, Less, Line}
use Rattle.ledger.proofs.Prelude.{LineCells, List, Move, Order, Ordering, State, TellsField, [], ap, arith}
use Rattle.ledger.proofs.Prelude.{common_steps, desk_row, field_cmp, field_row, firm_cmp, firm_row, firm_rows, flat_map}
use Rattle.ledger.proofs.Prelude.{if◌then◌else◌, int_cmp_total, ints, kept_cmp, kept_row, line_cmp, line_row}
use Rattle.ledger.proofs.Prelude.{lines_from, map, move_cmp, move_row, name_cmp, nat_cmp, order_cmp, order_lines}
use Rattle.ledger.proofs.Prelude.{order_row, pos, refl, spelling_one, subst, sym, tied_itself, ℕ, ◌++◌, ◌+◌, ◌<◌, ◌∙◌}
use Rattle.ledger.proofs.Prelude.{◌∷◌, ◌≡◌}
use Rattle.ledger.specs.inner.ToldLedgers.{TellsLedger}
use Rattle.ledger.specs.Rows.{IsInKeyOrder, kind_code, state_code}
use Rattle.ledger.proofs.Sums.{each-imp, each-map, less_is}
use Rattle.ledger.proofs.Falls.{sounds_from_good}
use Rattle.ledger.proofs.Lists.{each-unmap}
use Rattle.std.specs.Ordering.{int_cmp}
use Rattle.ledger.proofs.Bounds.{inf_is, inf_unique, sup_is, sup_unique}

-- ---- two good ledgers with equal rows are equal, and so is whatever the same rows tell

pub same_pos : (a b : ℕ) → pos a ≡ pos b → a ≡ b
same_pos a b e = omega (arith, ints)

pub same_first : {X : Type 0} (x y : X) (xs ys : List X) → x ∷ xs ≡ y ∷ ys → x ≡ y
same_first x y xs ys e = cc

pub same_rest : {X : Type 0} (x y : X) (xs ys : List X) → x ∷ xs ≡ y ∷ ys → xs ≡ ys
same_rest x y xs ys e = cc

pub map_tells : {X Y : Type 0} (P : X → Type 0) (f : X → Y) → ((a b : X) → P a → P b → f a ≡ f b → a ≡ b)
    → (xs ys : List X) → Each P xs → Each P ys → map f xs ≡ map f ys → xs ≡ ys
map_tells P f one [] [] h k e = refl
map_tells P f one [] (y ∷ ys) h k e = absurd (cc)
map_tells P f one (x ∷ xs) [] h k e = absurd (cc)
map_tells P f one (x ∷ xs) (y ∷ ys) h k e =
    grind (
      arith,
      ints,
      common_steps,
      (map_tells P f one xs ys h.1 k.1 (same_rest (f x) (f y) (map f xs) (map f ys) e)),
      same_first,
      same_rest,
    )

-- fields

same_field : (f g : Field) (row : FieldCells) → TellsField f row → TellsField g row → f ≡ g
same_field f g row h k = grind arith

same_fields : (fs gs : List Field) (rows : List FieldCells) → AllZip TellsField fs rows → AllZip TellsField gs rows
    → fs ≡ gs
same_fields [] [] rows h k = refl
same_fields [] (g ∷ gs) [] h k = absurd k
same_fields [] (g ∷ gs) (r ∷ rows) h k = absurd h
same_fields (f ∷ fs) gs [] h k = absurd h
same_fields (f ∷ fs) [] (r ∷ rows) h k = absurd k
same_fields (f ∷ fs) (g ∷ gs) (r ∷ rows) h k = grind (arith, ints, common_steps, (same_fields fs gs rows h.1 k.1), same_field)

fields_tell : (A : Ledger) (fs : List Field) (rows : List FieldCells) → AllZip (IsFieldRow A) fs rows
    → AllZip TellsField fs rows
fields_tell A [] [] h = tt
fields_tell A [] (r ∷ rows) h = absurd h
fields_tell A (f ∷ fs) [] h = absurd h
fields_tell A (f ∷ fs) (r ∷ rows) h = (
  record { branch = h.0.branch; article = h.0.article; lo = h.0.lo; hi = h.0.hi; start = h.0.start },
  fields_tell A fs rows h.1,
)

-- moves

same_move : (m n : Move) → move_row m ≡ move_row n → m ≡ n
same_move m n e = grind arith

-- codes

pub same_kind : (k j : Kind) → kind_code k ≡ kind_code j → k ≡ j
same_kind b x e = grind arith

pub same_state : (s t : State) → state_code s ≡ state_code t → s ≡ t
same_state c b e = grind arith

-- lines and orders

same_lines : (n nr : ℕ) (ls ms : List Line) (rest others : List LineCells) → AreOthers n rest → AreOthers n others
    → lines_from n nr ls ++ rest ≡ lines_from n nr ms ++ others → (ls ≡ ms) × (rest ≡ others)
same_lines n nr [] [] rest others p q e = (refl, e)
same_lines n nr [] (m ∷ ms) rest others p q e = absurd (grind arith)
same_lines n nr (l ∷ ls) [] rest others p q e = absurd (grind arith)
same_lines n nr (l ∷ ls) (m ∷ ms) rest others p q e =
    grind (arith, (same_lines n (nr + 1) ls ms rest others p q (same_rest _ _ _ _ e)))

pub each-join : {X : Type 0} (P : X → Type 0) (xs ys : List X) → Each P xs → Each P ys → Each P (xs ++ ys)
each-join P [] ys h k = k
each-join P (x ∷ xs) ys h k = (h.0, each-join P xs ys h.1 k)

lines_number : (n m nr : ℕ) (ls : List Line) → n < m → AreOthers n (lines_from m nr ls)
lines_number n m nr [] h = tt
lines_number n m nr (l ∷ ls) h = ((λ e. omega (arith, ints)), lines_number n m (nr + 1) ls h)

pub others_after : (n : ℕ) (os : List Order) → Each (λ o. n < o.number) os → AreOthers n (flat_map order_lines os)
others_after n [] h = tt
others_after n (o ∷ os) h =
    each-join _ (order_lines o) (flat_map order_lines os) (lines_number n o.number 1 o.lines h.0) (others_after n os h.1)

-- none marks the order of that number
abbrev pub MarkOthers : ℕ → List FirmCells → Type 0
MarkOthers number rows = Each (λ row. row.number ≡ pos number → ⊥) rows

-- whatever it is that has the numbers, and is firm or not
pub later_marks : {X : Type 0} (number : X → ℕ) (firm : X → Bool) (n : ℕ) (xs : List X) → Each (λ x. n < number x) xs
    → MarkOthers n (flat_map (λ x. if firm x then firm_row (number x) ∷ [] else []) xs)
later_marks number firm n [] h = tt
later_marks number firm n (x ∷ xs) h = grind (arith, (later_marks number firm n xs h.1))

pub same_mark : (n : ℕ) (a b : Bool) (rest others : List FirmCells) → MarkOthers n rest → MarkOthers n others
    → (if a then firm_row n ∷ [] else []) ++ rest ≡ (if b then firm_row n ∷ [] else []) ++ others
    → (a ≡ b) × (rest ≡ others)
same_mark n a b rest others p q e = grind arith

pub after : (o : Order) (os : List Order) → Each (λ n. nat_cmp o.number n ≡ Less) (map (λ o. o.number) os)
    → Each (λ m. o.number < m.number) os
after o os h = grind (arith, ints, common_steps, each-imp, less_is, each-unmap)

marks_after : (o : Order) (os : List Order) → Each (λ m. o.number < m.number) os
    → MarkOthers o.number (flat_map firm_rows os)
marks_after o os h = later_marks (λ (m : Order). m.number) (λ m. m.firm) o.number os h

same_orders : (os ps : List Order) → IsStrictlySortedBy nat_cmp (map (λ o. o.number) os)
    → IsStrictlySortedBy nat_cmp (map (λ o. o.number) ps) → map order_row os ≡ map order_row ps
    → flat_map order_lines os ≡ flat_map order_lines ps
    → flat_map firm_rows os ≡ flat_map firm_rows ps → os ≡ ps
unfolding IsStrictlySortedBy
same_orders [] [] h k e d m = refl
same_orders [] (p ∷ ps) h k e d m = absurd (cc)
same_orders (o ∷ os) [] h k e d m = absurd (cc)
same_orders (o ∷ os) (p ∷ ps) h k e d m =
    let row = same_first (order_row o) (order_row p) (map order_row os) (map order_row ps) e in
    let n = same_pos o.number p.number (ap (λ r. r.number) row) in
    let ki = same_kind o.kind p.kind (ap (λ r. r.kind) row) in
    let u = same_pos o.until p.until (ap (λ r. r.until) row) in
    let s = same_state o.state p.state (ap (λ r. r.state) row) in
    let ls = same_lines o.number 1 o.lines p.lines (flat_map order_lines os) (flat_map order_lines ps)
    (others_after o.number os (after o os h.0))
    (subst (λ n. AreOthers n (flat_map order_lines ps)) (sym n) (others_after p.number ps (after p ps k.0)))
    (d ∙ ap (λ n. lines_from n 1 p.lines ++ flat_map order_lines ps) (sym n)) in
    let marked = same_mark o.number o.firm p.firm (flat_map firm_rows os) (flat_map firm_rows ps)
    (marks_after o os (after o os h.0))
    (subst (λ n. MarkOthers n (flat_map firm_rows ps)) (sym n) (marks_after p ps (after p ps k.0)))
    (m ∙ ap (λ n. (if p.firm then firm_row n ∷ [] else []) ++ flat_map firm_rows ps) (sym n)) in
    let more =
    same_orders os ps h.1 k.1 (same_rest (order_row o) (order_row p) (map order_row os) (map order_row ps) e) ls.1
    marked.1 in
    λ i. record { number = n i; kind = ki i; until = u i; state = s i; firm = marked.0 i; lines = ls.0 i } ∷ more i

same_kept : (k j : Kept) → IsGoodKept k → IsGoodKept j → kept_row k ≡ kept_row j → k ≡ j
same_kept k j g h e =
    grind (
      arith,
      (same_pos k.place j.place (ap (λ r. r.place) e)),
      (spelling_one k.command j.command g.command h.command (ap (λ r. r.words) e)),
    )

any : {X : Type 0} (xs : List X) → Each (λ x. Unit {0}) xs
any [] = tt
any (x ∷ xs) = (tt, any xs)

same_numbers : (os ps : List Order) → map order_row os ≡ map order_row ps
    → map (λ o. o.number) os ≡ map (λ o. o.number) ps
same_numbers [] [] e = refl
same_numbers [] (p ∷ ps) e = absurd (cc)
same_numbers (o ∷ os) [] e = absurd (cc)
same_numbers (o ∷ os) (p ∷ ps) e =
    let more = same_numbers os ps (same_rest (order_row o) (order_row p) (map order_row os) (map order_row ps) e) in
    grind arith

pub rows_tell : (A : Ledger) (C : Content) → IsRowsOf A C → TellsLedger A C
rows_tell A C r = record {
  desk = r.desk;
  fields = fields_tell A A.fields C.fields r.fields;
  moves = r.moves;
  orders = r.orders;
  lines = r.lines;
  kept = r.kept;
  firms = r.firms;
}

-- a good ledger, and another of the same rows whose kept keys are in form
pub told_once : (A B : Ledger) (C : Content) → Good A → Each IsGoodKept B.kept → TellsLedger A C → TellsLedger B C
    → A ≡ B
told_once A B C g h r s =
    let rows = sym r.orders ∙ s.orders in
    let t = same_pos A.clock B.clock (ap (λ d. d.clock) (same_first (desk_row A) (desk_row B) [] [] (sym r.desk ∙ s.desk))) in
    let f = same_fields A.fields B.fields C.fields r.fields s.fields in
    let m =
    map_tells (λ _. Unit {0}) move_row (λ a b _ _ e. same_move a b e) A.moves B.moves (any A.moves) (any B.moves)
    (sym r.moves ∙ s.moves) in
    let o = same_orders A.orders B.orders g.orders_in_order (subst (IsStrictlySortedBy nat_cmp)
    (same_numbers A.orders B.orders rows) g.orders_in_order) rows (sym r.lines ∙ s.lines) (sym r.firms ∙ s.firms) in
    let k = map_tells IsGoodKept kept_row same_kept A.kept B.kept g.kept h (sym r.kept ∙ s.kept) in
    λ i. record { clock = t i; fields = f i; moves = m i; orders = o i; kept = k i }

pub told_by_rows : (A B : Ledger) (C : Content) → Good A → Good B → IsRowsOf A C → IsRowsOf B C → A ≡ B
told_by_rows A B C g h r s = told_once A B C g h.kept (rows_tell A C r) (rows_tell B C s)

-- ---- a good ledger has one content, and its rows stand in the order of their keys

pub pos_less : (a b : ℕ) → a < b → int_cmp (pos a) (pos b) ≡ Less
pos_less a b h = grind (arith, ints)

sorted-map : {X K R : Type 0} (key : X → K) (row : X → R) (c : K → K → Ordering) (d : R → R → Ordering) (xs : List X)
    → ((a b : X) → c (key a) (key b) ≡ Less → d (row a) (row b) ≡ Less) → IsStrictlySortedBy c (map key xs)
    → IsStrictlySortedBy d (map row xs)
unfolding IsStrictlySortedBy
sorted-map key row c d [] h sorted = tt
sorted-map key row c d (x ∷ xs) h sorted = (
  each-map (λ r. d (row x) r ≡ Less) row xs (each-imp (λ y e. h x y e) xs
      (each-unmap (λ k. c (key x) k ≡ Less) key xs sorted.0)),
  sorted-map key row c d xs h sorted.1,
)

fields_after : (A : Ledger) (f : Field) (x : FieldCells) (fs : List Field) (xs : List FieldCells) → IsFieldRow A f x
    → Each (λ g. name_cmp f.name g ≡ Less) (map (λ f. f.name) fs) → AllZip (IsFieldRow A) fs xs
    → Each (λ y. field_cmp x y ≡ Less) xs
fields_after A f x [] [] h k z = tt
fields_after A f x [] (y ∷ ys) h k z = absurd z
fields_after A f x (g ∷ gs) [] h k z = tt
fields_after A f x (g ∷ gs) (y ∷ ys) h k z =
    (rw (h.branch, h.article, z.0.branch, z.0.article) k.0, fields_after A f x gs ys h k.1 z.1)

pub fields_sorted : (A : Ledger) (fs : List Field) (xs : List FieldCells)
    → IsStrictlySortedBy name_cmp (map (λ f. f.name) fs) → AllZip (IsFieldRow A) fs xs
    → IsStrictlySortedBy field_cmp xs
unfolding IsStrictlySortedBy
fields_sorted A [] [] s z = tt
fields_sorted A [] (x ∷ xs) s z = absurd z
fields_sorted A (f ∷ fs) [] s z = tt
fields_sorted A (f ∷ fs) (x ∷ xs) s z = (fields_after A f x fs xs z.0 s.0 z.1, fields_sorted A fs xs s.1 z.1)

pub moves_sorted : (A : Ledger) → Good A → IsStrictlySortedBy move_cmp (map move_row A.moves)
moves_sorted A g = grind (arith, ints, common_steps, sorted-map, pos_less, less_is)

pub orders_sorted : (A : Ledger) → Good A → IsStrictlySortedBy order_cmp (map order_row A.orders)
orders_sorted A g = grind (arith, ints, common_steps, sorted-map, pos_less, less_is)

pub kept_sorted : (A : Ledger) → Good A → IsStrictlySortedBy kept_cmp (map kept_row A.kept)
kept_sorted A g = grind (arith, ints, common_steps, sorted-map)

lines_after : (n nr m : ℕ) (l : Line) (ls : List Line) → nr < m
    → Each (λ r. line_cmp (line_row n nr l) r ≡ Less) (lines_from n m ls)
lines_after n nr m l [] h = tt
lines_after n nr m l (k ∷ ks) h =
    (rw (tied_itself int_cmp_total (pos n)) (pos_less nr m h), lines_after n nr (m + 1) l ks (omega arith))

lines_of_later : (n nr m r : ℕ) (l : Line) (ls : List Line) → n < m
    → Each (λ row. line_cmp (line_row n nr l) row ≡ Less) (lines_from m r ls)
lines_of_later n nr m r l [] h = tt
lines_of_later n nr m r l (k ∷ ks) h = (rw (pos_less n m h) refl, lines_of_later n nr m (r + 1) l ks h)

later_orders : (n nr : ℕ) (l : Line) (os : List Order) → Each (λ o. n < o.number) os
    → Each (λ row. line_cmp (line_row n nr l) row ≡ Less) (flat_map order_lines os)
later_orders n nr l [] h = tt
later_orders n nr l (o ∷ os) h =
    each-join _ (order_lines o) (flat_map order_lines os) (lines_of_later n nr o.number 1 l o.lines h.0)
    (later_orders n nr l os h.1)

lines_sorted_from : (n nr : ℕ) (ls : List Line) (os : List Order) → Each (λ o. n < o.number) os
    → IsStrictlySortedBy line_cmp (flat_map order_lines os)
    → IsStrictlySortedBy line_cmp (lines_from n nr ls ++ flat_map order_lines os)
unfolding IsStrictlySortedBy
lines_sorted_from n nr [] os h s = s
lines_sorted_from n nr (l ∷ ls) os h s = (
  each-join _ (lines_from n (nr + 1) ls) (flat_map order_lines os) (lines_after n nr (nr + 1) l ls (omega arith))
      (later_orders n nr l os h),
  lines_sorted_from n (nr + 1) ls os h s,
)

later_firms : (n : ℕ) (os : List Order) → Each (λ o. n < o.number) os
    → Each (λ row. firm_cmp (firm_row n) row ≡ Less) (flat_map firm_rows os)
later_firms n [] h = tt
later_firms n (o ∷ os) h = grind (arith, (later_firms n os h.1))

pub firms_sorted : (os : List Order) → IsStrictlySortedBy nat_cmp (map (λ o. o.number) os)
    → IsStrictlySortedBy firm_cmp (flat_map firm_rows os)
unfolding IsStrictlySortedBy
firms_sorted [] s = tt
firms_sorted (o ∷ os) s = by o.firm (later_firms o.number os (after o os s.0)) (firms_sorted os s.1)
  where
    by : (b : Bool) → Each (λ row. firm_cmp (firm_row o.number) row ≡ Less) (flat_map firm_rows os)
        → IsStrictlySortedBy firm_cmp (flat_map firm_rows os)
        → IsStrictlySortedBy firm_cmp ((if b then firm_row o.number ∷ [] else []) ++ flat_map firm_rows os)
    by b later more = grind arith

pub lines_sorted : (os : List Order) → IsStrictlySortedBy nat_cmp (map (λ o. o.number) os)
    → IsStrictlySortedBy line_cmp (flat_map order_lines os)
unfolding IsStrictlySortedBy
lines_sorted [] s = tt
lines_sorted (o ∷ os) s =
    lines_sorted_from o.number 1 o.lines os (each-imp (λ m e. less_is o.number m.number e) os
    (each-unmap (λ n. nat_cmp o.number n ≡ Less) (λ o. o.number) os s.0)) (lines_sorted os s.1)

same_row : (A : Ledger) (f : Field) (x y : FieldCells) → IsFieldRow A f x → IsFieldRow A f y → x ≡ y
same_row A f x y h j = grind (arith, (inf_unique A f x.inf y.inf h.inf j.inf), (sup_unique A f x.sup y.sup h.sup j.sup))

same_rows : (A : Ledger) (fs : List Field) (xs ys : List FieldCells) → AllZip (IsFieldRow A) fs xs
    → AllZip (IsFieldRow A) fs ys → xs ≡ ys
same_rows A [] [] [] h k = refl
same_rows A [] (x ∷ xs) ys h k = absurd h
same_rows A [] [] (y ∷ ys) h k = absurd k
same_rows A (f ∷ fs) [] ys h k = absurd h
same_rows A (f ∷ fs) (x ∷ xs) [] h k = absurd k
same_rows A (f ∷ fs) (x ∷ xs) (y ∷ ys) h k = grind (arith, ints, common_steps, (same_rows A fs xs ys h.1 k.1), same_row)

pub one_content : (A : Ledger) (C D : Content) → IsRowsOf A C → IsRowsOf A D → C ≡ D
one_content A C D x y = grind (arith, (same_rows A A.fields C.fields D.fields x.fields y.fields))

field_rows : (A : Ledger) (fs : List Field) → Good A → AllZip (IsFieldRow A) fs (map (field_row A) fs)
field_rows A [] g = tt
field_rows A (f ∷ fs) g = (
  record {
    branch = refl;
    article = refl;
    lo = refl;
    hi = refl;
    start = refl;
    value = refl;
    inf = inf_is A
        (sounds_from_good A g) f;
    sup = sup_is A (sounds_from_good A g) f;
  },
  field_rows A fs g,
)

-- the rows of a good ledger
abbrev pub rows_of : Ledger → Content
rows_of A = record {
  desk = desk_row A ∷ [];
  fields = map (field_row A) A.fields;
  moves = map move_row A.moves;
  orders = map order_row A.orders;
  lines = flat_map order_lines A.orders;
  kept = map kept_row A.kept;
  firms = flat_map firm_rows A.orders;
}

pub rows_are : (A : Ledger) → Good A → IsRowsOf A (rows_of A)
rows_are A g = record {
  desk = refl;
  fields = field_rows A A.fields g;
  moves = refl;
  orders = refl;
  lines = refl;
  kept = refl;
  firms = refl;
}

pub a_content : (A : Ledger) → Good A → (C : Content) × IsRowsOf A C
a_content A g = (rows_of A, rows_are A g)

pub rows_in_order : (A : Ledger) (C : Content) → Good A → IsRowsOf A C → IsInKeyOrder C
rows_in_order A C g x =
    grind (
      arith,
      (moves_sorted A g),
      (orders_sorted A g),
      (lines_sorted A.orders g.orders_in_order),
      (kept_sorted A g),
      (firms_sorted A.orders g.orders_in_order),
      fields_sorted,
    )
