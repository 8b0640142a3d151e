-- Heads of orders that the rows of firm orders mark.
use Rattle.ledger.proofs.Prelude.{FirmCells, IsStrictlySortedBy, Less, List, Option, OrderCells, Some, [], ap}
use Rattle.ledger.proofs.Prelude.{append-nil, arith, drop, false, firm_cells, firm_row, flat_map, flat_map-append}
use Rattle.ledger.proofs.Prelude.{get_or, get_or_from_slice_get, if◌then◌else◌, length, length-drop, map, map-append}
use Rattle.ledger.proofs.Prelude.{nat_cmp, pos, refl, set, slice_get, slice_get_within, subst, suc, sym, take, take_all}
use Rattle.ledger.proofs.Prelude.{true, zero, ℕ, ◌++◌, ◌+◌, ◌<◌, ◌∙◌, ◌∷◌, ◌≡◌, ◌≤◌}
use Rattle.ledger.specs.declared.rows.FirmRow.{FirmRow}
use Rattle.book.proofs.Prelude.{Head, head_row, mark_rows}
use Rattle.std.proofs.Math.ListN.{drop_of_length-le}
use Rattle.std.proofs.Math.Seq.{map-set_same}
use Rattle.std.proofs.lemmas.List.{take_more_set}
use Rattle.book.specs.inner.RowEntries.{Marks}
use Rattle.book.proofs.LineGroups.{drop-step}
use Rattle.ledger.proofs.Lists.{each-unmap, get-of-map, length-of-map, read-step}
use Rattle.ledger.proofs.Sums.{each-imp, less_is}
use Rattle.ledger.proofs.EqualRows.{MarkOthers, later_marks, same_first, same_mark, same_pos, same_rest}

-- there are heads in the order of their numbers with these rows of orders, and these rows mark them
pub record Marked (cells : List OrderCells) (marks : List FirmCells) : Type 0 where
  pub heads : List Head
  pub sorted : IsStrictlySortedBy nat_cmp (map (λ h. h.number) heads)
  pub same : map head_row heads ≡ cells
  pub rows : flat_map mark_rows heads ≡ marks

marks_after : (h : Head) (hs : List Head) → IsStrictlySortedBy nat_cmp (map (λ h. h.number) (h ∷ hs))
    → MarkOthers h.number (flat_map mark_rows hs)
unfolding IsStrictlySortedBy
marks_after h hs sorted =
    later_marks (λ (m : Head). m.number) (λ m. m.firm) h.number hs
    (each-imp (λ m e. less_is h.number m.number e) hs
    (each-unmap (λ n. nat_cmp h.number n ≡ Less) (λ m. m.number) hs sorted.0))

same_numbers : (hs ks : List Head) → map head_row hs ≡ map head_row ks → map (λ h. h.number) hs ≡ map (λ h. h.number) ks
same_numbers [] [] e = refl
same_numbers [] (k ∷ ks) e = absurd (cc)
same_numbers (h ∷ hs) [] e = absurd (cc)
same_numbers (h ∷ hs) (k ∷ ks) e =
    grind (arith, (same_numbers hs ks (same_rest (head_row h) (head_row k) (map head_row hs) (map head_row ks) e)))

same_head : (h k : Head) → head_row h ≡ head_row k → h.firm ≡ k.firm → h ≡ k
same_head h k e firm = grind arith

-- heads with the same rows of orders, marked by the same rows, are the same
heads_once : (hs ks : List Head) → IsStrictlySortedBy nat_cmp (map (λ h. h.number) hs)
    → IsStrictlySortedBy nat_cmp (map (λ h. h.number) ks) → map head_row hs ≡ map head_row ks
    → flat_map mark_rows hs ≡ flat_map mark_rows ks → hs ≡ ks
unfolding IsStrictlySortedBy
heads_once [] [] s t e m = refl
heads_once [] (k ∷ ks) s t e m = absurd (cc)
heads_once (h ∷ hs) [] s t e m = absurd (cc)
heads_once (h ∷ hs) (k ∷ ks) s t e m =
    let row = same_first (head_row h) (head_row k) (map head_row hs) (map head_row ks) e in
    let number = same_pos h.number k.number (ap (λ (r : OrderCells). r.number) row) in
    let marks = same_mark h.number h.firm k.firm (flat_map mark_rows hs) (flat_map mark_rows ks) (marks_after h hs s)
    (subst (λ n. MarkOthers n (flat_map mark_rows ks)) (sym number) (marks_after k ks t))
    (m ∙ ap (λ n. (if k.firm then firm_row n ∷ [] else []) ++ flat_map mark_rows ks) (sym number)) in
    let first = same_head h k row marks.0 in
    let more = heads_once hs ks s.1 t.1 (same_rest (head_row h) (head_row k) (map head_row hs) (map head_row ks) e) marks.1 in
    λ i. first i ∷ more i

pub same_heads : (hs ks : List Head) → IsStrictlySortedBy nat_cmp (map (λ h. h.number) hs)
    → map head_row hs ≡ map head_row ks → flat_map mark_rows hs ≡ flat_map mark_rows ks → hs ≡ ks
same_heads hs ks s e m = heads_once hs ks s (subst (IsStrictlySortedBy nat_cmp) (same_numbers hs ks e) s) e m

-- what is behind the first of the heads, where the rows that are left tell whether it is marked
behind : (c : OrderCells) (cells : List OrderCells) (marks rest : List FirmCells)
    → ((h : Head) (hs : List Head) → c.number ≡ pos h.number → MarkOthers h.number (flat_map mark_rows hs)
    → mark_rows h ++ flat_map mark_rows hs ≡ marks → flat_map mark_rows hs ≡ rest)
    → Marked (c ∷ cells) marks → Marked cells rest
unfolding IsStrictlySortedBy
behind c cells marks rest rows t = by t.heads t.sorted t.same t.rows
  where
    by : (hs : List Head) → IsStrictlySortedBy nat_cmp (map (λ h. h.number) hs) → map head_row hs ≡ c ∷ cells
        → flat_map mark_rows hs ≡ marks → Marked cells rest
    by [] sorted same e = absurd (cc)
    by (h ∷ hs) sorted same e = record {
      heads = hs;
      sorted = sorted.1;
      same = same_rest (head_row h) c (map head_row hs) cells same;
      rows =
          rows h hs (sym (ap (λ (r : OrderCells). r.number) (same_first (head_row h) c (map head_row hs) cells same)))
          (marks_after h hs sorted) e;
    }

-- the first row names the first head
named_first : (c : OrderCells) (cells : List OrderCells) (m : FirmCells) (marks : List FirmCells) → m.number ≡ c.number
    → Marked (c ∷ cells) (m ∷ marks) → Marked cells marks
named_first c cells m marks named t = grind (arith, behind, MarkOthers, same_rest)

-- no first row names the first head
unnamed_first : (c : OrderCells) (cells : List OrderCells) (marks : List FirmCells)
    → ((m : FirmCells) (rest : List FirmCells) → marks ≡ m ∷ rest → m.number ≡ c.number → ⊥) → Marked (c ∷ cells) marks
    → Marked cells marks
unnamed_first c cells marks unnamed t = grind (arith, behind)

-- ---- the rows that are left

-- the row that marks a head
pub record MarkingRow (row : Option FirmRow) (n : ℕ) : Type 0 where
  pub it : FirmRow
  pub is : row ≡ Some it
  pub number : it.number ≡ pos n

pub marking_row : (row : Option FirmRow) (n : ℕ) → Marks row n → MarkingRow row n
marking_row row n h = grind arith

-- where the rows that are left begin with one of that number
marks_there : (rows : List FirmRow) (i n : ℕ) (m : FirmCells) (rest : List FirmCells)
    → map firm_cells (drop i rows) ≡ m ∷ rest → m.number ≡ pos n → Marks (slice_get rows i) n
marks_there [] zero n m rest e named = absurd (cc)
marks_there [] (suc i) n m rest e named = absurd (cc)
marks_there (r ∷ rows) zero n m rest e named = ap (λ (m : FirmCells). m.number) (same_first _ _ _ _ e) ∙ named
marks_there (r ∷ rows) (suc i) n m rest e named = marks_there rows i n m rest e named

-- a head is marked
pub left_if_named : (c : OrderCells) (cells : List OrderCells) (rows : List FirmRow) (i n : ℕ) → c.number ≡ pos n
    → Marks (slice_get rows i) n → Marked (c ∷ cells) (map firm_cells (drop i rows))
    → Marked cells (map firm_cells (drop (i + 1) rows))
left_if_named c cells rows i n is named t =
    let row = marking_row (slice_get rows i) n named in
    let within = slice_get_within rows i row.it row.is in
    let cut =
    drop-step rows i row.it within
    ∙ ap (λ (r : FirmRow). r ∷ drop (i + 1) rows) (get_or_from_slice_get rows i row.it row.it row.is) in
    named_first c cells (firm_cells row.it) (map firm_cells (drop (i + 1) rows)) (row.number ∙ sym is)
    (subst (λ (left : List FirmRow). Marked (c ∷ cells) (map firm_cells left)) cut t)

-- a head is not marked
pub left_if_unnamed : (c : OrderCells) (cells : List OrderCells) (rows : List FirmRow) (i n : ℕ) → c.number ≡ pos n
    → (Marks (slice_get rows i) n → ⊥) → Marked (c ∷ cells) (map firm_cells (drop i rows))
    → Marked cells (map firm_cells (drop i rows))
left_if_unnamed c cells rows i n is unnamed t =
    unnamed_first c cells (map firm_cells (drop i rows))
    (λ m rest e named. unnamed (marks_there rows i n m rest e (named ∙ is))) t

-- no heads are left, and no rows
none_left : (marks : List FirmCells) → Marked [] marks → marks ≡ []
none_left marks t = by t.heads t.same t.rows
  where
    by : (hs : List Head) → map head_row hs ≡ [] → flat_map mark_rows hs ≡ marks → marks ≡ []
    by [] same e = sym e
    by (h ∷ hs) same e = absurd (cc)

-- ---- a walk over the heads

-- The heads so far are marked by the rows so far, and whatever heads all the rows mark, those left are marked by the rows
-- that are left.
pub record MarkedSoFar (cells : List OrderCells) (heads : List Head) (i : ℕ) (rows : List FirmRow) (next : ℕ) : Type 0 where
  pub within : next ≤ length rows
  pub same : map head_row heads ≡ cells
  pub marked : flat_map mark_rows (take i heads) ≡ map firm_cells (take next rows)
  pub left : Marked cells (map firm_cells rows) → Marked (drop i cells) (map firm_cells (drop next rows))

-- the heads so far, with the one at hand
set_rows : (hs : List Head) (i : ℕ) (h : Head) → i < length hs
    → flat_map mark_rows (take (i + 1) (set hs i h)) ≡ flat_map mark_rows (take i hs) ++ mark_rows h
set_rows hs i h within =
    ap (flat_map mark_rows) (take_more_set hs i h within) ∙ flat_map-append mark_rows (take i hs) (h ∷ [])
    ∙ ap (λ rs. flat_map mark_rows (take i hs) ++ rs) (append-nil (mark_rows h))

-- the row of the head at hand, and those behind it
cells_here : (cells : List OrderCells) (hs : List Head) (i : ℕ) (d : Head) → map head_row hs ≡ cells → i < length hs
    → drop i cells ≡ head_row (get_or hs i d) ∷ drop (i + 1) cells
cells_here cells hs i d same within =
    let long = length-of-map head_row hs in
    let as_long = ap (λ (cs : List OrderCells). length cs) same in
    drop-step cells i (head_row d) (omega arith)
    ∙ ap (λ (c : OrderCells). c ∷ drop (i + 1) cells)
    (ap (λ (cs : List OrderCells). get_or cs i (head_row d)) (sym same)
    ∙ get-of-map head_row hs i d (head_row d) within)

-- the head at hand, with its mark: a row names it
pub step_if_named : (cells : List OrderCells) (hs : List Head) (i : ℕ) (d h : Head) (rows : List FirmRow) (next : ℕ)
    → MarkedSoFar cells hs i rows next → i < length hs → head_row h ≡ head_row (get_or hs i d) → h.firm ≡ true
    → Marks (slice_get rows next) h.number
    → MarkedSoFar cells (set hs i h) (i + 1) rows (next + 1)
step_if_named cells hs i d h rows next so_far within same firm named =
    let row = marking_row (slice_get rows next) h.number named in
    let there = slice_get_within rows next row.it row.is in
    let one : mark_rows h ≡ firm_cells row.it ∷ [] =
    ap (λ b. if b then firm_row h.number ∷ [] else []) firm
    ∙ ap (λ n. record { number = n } ∷ []) (sym row.number) in
    record {
      within = omega arith;
      same = map-set_same head_row hs i h d same ∙ so_far.same;
      marked =
          set_rows hs i h within ∙ ap (λ rs. rs ++ mark_rows h) so_far.marked
          ∙ ap (λ rs. map firm_cells (take next rows) ++ rs) one
          ∙ sym (map-append firm_cells (take next rows) (row.it ∷ []))
          ∙ ap (map firm_cells) (sym (read-step rows next row.it row.is));
      left = λ t. left_if_named (head_row h) (drop (i + 1) cells) rows next h.number refl named
          (subst (λ cs. Marked cs (map firm_cells (drop next rows)))
          (cells_here cells hs i d so_far.same within ∙ ap (λ (c : OrderCells). c ∷ drop (i + 1) cells) (sym same))
          (so_far.left t));
    }

-- no row names it
pub step_if_unnamed : (cells : List OrderCells) (hs : List Head) (i : ℕ) (d h : Head) (rows : List FirmRow) (next : ℕ)
    → MarkedSoFar cells hs i rows next → i < length hs → head_row h ≡ head_row (get_or hs i d) → h.firm ≡ false
    → (Marks (slice_get rows next) h.number → ⊥)
    → MarkedSoFar cells (set hs i h) (i + 1) rows next
step_if_unnamed cells hs i d h rows next so_far within same firm unnamed =
    grind (arith, map-set_same, set_rows, append-nil, left_if_unnamed, cells_here)

-- at the end of the heads no row is left
pub all_named : (cells : List OrderCells) (hs : List Head) (i : ℕ) (rows : List FirmRow) (next : ℕ)
    → MarkedSoFar cells hs i rows next → length hs ≤ i → Marked cells (map firm_cells rows) → next ≡ length rows
all_named cells hs i rows next so_far past t =
    let heads = length-of-map head_row hs in
    let as_long = ap (λ (cs : List OrderCells). length cs) so_far.same in
    let past_cells : length cells ≤ i = omega arith in
    let none =
    ap (λ (rs : List FirmCells). length rs)
    (none_left (map firm_cells (drop next rows))
    (subst (λ cs. Marked cs (map firm_cells (drop next rows))) (drop_of_length-le cells past_cells)
    (so_far.left t))) in
    let left = length-of-map firm_cells (drop next rows) in
    let long = length-drop next rows in
    omega arith

-- and then all rows mark all heads
pub all_marked : (cells : List OrderCells) (hs : List Head) (i : ℕ) (rows : List FirmRow) (next : ℕ)
    → MarkedSoFar cells hs i rows next → length hs ≤ i → next ≡ length rows
    → flat_map mark_rows hs ≡ map firm_cells rows
all_marked cells hs i rows next so_far past all = grind (arith, take_all)
