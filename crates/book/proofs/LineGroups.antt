-- Rows of lines in a row, order after order.
use Rattle.ledger.proofs.Prelude.{[], ◌++◌, ◌+◌, ◌<◌, ◌∙◌, ◌∷◌, ◌≡◌, ◌≤◌, AllZip, AreOthers, Each, IsStrictlySortedBy}
use Rattle.ledger.proofs.Prelude.{LineCells, List, Order, ap, append-nil, arith, common_steps, drop, flat_map}
use Rattle.ledger.proofs.Prelude.{flat_map-append, get_or, length, length-drop, line_cells, line_row, lines_from, map}
use Rattle.ledger.proofs.Prelude.{nat_cmp, order_lines, pos, refl, subst, suc, sym, zero, ℕ}
use Rattle.book.proofs.Prelude.{AreNumbered, BeginsOther, Head, IsLineTold, TellOrders, head_of}
use Rattle.ledger.specs.declared.order.Line.{Line}
use Rattle.ledger.specs.declared.rows.LineRow.{LineRow}
use Rattle.std.proofs.Math.ListN.{drop_of_length-le}
use Rattle.ledger.proofs.Lists.{length-of-map}
use Rattle.ledger.proofs.EqualRows.{after, others_after, same_first, same_rest}

drop-suc : {X : Type 0} (xs : List X) (i : ℕ) (d : X) → i < length xs → drop i xs ≡ get_or xs i d ∷ drop (suc i) xs
drop-suc [] i d lt = absurd (omega arith)
drop-suc (x ∷ xs) zero d lt = refl
drop-suc (x ∷ xs) (suc i) d lt = drop-suc xs i d (omega arith)

pub drop-step : {X : Type 0} (xs : List X) (i : ℕ) (d : X) → i < length xs → drop i xs ≡ get_or xs i d ∷ drop (i + 1) xs
drop-step xs i d lt = let e : suc i ≡ i + 1 = omega arith in drop-suc xs i d lt ∙ ap (λ k. get_or xs i d ∷ drop k xs) e

-- ---- numbers of rows

pub numbered-push : (k : ℕ) (rows : List LineRow) (row : LineRow) → AreNumbered k rows → row.nr ≡ pos (k + length rows)
    → AreNumbered k (rows ++ row ∷ [])
numbered-push k [] row all e = (e ∙ ap pos (omega arith), tt)
numbered-push k (r ∷ rows) row all e = (all.0, numbered-push (k + 1) rows row all.1 (e ∙ ap pos (omega arith)))

pub numbered-at : (k : ℕ) (rows : List LineRow) (i : ℕ) (d : LineRow) → AreNumbered k rows → i < length rows
    → (get_or rows i d).nr ≡ pos (k + i)
numbered-at k [] i d all lt = absurd (omega arith)
numbered-at k (r ∷ rows) zero d all lt = all.0 ∙ ap pos (omega arith)
numbered-at k (r ∷ rows) (suc i) d all lt = numbered-at (k + 1) rows i d all.1 (omega arith) ∙ ap pos (omega arith)

-- ---- one order's rows, and those behind them

-- lines with rows that are all of one order and count on are the order's lines
pub own_rows : (n k : ℕ) (ls : List Line) (rows : List LineRow) → AllZip IsLineTold ls rows
    → Each (λ r. r.number ≡ pos n) rows → AreNumbered k rows → lines_from n k ls ≡ map line_cells rows
own_rows n k [] [] told own numbered = refl
own_rows n k [] (r ∷ rows) told own numbered = absurd told
own_rows n k (l ∷ ls) [] told own numbered = absurd told
own_rows n k (l ∷ ls) (r ∷ rows) told own numbered = let more = own_rows n (k + 1) ls rows told.1 own.1 numbered.1 in cc

abbrev pub BeginsOtherCells : ℕ → List LineCells → Type 0
BeginsOtherCells n [] = Unit {0}
BeginsOtherCells n (r ∷ rows) = r.number ≡ pos n → ⊥

pub begins-cells : (n : ℕ) (rows : List LineRow) → BeginsOther n rows → BeginsOtherCells n (map line_cells rows)
begins-cells n b h = grind arith

pub own-number : (n k : ℕ) (ls : List Line) → Each (λ r. r.number ≡ pos n) (lines_from n k ls)
own-number n k [] = tt
own-number n k (l ∷ ls) = (refl, own-number n (k + 1) ls)

pub number-cells : (n : ℕ) (rows : List LineRow) → Each (λ r. r.number ≡ pos n) rows
    → Each (λ r. r.number ≡ pos n) (map line_cells rows)
number-cells n [] h = tt
number-cells n (r ∷ rows) h = (h.0, number-cells n rows h.1)

-- rows of one order in front of others are split in one way
pub split_rows : (n k : ℕ) (own : List Line) (rest run tail : List LineCells) → AreOthers n rest
    → Each (λ r. r.number ≡ pos n) run → BeginsOtherCells n tail → lines_from n k own ++ rest ≡ run ++ tail
    → (lines_from n k own ≡ run) × (rest ≡ tail)
split_rows n k [] rest [] tail others all end e = (refl, e)
split_rows n k [] [] (r ∷ run) tail others all end e = absurd (cc)
split_rows n k [] (x ∷ rest) (r ∷ run) tail others all end e =
    absurd (others.0 (ap (λ (r : LineCells). r.number) (same_first _ _ _ _ e) ∙ all.0))
split_rows n k (l ∷ own) rest [] [] others all end e = absurd (cc)
split_rows n k (l ∷ own) rest [] (t ∷ tail) others all end e =
    absurd (end (sym (ap (λ (r : LineCells). r.number) (same_first _ _ _ _ e))))
split_rows n k (l ∷ own) rest (r ∷ run) tail others all end e =
    let more =
    split_rows n (k + 1) own rest run tail others all.1 end
    (same_rest (line_row n k l) r (lines_from n (k + 1) own ++ rest) (run ++ tail) e) in
    grind arith

-- rows of an order's lines count on
pub numbered-from : (n k : ℕ) (own : List Line) (rows : List LineRow) → lines_from n k own ≡ map line_cells rows
    → AreNumbered k rows
numbered-from n k [] [] e = tt
numbered-from n k [] (r ∷ rows) e = absurd (cc)
numbered-from n k (l ∷ own) [] e = absurd (cc)
numbered-from n k (l ∷ own) (r ∷ rows) e = (
  sym (ap (λ (r : LineCells). r.nr) (same_first _ _ _ _ e)),
  numbered-from n (k + 1) own rows
      (same_rest (line_row n k l) (line_cells r) (lines_from n (k + 1) own) (map line_cells rows) e),
)

-- ---- the orders from here on

pub record Tail (heads : List Head) (lines : List LineCells) : Type 0 where
  pub orders : List Order
  pub sorted : IsStrictlySortedBy nat_cmp (map (λ o. o.number) orders)
  pub tell : TellOrders orders heads lines

-- with no heads left there are no lines left
pub tail-end : (lines : List LineCells) → Tail [] lines → lines ≡ []
tail-end lines t = by t.orders t.tell
  where
    by : (os : List Order) → TellOrders os [] lines → lines ≡ []
    by [] tell = sym tell.lines_are
    by (o ∷ os) tell = absurd (cc)

-- the first order: its own lines, and the rows of the others behind them
pub record First (h : Head) (heads : List Head) (lines : List LineCells) : Type 0 where
  pub own : List Line
  pub rest : List LineCells
  pub others : AreOthers h.number rest
  pub lines_are : lines_from h.number 1 own ++ rest ≡ lines
  pub more : Tail heads rest

pub tail-first : (h : Head) (heads : List Head) (lines : List LineCells) → Tail (h ∷ heads) lines → First h heads lines
unfolding IsStrictlySortedBy
tail-first h heads lines t = by t.orders t.sorted t.tell
  where
    by : (os : List Order) → IsStrictlySortedBy nat_cmp (map (λ o. o.number) os) → TellOrders os (h ∷ heads) lines
        → First h heads lines
    by [] sorted tell = absurd (cc)
    by (o ∷ os) sorted tell =
        let is : o.number ≡ h.number =
        ap (λ (h : Head). h.number) (same_first (head_of o) h (map head_of os) heads tell.heads_are) in
        record {
          own = o.lines;
          rest = flat_map order_lines os;
          others = subst (λ n. AreOthers n (flat_map order_lines os)) is (others_after o.number os (after o os sorted.0));
          lines_are = subst (λ n. lines_from n 1 o.lines ++ flat_map order_lines os ≡ lines) is tell.lines_are;
          more = record {
            orders = os;
            sorted = sorted.1;
            tell = record {
              heads_are = same_rest (head_of o) h (map head_of os) heads tell.heads_are;
              lines_are = refl;
            };
          };
        }

-- ---- one order more

pub left_step : (h : Head) (heads : List Head) (own : List Line) (rows : List LineRow)
    → lines_from h.number 1 own ++ map line_cells (drop (length own) rows) ≡ map line_cells rows
    → BeginsOther h.number (drop (length own) rows) → Tail (h ∷ heads) (map line_cells rows)
    → Tail heads (map line_cells (drop (length own) rows))
left_step h heads own rows told end t =
    grind (
      arith,
      (own-number h.number 1 own),
      (begins-cells h.number (drop (length own) rows) end),
      (tail-first h heads (map line_cells rows) t),
      split_rows,
    )

pub lines_step : (os : List Order) (o : Order) (tail mid whole : List LineCells)
    → flat_map order_lines os ++ mid ≡ whole → order_lines o ++ tail ≡ mid
    → flat_map order_lines (os ++ o ∷ []) ++ tail ≡ whole
lines_step os o tail mid whole e d =
    grind (
      arith,
      common_steps,
      (flat_map-append order_lines os (o ∷ [])
          ∙ ap (λ (xs : List LineCells). flat_map order_lines os ++ xs) (append-nil (order_lines o))),
    )

-- at the end of the heads, rows that are left belong to no order
pub none_left : (heads : List Head) (i : ℕ) (rows : List LineRow) (start : ℕ) → length heads ≤ i → start ≤ length rows
    → (start ≡ length rows → ⊥) → Tail (drop i heads) (map line_cells (drop start rows)) → ⊥
none_left heads i rows start past within more t =
    let none : map line_cells (drop start rows) ≡ [] =
    tail-end _ (subst (λ hs. Tail hs (map line_cells (drop start rows))) (drop_of_length-le heads past) t) in
    let long = length-drop start rows in
    let same = length-of-map line_cells (drop start rows) in
    let zero : length (map line_cells (drop start rows)) ≡ 0 = ap (λ xs. length xs) none in
    more (omega arith)
