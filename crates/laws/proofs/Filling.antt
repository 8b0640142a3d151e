-- The rows of a ledger, put into those of a new desk.
use Rattle.ledger.proofs.Prelude.{AllZip, Content, FieldCells, Good, IsFieldRow, IsRowsOf, IsStrictlySortedBy}
use Rattle.ledger.proofs.Prelude.{IsTotalOrder, Ledger, List, Ordering, [], ap, field_cmp, firm_cmp, int_cmp_total}
use Rattle.ledger.proofs.Prelude.{kept_cmp, line_cmp, move_cmp, nat_list_cmp_total, new_ledger, on_total, order_cmp}
use Rattle.ledger.proofs.Prelude.{put_content, put_rows, refl, sym, then_total, ◌∙◌, ◌∷◌, ◌≡◌, Bool, Each, Field}
use Rattle.ledger.proofs.Prelude.{IsInfimum, IsSupremum, Kept, Order, arith, cond, filter, firm_rows, flat_map}
use Rattle.ledger.proofs.Prelude.{held_to_add, held_to_take, ints, kept_row, map, nat_lt, order_lines, order_row, pos}
use Rattle.ledger.proofs.Prelude.{settled, spelling, subst, true, true≢false, false, ◌++◌, ◌+ℤ◌, ◌-ℤ◌, ◌-◌, ℕ, ℤ}
use Rattle.std.specs.Prelude.{int_lt}
use Rattle.ledger.specs.Rows.{desk_of, IsInKeyOrder, desk_cmp}
use Rattle.ledger.proofs.Bounds.{HasRoom, inf_is, inf_unique, room_from_safe, sup_is, sup_unique}
use Rattle.ledger.proofs.Falls.{sounds_from_good}
use Rattle.ledger.specs.Rolled.{is_recent_deal, rolled, gone, lowered, lowered_row, restarted, rolled_field}
use Rattle.ledger.specs.Rolled.{rolled_order, rolled_rows, rolled_with, stays}
use Rattle.laws.proofs.Rolled.{field_holds, good_left, places_left, value}
use Rattle.ledger.proofs.EqualRows.{rows_in_order}
use Rattle.ledger.proofs.Puts.{follows-new, put_all}

field_cmp_total : IsTotalOrder field_cmp
field_cmp_total =
    then_total (on_total (λ r. r.branch) nat_list_cmp_total) (on_total (λ r. r.article) nat_list_cmp_total)

move_cmp_total : IsTotalOrder move_cmp
move_cmp_total = on_total (λ r. r.place) int_cmp_total

order_cmp_total : IsTotalOrder order_cmp
order_cmp_total = on_total (λ r. r.number) int_cmp_total

line_cmp_total : IsTotalOrder line_cmp
line_cmp_total = then_total (on_total (λ r. r.number) int_cmp_total) (on_total (λ r. r.nr) int_cmp_total)

kept_cmp_total : IsTotalOrder kept_cmp
kept_cmp_total = on_total (λ r. r.reqkey) nat_list_cmp_total

firm_cmp_total : IsTotalOrder firm_cmp
firm_cmp_total = on_total (λ r. r.number) int_cmp_total

-- rows in order, put where there are none
filled : {R : Type 0} (cmp : R → R → Ordering) → IsTotalOrder cmp → (rows old : List R) → IsStrictlySortedBy cmp rows
    → old ≡ [] → put_rows cmp rows old ≡ rows
filled cmp o rows old sorted none = ap (put_rows cmp rows) none
    ∙ put_all cmp o rows [] rows sorted (follows-new cmp rows)

no_fields : (fs : List FieldCells) → AllZip (IsFieldRow new_ledger) [] fs → fs ≡ []
no_fields [] h = refl
no_fields (f ∷ fs) h = absurd h

pub rows_fill : (B : Ledger) (C N : Content) → Good B → IsRowsOf B C → IsRowsOf new_ledger N → put_content C N ≡ C
rows_fill B C N good rows new =
    let o : IsInKeyOrder C = rows_in_order B C good rows in
    let desk : put_rows desk_cmp C.desk N.desk ≡ C.desk =
    (λ i. put_rows desk_cmp (rows.desk i) (new.desk i)) ∙ sym rows.desk in
    let fields = filled field_cmp field_cmp_total C.fields N.fields o.fields (no_fields N.fields new.fields) in
    let moves = filled move_cmp move_cmp_total C.moves N.moves o.moves new.moves in
    let orders = filled order_cmp order_cmp_total C.orders N.orders o.orders new.orders in
    let lines = filled line_cmp line_cmp_total C.lines N.lines o.lines new.lines in
    let kept = filled kept_cmp kept_cmp_total C.kept N.kept o.kept new.kept in
    let firms = filled firm_cmp firm_cmp_total C.firms N.firms o.firms new.firms in
    λ i. record {
      desk = desk i;
      fields = fields i;
      moves = moves i;
      orders = orders i;
      lines = lines i;
      kept = kept i;
      firms = firms i;
    }

-- ---- the rows of a ledger rolled up

module _ (also : Order → Bool) (K : ℕ) (A : Ledger) (C : Content) (good : Good A) (rows : IsRowsOf A C) where
  abbrev B : Ledger
  B = rolled_with also K A

  abbrev d : ℕ
  d = gone K A

  -- a field's row
  field_rolled : (f : Field) (row : FieldCells) → HasRoom A f → IsFieldRow A f row
      → IsFieldRow B (rolled_field A f) (restarted row)
  field_rolled f row room x =
      let h = field_holds also K A good f room in
      let v = h.stands.settled in let t = h.takes in let a = h.adds in
      let inf = inf_unique A f row.inf (settled A f -ℤ held_to_take A f.name) x.inf
      (inf_is A (sounds_from_good A good) f) in
      let sup = sup_unique A f row.sup (settled A f +ℤ held_to_add A f.name) x.sup
      (sup_is A (sounds_from_good A good) f) in
      let gb = sounds_from_good B (good_left also K A good) in
      record {
        branch = x.branch;
        article = x.article;
        lo = x.lo;
        hi = x.hi;
        start = x.value ∙ sym (value also K A good f room).0;
        value = x.value ∙ sym v;
        inf = subst (IsInfimum B (rolled_field A f)) (sym (inf ∙ less _ _ _ _ (sym v) (sym t)))
            (inf_is B gb (rolled_field A f));
        sup = subst (IsSupremum B (rolled_field A f)) (sym (sup ∙ more _ _ _ _ (sym v) (sym a)))
            (sup_is B gb (rolled_field A f));
      }
    where
      less : (a b c e : ℤ) → a ≡ b → c ≡ e → a -ℤ c ≡ b -ℤ e
      less a b c e x y = λ i. x i -ℤ y i

      more : (a b c e : ℤ) → a ≡ b → c ≡ e → a +ℤ c ≡ b +ℤ e
      more a b c e x y = λ i. x i +ℤ y i

  fields_rolled : (fs : List Field) (rs : List FieldCells) → Each (HasRoom A) fs → AllZip (IsFieldRow A) fs rs
      → AllZip (IsFieldRow B) (map (rolled_field A) fs) (map restarted rs)
  fields_rolled [] [] room x = tt
  fields_rolled [] (r ∷ rs) room x = absurd x
  fields_rolled (f ∷ fs) [] room x = absurd x
  fields_rolled (f ∷ fs) (r ∷ rs) room x = (field_rolled f r room.0 x.0, fields_rolled fs rs room.1 x.1)

  orders_rolled : (os : List Order) → map order_row os ≡ map order_row (map rolled_order os)
  orders_rolled [] = refl
  orders_rolled (o ∷ os) = ap (λ rs. order_row o ∷ rs) (orders_rolled os)

  lines_rolled : (os : List Order) → flat_map (λ o. order_lines (rolled_order o)) os
      ≡ flat_map order_lines (map rolled_order os)
  lines_rolled [] = refl
  lines_rolled (o ∷ os) = ap (λ rs. order_lines (rolled_order o) ++ rs) (lines_rolled os)

  firms_rolled : (os : List Order) → flat_map firm_rows os ≡ flat_map firm_rows (map rolled_order os)
  firms_rolled [] = refl
  firms_rolled (o ∷ os) = ap (λ rs. firm_rows o ++ rs) (firms_rolled os)

  same_test : (m n : ℕ) → int_lt (pos m) (pos n) ≡ nat_lt m n
  same_test m n = grind arith

  lower : (m n : ℕ) → nat_lt m n ≡ true → pos n -ℤ pos m ≡ pos (n - m)
  lower m n e = grind (arith, ints)

  kept_rolled : (ks : List Kept)
      → map (lowered_row d) (filter (λ row. int_lt (pos d) row.place) (map kept_row ks))
      ≡ map kept_row (map (lowered d) (filter (λ k. nat_lt d k.place) ks))
  kept_rolled [] = refl
  kept_rolled (k ∷ ks) = by (nat_lt d k.place) refl (int_lt (pos d) (pos k.place)) (same_test d k.place)
      (kept_rolled ks)
    where
      by : (b : Bool) → nat_lt d k.place ≡ b → (c : Bool) → c ≡ nat_lt d k.place
          → map (lowered_row d) (filter (λ row. int_lt (pos d) row.place) (map kept_row ks))
          ≡ map kept_row (map (lowered d) (filter (λ k. nat_lt d k.place) ks))
          → map (lowered_row d) (cond c (kept_row k ∷ filter (λ row. int_lt (pos d) row.place) (map kept_row ks))
          (filter (λ row. int_lt (pos d) row.place) (map kept_row ks)))
          ≡ map kept_row (map (lowered d) (cond b (k ∷ filter (λ k. nat_lt d k.place) ks)
          (filter (λ k. nat_lt d k.place) ks)))
      by true e true y rest =
          λ i. record { reqkey = k.key; place = lower d k.place e i; words = spelling k.command } ∷ rest i
      by true e false y rest = absurd (true≢false (sym (y ∙ e)))
      by false e true y rest = absurd (true≢false (y ∙ e))
      by false e false y rest = rest

  pub rows_rolled : IsRowsOf B (rolled_rows also K A C)
  rows_rolled = record {
    desk = ap (λ n. desk_of A.clock n ∷ []) (sym (places_left also K A good));
    fields = fields_rolled A.fields C.fields (room_from_safe A (sounds_from_good A good) good.safe) rows.fields;
    moves = refl;
    orders = orders_rolled (filter (stays also) A.orders);
    lines = lines_rolled (filter (stays also) A.orders);
    kept = ap (λ ks. map (lowered_row d) (filter (λ row. int_lt (pos d) row.place) ks)) rows.kept ∙ kept_rolled A.kept;
    firms = firms_rolled (filter (stays also) A.orders);
  }

-- put into the rows of a new desk, they are the rows of the ledger rolled up
pub rows_rolled_fill : (K : ℕ) (A : Ledger) (C N : Content) → Good A → IsRowsOf A C → IsRowsOf new_ledger N
    → IsRowsOf (rolled K A) (put_content (rolled_rows (is_recent_deal K A) K A C) N)
rows_rolled_fill K A C N good rows new =
    let made = rows_rolled (is_recent_deal K A) K A C good rows in
    subst (IsRowsOf (rolled K A)) (sym (rows_fill (rolled K A) (rolled_rows (is_recent_deal K A) K A C) N
    (good_left (is_recent_deal K A) K A good) made new)) made
