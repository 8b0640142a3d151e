-- The rows of a ledger rolled up, as they are put in one after the other.
use Rattle.ledger.proofs.Prelude.{◌&&◌, ◌+◌, ◌++◌, ◌-◌, ◌<◌, ◌==◌, ◌||◌, ◌∙◌, ◌∷◌, ◌≡◌, Bool, Each, Good, IsRowsOf, Kept, Ledger}
use Rattle.ledger.proofs.Prelude.{List, Name, None, Option, Order, Some, [], ap, append-nil, append_assoc, arith, common_steps}
use Rattle.ledger.proofs.Prelude.{false, field_row, filter, flat_map, flat_map-append, get_or, if◌then◌else◌, ints}
use Rattle.ledger.proofs.Prelude.{is_open, length, length-take-le, list_any, list_any-append, map, map-append, nat_le, nat_lt}
use Rattle.ledger.proofs.Prelude.{no_content, option_map_or, places, pos, refl, subst, sym, take, true, ℕ}
use Rattle.std.proofs.lemmas.List.Elements.{filter-append}
use Rattle.std.specs.Prelude.{int_lt, min, slice_get}
use Rattle.ledger.specs.declared.order.Line.{Line}
use Rattle.ledger.specs.Rolled.{first_of_deals, gone, is_recent_deal, last_keys, lowered, lowered_row, named_order, names_order}
use Rattle.ledger.specs.Rolled.{restarted, rolled_order, rolled_rows, stays}
use Rattle.ledger.specs.Rows.{Content, LineCells, desk_of, firm_rows, kept_row, line_row, lines_from, order_lines, order_row}
use Rattle.ledger.proofs.EqualRows.{one_content, rows_are, rows_of}
use Rattle.ledger.proofs.Lists.{length-of-map, read-step, take-step}
use Rattle.book.specs.Model.{entry_row, field_of, kept_of}
use Rattle.book.specs.declared.book.FieldEntry.{FieldEntry}
use Rattle.book.specs.declared.book.KeptEntry.{KeptEntry}
use Rattle.book.specs.inner.Rolling.{deal_of, deals_named, keys_behind, keys_content, named_deal, one_or_none, orders_content}
use Rattle.book.specs.inner.Rolling.{restarted_content}
use Rattle.book.specs.inner.RunningNumbers.{IsUpToDate}
use Rattle.book.proofs.Prelude.{joined}

-- ---- contents, one after the other

pub joined_assoc : (a b c : Content) → joined (joined a b) c ≡ joined a (joined b c)
joined_assoc a b c = λ i. record {
  desk = append_assoc a.desk b.desk c.desk i;
  fields = append_assoc a.fields b.fields c.fields i;
  moves = append_assoc a.moves b.moves c.moves i;
  orders = append_assoc a.orders b.orders c.orders i;
  lines = append_assoc a.lines b.lines c.lines i;
  kept = append_assoc a.kept b.kept c.kept i;
  firms = append_assoc a.firms b.firms c.firms i;
}

pub joined_none : (a : Content) → joined a no_content ≡ a
joined_none a = λ i. record {
  desk = append-nil a.desk i;
  fields = append-nil a.fields i;
  moves = append-nil a.moves i;
  orders = append-nil a.orders i;
  lines = append-nil a.lines i;
  kept = append-nil a.kept i;
  firms = append-nil a.firms i;
}

-- what was put in, and then this, is what was put in with this behind it
pub one_more : {X : Type 0} (f : List X → Content) (first mid new : Content) (xs ys zs : List X)
    → ((xs ys : List X) → f (xs ++ ys) ≡ joined (f xs) (f ys)) → new ≡ joined mid (f ys) → mid ≡ joined first (f xs)
    → zs ≡ xs ++ ys → new ≡ joined first (f zs)
one_more f first mid new xs ys zs more put so_far all =
    put ∙ ap (λ m. joined m (f ys)) so_far ∙ joined_assoc first (f xs) (f ys)
    ∙ ap (joined first) (sym (ap f all ∙ more xs ys))

pub filter_next : {X Y : Type 0} (t : Y → Bool) (f : X → Y) (xs : List X) (i : ℕ) (x : X) → slice_get xs i ≡ Some x
    → filter t (map f (take (i + 1) xs)) ≡ filter t (map f (take i xs)) ++ filter t (f x ∷ [])
filter_next t f xs i x e =
    ap (λ ys. filter t (map f ys)) (read-step xs i x e) ∙ ap (filter t) (map-append f (take i xs) (x ∷ []))
    ∙ filter-append t (map f (take i xs)) (f x ∷ [])

pub orders_more : (xs ys : List Order) → orders_content (xs ++ ys) ≡ joined (orders_content xs) (orders_content ys)
orders_more xs ys = λ i. record no_content {
  orders = map-append order_row xs ys i;
  lines = flat_map-append (λ o. order_lines (rolled_order o)) xs ys i;
  firms = flat_map-append firm_rows xs ys i;
}

pub keys_more : (gone : ℕ) (xs ys : List Kept) → keys_content gone (xs ++ ys)
    ≡ joined (keys_content gone xs) (keys_content gone ys)
keys_more gone xs ys = λ i. record no_content { kept = map-append (λ k. kept_row (lowered gone k)) xs ys i }

pub fields_more : (xs ys : List (Name × FieldEntry)) → restarted_content (xs ++ ys)
    ≡ joined (restarted_content xs) (restarted_content ys)
fields_more xs ys = λ i. record no_content { fields = map-append (λ e. restarted (entry_row e)) xs ys i }

-- an order that is chosen, and one that is not
pub chosen_row : (t : Order → Bool) (o : Order) (old : Content) → t o ≡ true
    → joined old (orders_content (filter t (o ∷ []))) ≡ joined old (orders_content (o ∷ []))
chosen_row t o old e = ap (λ b. joined old (orders_content (if b then o ∷ [] else []))) e

pub left_row : (t : Order → Bool) (o : Order) (old : Content) → t o ≡ false
    → joined old (orders_content (filter t (o ∷ []))) ≡ old
left_row t o old e = ap (λ b. joined old (orders_content (if b then o ∷ [] else []))) e ∙ joined_none old

-- ---- deals

pub deals_next : (gone : ℕ) (entries : List (List ℕ × KeptEntry)) (i : ℕ) (x : List ℕ × KeptEntry)
    → slice_get entries i ≡ Some x → (n : ℕ)
    → list_any (λ m. m == n) (deals_named (keys_behind gone (map kept_of (take (i + 1) entries))))
    ≡ (list_any (λ m. m == n) (deals_named (keys_behind gone (map kept_of (take i entries))))
    || list_any (λ m. m == n) (deals_named (keys_behind gone (kept_of x ∷ []))))
deals_next gone entries i x e n =
    let so_far = keys_behind gone (map kept_of (take i entries)) in let next = keys_behind gone (kept_of x ∷ []) in
    ap (λ ks. list_any (λ m. m == n) (deals_named ks)) (filter_next (λ k. nat_lt gone k.place) kept_of entries i x e)
    ∙ ap (list_any (λ m. m == n)) (flat_map-append (λ (k : Kept). one_or_none (named_deal k.command)) so_far next)
    ∙ list_any-append (λ m. m == n) (deals_named so_far) (deals_named next)

pub found_again : (m n : ℕ) (ms : List ℕ) → list_any (λ k. k == m) ms ≡ true
    → list_any (λ k. k == n) ms ≡ (list_any (λ k. k == n) ms || list_any (λ k. k == n) (m ∷ []))
found_again m n ms e = grind (arith, common_steps)

-- ---- lines

lines_more : (n k : ℕ) (xs ys : List Line)
    → lines_from n k (xs ++ ys) ≡ lines_from n k xs ++ lines_from n (k + length xs) ys
lines_more n k [] ys = ap (λ m. lines_from n m ys) (omega arith)
lines_more n k (x ∷ xs) ys = let more = lines_more n (k + 1) xs ys in
    ap (λ (rest : List LineCells). line_row n k x ∷ rest)
    (more ∙ ap (λ m. lines_from n (k + 1) xs ++ lines_from n m ys) (omega arith))

pub lines_next : (n i : ℕ) (f : Line → Line) (xs : List Line) (x : Line) → i < length xs → x ≡ get_or xs i x
    → lines_from n 1 (map f (take (i + 1) xs))
    ≡ lines_from n 1 (map f (take i xs)) ++ line_row n (i + 1) (f x) ∷ []
lines_next n i f xs x within e =
    let all = length-of-map f (take i xs) in
    let many = length-take-le i xs (omega (arith, within)) in
    ap (λ ys. lines_from n 1 (map f ys)) (take-step xs i x within e) ∙ ap (lines_from n 1) (map-append f (take i xs) (x ∷ []))
    ∙ lines_more n 1 (map f (take i xs)) (f x ∷ [])
    ∙ ap (λ m. lines_from n 1 (map f (take i xs)) ++ line_row n m (f x) ∷ []) (omega (arith, all, many))

-- ---- all of them are the rows of the ledger rolled up

-- the order that a command names is among those of deals
one_deal : (found : Option ℕ) (n : ℕ) → list_any (λ m. m == n) (one_or_none (deal_of found))
    ≡ (nat_le first_of_deals n && option_map_or (λ m. m == n) found false)
one_deal None n = grind (arith, common_steps)
one_deal (Some m) n = grind (arith, common_steps)

deals_are : (n : ℕ) (ks : List Kept) → list_any (λ m. m == n) (deals_named ks)
    ≡ (nat_le first_of_deals n && list_any (λ k. names_order n k.command) ks)
deals_are n [] = grind (arith, common_steps)
deals_are n (k ∷ ks) =
    list_any-append (λ m. m == n) (one_or_none (named_deal k.command)) (deals_named ks)
    ∙ (λ i. one_deal (named_order k.command) n i || deals_are n ks i)
    ∙ both (nat_le first_of_deals n) (names_order n k.command) (list_any (λ k. names_order n k.command) ks)
  where
    both : (a b c : Bool) → ((a && b) || (a && c)) ≡ (a && (b || c))
    both true b c = refl
    both false b c = refl

chosen_alike : {X : Type 0} (t u : X → Bool) → ((x : X) → t x ≡ u x) → (xs : List X) → filter t xs ≡ filter u xs
chosen_alike t u e [] = refl
chosen_alike t u e (x ∷ xs) = λ i. if e x i then x ∷ chosen_alike t u e xs i else chosen_alike t u e xs i

-- the keys' rows
keys_are : (gone : ℕ) (ks : List Kept) → map (λ k. kept_row (lowered gone k)) (keys_behind gone ks)
    ≡ map (lowered_row gone) (filter (λ row. int_lt (pos gone) row.place) (map kept_row ks))
keys_are gone [] = refl
keys_are gone (k ∷ ks) = let more = keys_are gone ks in grind (arith, ints, common_steps)

-- the fields' rows
fields_are : (A : Ledger) (entries : List (Name × FieldEntry)) → Each (IsUpToDate A) entries
    → map (λ e. restarted (entry_row e)) entries ≡ map restarted (map (field_row A) (map field_of entries))
fields_are A [] up = refl
fields_are A (e ∷ es) up = λ i. restarted (up.0 i) ∷ fields_are A es up.1 i

pub all_rolled : (A : Ledger) (K : ℕ) (entries : List (Name × FieldEntry)) (deals : List ℕ) (start new C : Content)
    → Good A → A.fields ≡ map field_of entries → Each (IsUpToDate A) entries
    → ((n : ℕ) → list_any (λ m. m == n) deals ≡ list_any (λ m. m == n) (deals_named (keys_behind (gone K A) A.kept)))
    → start ≡ record no_content { desk = desk_of A.clock (places A - gone K A) ∷ [] }
    → new ≡ joined (joined (joined start (restarted_content entries))
    (orders_content (filter (stays (λ o. list_any (λ n. n == o.number) deals)) A.orders)))
    (keys_content (gone K A) (keys_behind (gone K A) A.kept))
    → IsRowsOf A C → new ≡ rolled_rows (is_recent_deal K A) K A C
all_rolled A K entries deals start new C good fields up named begun all rows =
    let same : (o : Order) → stays (λ o. list_any (λ n. n == o.number) deals) o ≡ stays (is_recent_deal K A) o =
    λ o. ap (λ b. is_open o || b) (named o.number ∙ deals_are o.number (last_keys K A)) in
    let orders = chosen_alike _ (stays (is_recent_deal K A)) same A.orders in
    let left : places A - gone K A ≡ min K (places A) = grind arith in
    all
    ∙ (λ i. joined (joined (joined (begun i) (restarted_content entries)) (orders_content (orders i)))
    (keys_content (gone K A) (keys_behind (gone K A) A.kept)))
    ∙ (λ i. record {
      desk = desk_of A.clock (left i) ∷ [];
      fields = append-nil (append-nil (fields_are A entries up i) i) i;
      moves = [];
      orders = append-nil (map order_row (filter (stays (is_recent_deal K A)) A.orders)) i;
      lines = append-nil (flat_map (λ o. order_lines (rolled_order o)) (filter (stays (is_recent_deal K A)) A.orders)) i;
      kept = keys_are (gone K A) A.kept i;
      firms = append-nil (flat_map firm_rows (filter (stays (is_recent_deal K A)) A.orders)) i;
    })
    ∙ ap (λ fs. rolled_rows (is_recent_deal K A) K A (record (rows_of A) { fields = map (field_row A) fs })) (sym fields)
    ∙ ap (rolled_rows (is_recent_deal K A) K A) (one_content A (rows_of A) C (rows_are A good) rows)

pub all_rolled_at : (A : Ledger) (K : ℕ) (entries : List (Name × FieldEntry)) (deals : List ℕ) (g n : ℕ) (start new C : Content)
    → g ≡ gone K A → n ≡ places A → Good A → A.fields ≡ map field_of entries → Each (IsUpToDate A) entries
    → ((n : ℕ) → list_any (λ m. m == n) deals ≡ list_any (λ m. m == n) (deals_named (keys_behind g A.kept)))
    → start ≡ record no_content { desk = desk_of A.clock (n - g) ∷ [] }
    → new ≡ joined (joined (joined start (restarted_content entries))
    (orders_content (filter (stays (λ o. list_any (λ n. n == o.number) deals)) A.orders)))
    (keys_content g (keys_behind g A.kept))
    → IsRowsOf A C → new ≡ rolled_rows (is_recent_deal K A) K A C
all_rolled_at A K entries deals g n start new C is count good fields up named begun all rows =
    let orders = orders_content (filter (stays (λ o. list_any (λ n. n == o.number) deals)) A.orders) in
    all_rolled A K entries deals start new C good fields up
    (subst (λ (g : ℕ). (n : ℕ) → list_any (λ m. m == n) deals ≡ list_any (λ m. m == n) (deals_named (keys_behind g A.kept)))
    is named)
    (begun ∙ (λ i. record no_content { desk = desk_of A.clock (count i - is i) ∷ [] }))
    (all ∙ (λ i. joined (joined (joined start (restarted_content entries)) orders)
    (keys_content (is i) (keys_behind (is i) A.kept)))) rows
