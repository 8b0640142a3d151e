-- A good ledger rolled up is good, stands for it, and has room.
use Rattle.ledger.proofs.Prelude.{Bool, Each, Field, Good, IsDistinct, IsGoodField, IsGoodKept, IsGoodLine, IsGoodOrder}
use Rattle.ledger.proofs.Prelude.{IsSome, IsSomeAnd, IsStrictlySortedBy, IsTransferPair, Kept, Ledger, List}
use Rattle.ledger.proofs.Prelude.{MatchOption, Name, None, Option, Order, Some, [], ap, arith, bytes_eq, count_by}
use Rattle.ledger.proofs.Prelude.{false, field_named, filter, held_to_add, held_to_take, if◌then◌else◌, ints, is_open}
use Rattle.ledger.proofs.Prelude.{is_settled, kept_under, length, settled_state, ◌||◌, line_name, map, nat_abs, nat_cmp}
use Rattle.ledger.proofs.Prelude.{nat_eq, nat_lt, not, on, open_orders, option_map, part_of, places, pos, refl}
use Rattle.ledger.proofs.Prelude.{same_name, settled, settled_part, share_of, signed, slice_cmp, subst, sym, total}
use Rattle.ledger.proofs.Prelude.{true, true≢false, ◌+ℤ◌, ◌+◌, ◌-ℤ◌, ◌-◌, ◌<◌, ◌∙◌, ◌∷◌, ◌≡◌, ◌≤ℤ◌, ◌≤◌, ℕ, ℤ, name_cmp}
use Rattle.ledger.proofs.Prelude.{inl, cond, Less, bytes_decides, is_eq, is_eq-slice_cmp}
use Rattle.ledger.specs.declared.order.Line.{Line}
use Rattle.ledger.specs.declared.order.State.{State}
use Rattle.std.specs.Prelude.{min}
use Rattle.std.specs.List.{AllZip}
use Rattle.std.proofs.lemmas.List.Filters.{length-filter_both}
use Rattle.ledger.proofs.Bounds.{HasRoom, held_least, room_from_safe, safe_from_room}
use Rattle.ledger.proofs.Falls.{sounds_from_good}
use Rattle.ledger.proofs.GoodParts.{StillThere}
use Rattle.ledger.proofs.Lists.{AtMostOne, counted, each-found, each-unmap, found_passes, length-of-map, or_false}
use Rattle.ledger.proofs.Steps.{no_settled}
use Rattle.ledger.proofs.Sums.{each, each-both, each-imp, each-map, total-zero}
use Rattle.ledger.specs.Rolled.{gone, left_of, lowered, rolled_field, rolled_order, rolled_with, stays}
use Rattle.laws.specs.Roll.{KeyStands, FieldHolds, FieldStands, KeptStands, LineStands, OrderStands, OrdersStand}
use Rattle.laws.specs.Roll.{StandsFor}
use Rattle.laws.proofs.Filtered.{distinct-taken, each-taken, few_apart, find-map, find-taken, length-taken, one-taken}
use Rattle.laws.proofs.Filtered.{sorted-taken, taken}
use Rattle.laws.proofs.Standing.{adds-same, count-same, fewer, skip, takes-same}

-- ---- orders

line_left : (firm : Bool) (l : Line) → l.used ≤ l.held → LineStands firm l (left_of firm l)
line_left true l h = record {
  way = refl;
  branch = refl;
  article = refl;
  rest = omega arith;
  loose = λ e. absurd (true≢false e);
}
line_left false l h = record { way = refl; branch = refl; article = refl; rest = refl; loose = λ e. refl }

lines_left : (firm : Bool) (ls : List Line) → Each (λ l. l.used ≤ l.held) ls
    → AllZip (LineStands firm) ls (map (left_of firm) ls)
lines_left firm [] h = tt
lines_left firm (l ∷ ls) h = (line_left firm l h.0, lines_left firm ls h.1)

order_left : (o : Order) → Each (λ l. l.used ≤ l.held) o.lines → OrderStands o (rolled_order o)
order_left o h = record {
  number = refl;
  kind = refl;
  until = refl;
  state = refl;
  firm = refl;
  lines = lines_left (is_settled o) o.lines h;
}

pub orders_left : (also : Order → Bool) (os : List Order) → Each (λ o. Each (λ l. l.used ≤ l.held) o.lines) os
    → OrdersStand os (taken rolled_order (stays also) os)
orders_left also [] h = tt
orders_left also (o ∷ os) h = by (stays also o) refl (orders_left also os h.1)
  where
    by : (b : Bool) → stays also o ≡ b → OrdersStand os (taken rolled_order (stays also) os)
        → OrdersStand (o ∷ os) (map rolled_order (cond b (o ∷ filter (stays also) os) (filter (stays also) os)))
    by true e more = inl (order_left o h.0, more)
    by false e more = skip o os _ (or_false (is_open o) (also o) e).0 more

-- an order that was rolled up has settled nothing
line_settled : (f : Name) (s : State) (firm : Bool) (l : Line)
    → (if on f (left_of (settled_state s firm) l)
    then settled_part (left_of (settled_state s firm) l).way (share_of s firm (left_of (settled_state s firm) l))
    else pos 0)
    ≡ pos 0
line_settled f s firm l = by (settled_state s firm) (on f (left_of (settled_state s firm) l))
  where
    by : (c b : Bool)
        → (if b then signed (left_of c l).way (if c then (left_of c l).used else 0) else pos 0) ≡ pos 0
    by true true = no_settled l.way
    by false true = no_settled l.way
    by c false = refl

order_settled : (f : Name) (o : Order) → part_of settled_part f (rolled_order o) ≡ pos 0
order_settled f o = total-zero _ (map (left_of (is_settled o)) o.lines) (each-map _ (left_of (is_settled o)) o.lines
    (each (λ l. line_settled f o.state o.firm l) o.lines))

nothing_settled : (f : Name) (t : Order → Bool) (os : List Order)
    → total (part_of settled_part f) (taken rolled_order t os) ≡ pos 0
nothing_settled f t os = total-zero _ (taken rolled_order t os)
    (each-taken (λ _. Unit {0}) (λ p. part_of settled_part f p ≡ pos 0) rolled_order t (λ o e _. order_settled f o) os
    (each (λ _. tt) os))

-- ---- places

module _ (ks : List Kept) (apart : IsDistinct nat_eq (map (λ k. k.place) ks))
    (range : Each (λ k. (1 ≤ k.place) × (k.place ≤ length ks)) ks) where
  place_above : (d : ℕ) → Kept → Bool
  place_above d k = nat_lt d k.place

  few_above : (d : ℕ) → d ≤ length ks → length (filter (λ k. nat_lt d k.place) ks) ≤ length ks - d
  few_above d le =
      let less : Kept → Kept = λ k. record k { place = k.place - (d + 1) } in
      let t : Kept → Bool = λ k. nat_lt d k.place in
      let few = few_apart (length ks - d) (map (λ k. k.place) (taken less t ks))
      (distinct-taken (λ k. k.place) (d + 1) less t (λ k. refl) ks (each (λ k e. up k e) ks) apart)
      (each-map (λ p. p < length ks - d) (λ k. k.place) (taken less t ks)
      (each-taken (λ k. (1 ≤ k.place) × (k.place ≤ length ks)) (λ k. k.place < length ks - d) less t
      (λ k e r. below k e r.1) ks range)) in
      let a = length-of-map (λ k. k.place) (taken less t ks) in let b = length-taken less t ks in omega arith
    where
      up : (k : Kept) → nat_lt d k.place ≡ true → d + 1 ≤ k.place
      up k e = grind arith

      below : (k : Kept) → nat_lt d k.place ≡ true → k.place ≤ length ks → k.place - (d + 1) < length ks - d
      below k e h = let u = up k e in omega arith

  few_below : (d : ℕ) → length (filter (λ k. not (nat_lt d k.place)) ks) ≤ d
  few_below d =
      let less : Kept → Kept = λ k. record k { place = k.place - 1 } in
      let t : Kept → Bool = λ k. not (nat_lt d k.place) in
      let few = few_apart d (map (λ k. k.place) (taken less t ks))
      (distinct-taken (λ k. k.place) 1 less t (λ k. refl) ks (each-imp (λ k r _. r.0) ks range) apart)
      (each-map (λ p. p < d) (λ k. k.place) (taken less t ks)
      (each-taken (λ k. (1 ≤ k.place) × (k.place ≤ length ks)) (λ k. k.place < d) less t
      (λ k e r. below k e r.0) ks range)) in
      let a = length-of-map (λ k. k.place) (taken less t ks) in let b = length-taken less t ks in omega arith
    where
      below : (k : Kept) → not (nat_lt d k.place) ≡ true → 1 ≤ k.place → k.place - 1 < d
      below k e h = grind arith

  -- of places that are each there once, so many are above d
  pub above_left : (d : ℕ) → d ≤ length ks → length (filter (λ k. nat_lt d k.place) ks) ≡ length ks - d
  above_left d le =
      let a = few_above d le in let b = few_below d in
      let c = length-filter_both (λ k. nat_lt d k.place) (λ k. not (nat_lt d k.place)) (λ k. refl) ks in
      omega arith

-- ---- the parts of a ledger rolled up

module _ (also : Order → Bool) (K : ℕ) (A : Ledger) (good : Good A) where
  abbrev B : Ledger
  B = rolled_with also K A

  abbrev d : ℕ
  d = gone K A

  places_are : places B ≡ places A - d
  places_are =
      length-taken (lowered d) (λ k. nat_lt d k.place) A.kept
      ∙ above_left A.kept good.places_apart good.places_in_range d (omega arith)

  pub places_left : places B ≡ min K (places A)
  places_left = let e = places_are in omega arith

  pub places_gone : places A ≡ places B + d
  places_gone = let e = places_are in omega arith

  used : Each (λ o. Each (λ l. l.used ≤ l.held) o.lines) A.orders
  used = each-imp (λ o x. each-imp (λ l h. h.used) o.lines x.lines) A.orders good.orders

  pub stand : OrdersStand A.orders B.orders
  stand = orders_left also A.orders used

  -- fields

  between : (lo hi : ℕ) (s t a : ℤ) → pos 0 ≤ℤ t → pos 0 ≤ℤ a → pos lo ≤ℤ (s -ℤ t) → (s +ℤ a) ≤ℤ pos hi
      → (pos (nat_abs s) ≡ s) × (nat_abs s ≤ hi)
  between lo hi (pos n) t a x y low high = (refl, omega (arith, ints))
  between lo hi s t a x y low high = absurd (omega (arith, ints))

  rooms : Each (HasRoom A) A.fields
  rooms = room_from_safe A (sounds_from_good A good) good.safe

  pub value : (f : Field) → HasRoom A f → (pos (nat_abs (settled A f)) ≡ settled A f) × (nat_abs (settled A f) ≤ f.hi)
  value f room =
      let h = held_least A f.name in
      between f.lo f.hi (settled A f) (held_to_take A f.name) (held_to_add A f.name) h.0 h.1 room.0 room.1

  field_stands : (f : Field) → HasRoom A f → FieldStands A B f (rolled_field A f)
  field_stands f room = record {
    name = refl;
    lo = refl;
    hi = refl;
    settled = (let v = (value f room).0 in let none = nothing_settled f.name (stays also) A.orders in
        omega (arith, ints));
  }

  pub field_holds : (f : Field) → HasRoom A f → FieldHolds A B f (rolled_field A f)
  field_holds f room = record {
    stands = field_stands f room;
    takes = takes-same A B f.name stand;
    adds = adds-same A B f.name stand;
  }

  to-map : (R : Field → Field → Type 0) → ((f : Field) → HasRoom A f → R f (rolled_field A f)) → (fs : List Field)
      → Each (HasRoom A) fs → AllZip R fs (map (rolled_field A) fs)
  to-map R to [] all = tt
  to-map R to (f ∷ fs) all = (to f all.0, to-map R to fs all.1)

  pub fields_stand : AllZip (FieldStands A B) A.fields B.fields
  fields_stand = to-map (FieldStands A B) field_stands A.fields rooms

  pub fields_hold : AllZip (FieldHolds A B) A.fields B.fields
  fields_hold = to-map (FieldHolds A B) field_holds A.fields rooms

  good_field : (f : Field) → IsGoodField f → HasRoom A f → IsGoodField (rolled_field A f)
  good_field f x room = record {
    branch = x.branch;
    article = x.article;
    lo = x.lo;
    hi = x.hi;
    start = (let v = (value f room).1 in let h = x.hi in omega arith);
  }

  room_left : (f : Field) → HasRoom A f → HasRoom B (rolled_field A f)
  room_left f room =
      let x = field_holds f room in let s = x.stands.settled in let t = x.takes in let a = x.adds in
      let low = room.0 in let high = room.1 in
      (omega (arith, ints), omega (arith, ints))

  names_left : map (λ f. f.name) B.fields ≡ map (λ f. f.name) A.fields
  names_left = go A.fields
    where
      go : (fs : List Field) → map (λ f. f.name) (map (rolled_field A) fs) ≡ map (λ f. f.name) fs
      go [] = refl
      go (f ∷ fs) = ap (λ ns. f.name ∷ ns) (go fs)

  there_left : StillThere A B
  there_left n some = by (field_named A n) (find-map (λ e. same_name n e.name) (rolled_field A) (λ e. refl) A.fields)
      some
    where
      by : (x : Option Field) → field_named B n ≡ option_map (rolled_field A) x → IsSome x → IsSome (field_named B n)
      by None e some = absurd (true≢false (sym some))
      by (Some f) e some = rw e refl

  -- orders

  good_line : (firm : Bool) (l : Line) → IsGoodLine A l → IsGoodLine B (left_of firm l)
  good_line true l x = record {
    field = there_left (line_name l) x.field;
    held = (let h = x.held in omega arith);
    used = omega arith;
  }
  good_line false l x = record { field = there_left (line_name l) x.field; held = x.held; used = x.used }

  line_names : (firm : Bool) (ls : List Line) → map line_name (map (left_of firm) ls) ≡ map line_name ls
  line_names firm [] = refl
  line_names true (l ∷ ls) = ap (λ ns. line_name l ∷ ns) (line_names true ls)
  line_names false (l ∷ ls) = ap (λ ns. line_name l ∷ ns) (line_names false ls)

  pair_left : (firm : Bool) (ls : List Line) → IsTransferPair ls → IsTransferPair (map (left_of firm) ls)
  pair_left firm [] p = p
  pair_left firm (l ∷ []) p = p
  pair_left true (l ∷ m ∷ []) p =
      (p.0, p.1, p.2, (λ i. p.3 i - p.4 i), refl)
  pair_left false (l ∷ m ∷ []) p = p
  pair_left firm (l ∷ m ∷ n ∷ ls) p = absurd p

  good_order : (o : Order) → IsGoodOrder A o → IsGoodOrder B (rolled_order o)
  good_order o x =
      let e = length-of-map (left_of (is_settled o)) o.lines in
      record {
        number = x.number;
        until = x.until;
        some = (let h = x.some in omega arith);
        few = (let h = x.few in omega arith);
        lines = each-map (IsGoodLine B) (left_of (is_settled o)) o.lines
            (each-imp (λ l h. good_line (is_settled o) l h) o.lines x.lines);
        apart = subst (IsDistinct same_name) (sym (line_names (is_settled o) o.lines)) x.apart;
        transfer = λ t. pair_left (is_settled o) o.lines (x.transfer t);
        firm = x.firm;
      }

  -- all of it

  no_moves : IsStrictlySortedBy nat_cmp []
  unfolding IsStrictlySortedBy
  no_moves = tt

  pub good_left : Good B
  good_left = record {
    clock = good.clock;
    fields = each-map IsGoodField (rolled_field A) A.fields (each-both good_field A.fields good.fields rooms);
    fields_in_order = subst (IsStrictlySortedBy name_cmp) (sym names_left) good.fields_in_order;
    few_fields = (let e = length-of-map (rolled_field A) A.fields in let h = good.few_fields in omega arith);
    moves = tt;
    moves_in_order = no_moves;
    orders = each-taken (IsGoodOrder A) (IsGoodOrder B) rolled_order (stays also) (λ o e x. good_order o x) A.orders
        good.orders;
    orders_in_order = sorted-taken nat_cmp (λ o. o.number) rolled_order (stays also) (λ o. refl) A.orders
        good.orders_in_order;
    few_orders = (let e = fewer A.orders B.orders stand in let h = good.few_orders in omega arith);
    kept = each-taken IsGoodKept IsGoodKept (lowered d) above (λ k e x. record { key = x.key; command = x.command })
        A.kept good.kept;
    kept_in_order = sorted-taken (slice_cmp nat_cmp) (λ k. k.key) (lowered d) above (λ k. refl) A.kept
        good.kept_in_order;
    places_in_range = each-taken (λ k. (1 ≤ k.place) × (k.place ≤ places A)) (λ k. (1 ≤ k.place) × (k.place ≤ places B))
        (lowered d) above ranged A.kept good.places_in_range;
    places_apart = distinct-taken (λ k. k.place) d (lowered d) above (λ k. refl) A.kept (each up A.kept)
        good.places_apart;
    places_fit = (let e = places_gone in let c = count-same A.orders B.orders stand in let h = good.places_fit in
        omega arith);
    safe = safe_from_room B (each-map (HasRoom B) (rolled_field A) A.fields (each-imp room_left A.fields rooms));
  }
    where
      above : Kept → Bool
      above k = nat_lt d k.place

      up : (k : Kept) → nat_lt d k.place ≡ true → d ≤ k.place
      up k e = grind arith

      ranged : (k : Kept) → nat_lt d k.place ≡ true → (1 ≤ k.place) × (k.place ≤ places A)
          → (1 ≤ k.place - d) × (k.place - d ≤ places B)
      ranged k e r = let p = places_gone in grind arith

  -- keys

  one_key : (key : List ℕ) (ks : List Kept) → IsStrictlySortedBy (slice_cmp nat_cmp) (map (λ k. k.key) ks)
      → AtMostOne (λ k. bytes_eq k.key key) ks
  unfolding IsStrictlySortedBy
  one_key key [] sorted = tt
  one_key key (k ∷ ks) sorted = (
    λ e. each-imp (λ m less. off e m less (bytes_eq m.key key) refl) ks
        (each-unmap (λ y. slice_cmp nat_cmp k.key y ≡ Less) (λ k. k.key) ks sorted.0),
    one_key key ks sorted.1,
  )
    where
      off : bytes_eq k.key key ≡ true → (m : Kept) → slice_cmp nat_cmp k.key m.key ≡ Less → (b : Bool)
          → bytes_eq m.key key ≡ b → b ≡ false
      off e m less true d = absurd (true≢false (sym ((bytes_decides k.key m.key).1
          ((bytes_decides k.key key).0 e ∙ sym ((bytes_decides m.key key).0 d)))
          ∙ sym (is_eq-slice_cmp k.key m.key) ∙ ap is_eq less))
      off e m less false d = refl

  pub keys_left : (key : List ℕ)
      → KeyStands d (kept_under A key) (kept_under B key)
  keys_left key = by (kept_under B key) refl
    where
      q : Kept → Bool
      q k = bytes_eq k.key key

      gone_then : (k : Kept) → nat_lt d k.place ≡ false → k.place < d + 1
      gone_then k e = grind arith

      stands : (j k : Kept) → j ≡ lowered d k → nat_lt d k.place ≡ true → KeptStands d k j
      stands j k e t = record {
        place = (let p = ap (λ j. j.place) e in grind arith);
        command = ap (λ j. j.command) e;
      }

      some_stands : (j : Kept) (x : Option Kept) → IsSomeAnd x (λ k. (j ≡ lowered d k) × (nat_lt d k.place ≡ true))
          → IsSomeAnd x (λ k. KeptStands d k j)
      some_stands j None h = h
      some_stands j (Some k) h = stands j k h.0 h.1

      none_stands : (x : Option Kept) → kept_under A key ≡ x → Each (λ k. q k ≡ true → nat_lt d k.place ≡ false) A.kept
          → MatchOption x (Unit {0}) (λ k. k.place < d + 1)
      none_stands None e all = tt
      none_stands (Some k) e all =
          gone_then k (each-found (λ k. q k ≡ true → nat_lt d k.place ≡ false) q k A.kept all e
          (found_passes q k A.kept e))

      by : (y : Option Kept) → kept_under B key ≡ y
          → KeyStands d (kept_under A key) y
      by None e = none_stands (kept_under A key) refl
          (find-taken q (lowered d) (λ k. nat_lt d k.place) (λ k. refl) A.kept e)
      by (Some j) e = some_stands j (kept_under A key)
          (one-taken q (lowered d) (λ k. nat_lt d k.place) (λ k. refl) A.kept (one_key key A.kept good.kept_in_order)
          j e)

  pub stands_left : StandsFor d A B
  stands_left = record {
    clock = refl;
    fields = fields_stand;
    orders = stand;
    places = places_gone;
    kept = keys_left;
  }

  pub open_same : open_orders B ≡ open_orders A
  open_same = count-same A.orders B.orders stand

-- ---- how many orders there are

pub few_left : (also : Order → Bool) (K : ℕ) (A : Ledger)
    → length (rolled_with also K A).orders ≤ open_orders A + count_by also A.orders
few_left also K A = go A.orders
  where
    t : Order → Bool
    t = stays also

    go : (os : List Order) → length (taken rolled_order t os) ≤ count_by is_open os + count_by also os
    go [] = omega arith
    go (o ∷ os) = by (is_open o) refl (also o) refl (go os)
      where
        by : (b : Bool) → is_open o ≡ b → (c : Bool) → also o ≡ c
            → length (taken rolled_order t os) ≤ count_by is_open os + count_by also os
            → length (map rolled_order (cond (b || c) (o ∷ filter t os) (filter t os)))
            ≤ count_by is_open (o ∷ os) + count_by also (o ∷ os)
        by b e c d more = let x = counted is_open o os in let y = counted also o os in grind arith
