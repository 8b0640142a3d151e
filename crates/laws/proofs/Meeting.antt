-- Ledgers that stand for one another in turn, and two that are rolled up at different times.
use Rattle.ledger.proofs.Prelude.{Bool, Each, Good, IsFalse, IsInRange, IsKey, Kept, Ledger, List, MatchOption, None}
use Rattle.ledger.proofs.Prelude.{Option, Order, Refused, Reply, Request, Runs, Some, [], ap, arith, cond, false}
use Rattle.ledger.proofs.Prelude.{filter, inl, inr, is_open, is_settled, kept_under, map, places, refl, subst, sym}
use Rattle.ledger.proofs.Prelude.{true, true≢false, ◌+◌, ◌-◌, ◌||◌, ◌∙◌, ◌∷◌, ◌≡◌, ◌≢◌, ◌≤◌, ℕ, bytes_eq}
use Rattle.std.specs.List.{AllZip}
use Rattle.words.specs.declared.reply.Refusal.TheVariants as refusal
use Rattle.ledger.specs.declared.order.Line.{Line}
use Rattle.ledger.proofs.Lists.{each-found}
use Rattle.ledger.proofs.Runs.{runs_once, runs_stay_good}
use Rattle.ledger.specs.Rolled.{is_recent_deal, rolled, gone, left_of, rolled_order, rolled_with, stays}
use Rattle.laws.specs.Roll.{KeyStands, FieldStands, Knows, LineStands, OrderStands, OrdersStand, StandsFor, raise_reply}
use Rattle.laws.proofs.Filtered.{taken}
use Rattle.laws.proofs.Rolled.{good_left, stands_left}
use Rattle.laws.proofs.Sides.{open_as, settled_as}
use Rattle.laws.proofs.Standing.{skip}
use Rattle.laws.proofs.Staying.{stays_alike}
use Rattle.laws.proofs.Recent.{recent_both}

-- ---- in turn

line_in_turn : (b : Bool) (l m n : Line) → LineStands b l m → LineStands b m n → LineStands b l n
line_in_turn b l m n s t = record {
  way = t.way ∙ s.way;
  branch = t.branch ∙ s.branch;
  article = t.article ∙ s.article;
  rest = (let x = s.rest in let y = t.rest in omega arith);
  loose = λ e. t.loose e ∙ s.loose e;
}

lines_in_turn : (b : Bool) (ls ms ns : List Line) → AllZip (LineStands b) ls ms → AllZip (LineStands b) ms ns
    → AllZip (LineStands b) ls ns
lines_in_turn b [] [] ns s t = t
lines_in_turn b [] (m ∷ ms) ns s t = absurd s
lines_in_turn b (l ∷ ls) [] ns s t = absurd s
lines_in_turn b (l ∷ ls) (m ∷ ms) [] s t = absurd t
lines_in_turn b (l ∷ ls) (m ∷ ms) (n ∷ ns) s t = (line_in_turn b l m n s.0 t.0, lines_in_turn b ls ms ns s.1 t.1)

order_in_turn : (o p q : Order) → OrderStands o p → OrderStands p q → OrderStands o q
order_in_turn o p q s t = record {
  number = t.number ∙ s.number;
  kind = t.kind ∙ s.kind;
  until = t.until ∙ s.until;
  state = t.state ∙ s.state;
  firm = t.firm ∙ s.firm;
  lines = lines_in_turn (is_settled o) o.lines p.lines q.lines s.lines
      (subst (λ b. AllZip (LineStands b) p.lines q.lines) (settled_as o p s) t.lines);
}

orders_in_turn : (os ps qs : List Order) → OrdersStand os ps → OrdersStand ps qs → OrdersStand os qs
orders_in_turn [] [] qs s t = t
orders_in_turn [] (p ∷ ps) qs s t = absurd s
orders_in_turn (o ∷ os) [] qs s t = skip o os qs s.0 (orders_in_turn os [] qs s.1 t)
orders_in_turn (o ∷ os) (p ∷ ps) [] (inl s) t =
    (sym (open_as o p s.0) ∙ t.0, orders_in_turn os ps [] s.1 t.1)
orders_in_turn (o ∷ os) (p ∷ ps) (q ∷ qs) (inl s) (inl t) =
    inl (order_in_turn o p q s.0 t.0, orders_in_turn os ps qs s.1 t.1)
orders_in_turn (o ∷ os) (p ∷ ps) (q ∷ qs) (inl s) (inr t) =
    inr (sym (open_as o p s.0) ∙ t.0, orders_in_turn os ps (q ∷ qs) s.1 t.1)
orders_in_turn (o ∷ os) (p ∷ ps) qs (inr s) t = skip o os qs s.0 (orders_in_turn os (p ∷ ps) qs s.1 t)

zip_in_turn : {X Y Z : Type 0} (P : X → Y → Type 0) (Q : Y → Z → Type 0) (R : X → Z → Type 0)
    → ((x : X) (y : Y) (z : Z) → P x y → Q y z → R x z) → (xs : List X) (ys : List Y) (zs : List Z) → AllZip P xs ys
    → AllZip Q ys zs → AllZip R xs zs
zip_in_turn P Q R to [] [] [] s t = tt
zip_in_turn P Q R to [] [] (z ∷ zs) s t = absurd t
zip_in_turn P Q R to [] (y ∷ ys) zs s t = absurd s
zip_in_turn P Q R to (x ∷ xs) [] zs s t = absurd s
zip_in_turn P Q R to (x ∷ xs) (y ∷ ys) [] s t = absurd t
zip_in_turn P Q R to (x ∷ xs) (y ∷ ys) (z ∷ zs) s t = (to x y z s.0 t.0, zip_in_turn P Q R to xs ys zs s.1 t.1)

-- the other way round
zip_back : {X Y : Type 0} (P : X → Y → Type 0) (R : Y → X → Type 0) → ((x : X) (y : Y) → P x y → R y x)
    → (xs : List X) (ys : List Y) → AllZip P xs ys → AllZip R ys xs
zip_back P R to [] [] s = tt
zip_back P R to [] (y ∷ ys) s = absurd s
zip_back P R to (x ∷ xs) [] s = absurd s
zip_back P R to (x ∷ xs) (y ∷ ys) s = (to x y s.0, zip_back P R to xs ys s.1)

fields_in_turn : (A B C : Ledger) → AllZip (FieldStands A B) A.fields B.fields
    → AllZip (FieldStands B C) B.fields C.fields
    → AllZip (FieldStands A C) A.fields C.fields
fields_in_turn A B C s t = zip_in_turn (FieldStands A B) (FieldStands B C) (FieldStands A C)
    (λ f g h x y. record {
      name = y.name ∙ x.name;
      lo = y.lo ∙ x.lo;
      hi = y.hi ∙ x.hi;
      settled = y.settled ∙ x.settled;
    }) A.fields B.fields C.fields s t

fields_back : (A B : Ledger) → AllZip (FieldStands A B) A.fields B.fields → AllZip (FieldStands B A) B.fields A.fields
fields_back A B s = zip_back (FieldStands A B) (FieldStands B A)
    (λ f g x. record { name = sym x.name; lo = sym x.lo; hi = sym x.hi; settled = sym x.settled }) A.fields B.fields s

keys_in_turn : (d e : ℕ) (x y z : Option Kept) → KeyStands d x y → KeyStands e y z → KeyStands (d + e) x z
keys_in_turn d e None None None s t = tt
keys_in_turn d e None None (Some i) s t = absurd t
keys_in_turn d e None (Some j) z s t = absurd s
keys_in_turn d e (Some k) None None s t = omega arith
keys_in_turn d e (Some k) None (Some i) s t = absurd t
keys_in_turn d e (Some k) (Some j) None s t = let p = s.place in omega arith
keys_in_turn d e (Some k) (Some j) (Some i) s t =
    record { place = (let p = s.place in let q = t.place in omega arith); command = t.command ∙ s.command }

pub stand_in_turn : (d e : ℕ) (A B C : Ledger) → StandsFor d A B → StandsFor e B C → StandsFor (d + e) A C
stand_in_turn d e A B C s t = record {
  clock = t.clock ∙ s.clock;
  fields = fields_in_turn A B C s.fields t.fields;
  orders = orders_in_turn A.orders B.orders C.orders s.orders t.orders;
  places = (let p = s.places in let q = t.places in omega arith);
  kept = λ key. keys_in_turn d e (kept_under A key) (kept_under B key) (kept_under C key) (s.kept key) (t.kept key);
}

-- ---- where both are rolled up

line_left_both : (b : Bool) (l m : Line) → LineStands b l m → LineStands b (left_of b l) (left_of b m)
line_left_both true l m s = record {
  way = s.way;
  branch = s.branch;
  article = s.article;
  rest = (let e = s.rest in omega arith);
  loose = λ e. absurd (true≢false e);
}
line_left_both false l m s = s

lines_left_both : (b c : Bool) → c ≡ b → (ls ms : List Line) → AllZip (LineStands b) ls ms
    → AllZip (LineStands b) (map (left_of b) ls) (map (left_of c) ms)
lines_left_both b c e [] [] s = tt
lines_left_both b c e [] (m ∷ ms) s = absurd s
lines_left_both b c e (l ∷ ls) [] s = absurd s
lines_left_both b c e (l ∷ ls) (m ∷ ms) s = (
  subst (λ x. LineStands b (left_of b l) (left_of x m)) (sym e) (line_left_both b l m s.0),
  lines_left_both b c e ls ms s.1,
)

order_left_both : (o p : Order) → OrderStands o p → OrderStands (rolled_order o) (rolled_order p)
order_left_both o p s = record {
  number = s.number;
  kind = s.kind;
  until = s.until;
  state = s.state;
  firm = s.firm;
  lines = lines_left_both (is_settled o) (is_settled p) (settled_as o p s) o.lines p.lines s.lines;
}

-- an order that has ended is left out, or stays only here
ended_left : (also : Order → Bool) (o : Order) (os ps : List Order) → IsFalse (is_open o)
    → OrdersStand (taken rolled_order (stays also) os) ps
    → OrdersStand (map rolled_order (cond (stays also o) (o ∷ filter (stays also) os) (filter (stays also) os))) ps
ended_left also o os ps closed more = by (stays also o)
  where
    by : (b : Bool) → OrdersStand (map rolled_order (cond b (o ∷ filter (stays also) os) (filter (stays also) os))) ps
    by true = skip (rolled_order o) (taken rolled_order (stays also) os) ps closed more
    by false = more

-- what stays of the one, stays of the other
abbrev pub NamesMore : (Order → Bool) → (Order → Bool) → Type 0
NamesMore also less = (o p : Order) → OrderStands o p → less p ≡ true → also o ≡ true

orders_left_both : (also less : Order → Bool) → NamesMore also less → (os ps : List Order) → OrdersStand os ps
    → OrdersStand (taken rolled_order (stays also) os) (taken rolled_order (stays less) ps)
orders_left_both also less more [] [] s = tt
orders_left_both also less more [] (p ∷ ps) s = absurd s
orders_left_both also less more (o ∷ os) [] s = ended_left also o os [] s.0 (orders_left_both also less more os [] s.1)
orders_left_both also less more (o ∷ os) (p ∷ ps) (inr s) =
    ended_left also o os (taken rolled_order (stays less) (p ∷ ps)) s.0
    (orders_left_both also less more os (p ∷ ps) s.1)
orders_left_both also less more (o ∷ os) (p ∷ ps) (inl s) =
    by (is_open o) refl (is_open p) (open_as o p s.0) (less p) refl (orders_left_both also less more os ps s.1)
  where
    by : (b : Bool) → is_open o ≡ b → (c : Bool) → c ≡ is_open o → (x : Bool) → less p ≡ x
        → OrdersStand (taken rolled_order (stays also) os) (taken rolled_order (stays less) ps)
        → OrdersStand (map rolled_order (cond (b || also o) (o ∷ filter (stays also) os) (filter (stays also) os)))
        (map rolled_order (cond (c || x) (p ∷ filter (stays less) ps) (filter (stays less) ps)))
    by true e true d x y rest = inl (order_left_both o p s.0, rest)
    by true e false d x y rest = absurd (true≢false (sym (d ∙ e)))
    by false e true d x y rest = absurd (true≢false (d ∙ e))
    by false e false d true y rest = here (also o) (more o p s.0 y)
      where
        here : (z : Bool) → z ≡ true
            → OrdersStand (map rolled_order (cond z (o ∷ filter (stays also) os) (filter (stays also) os)))
            (rolled_order p ∷ taken rolled_order (stays less) ps)
        here true w = inl (order_left_both o p s.0, rest)
        here false w = absurd (true≢false (sym w))
    by false e false d false y rest = here (also o)
      where
        here : (z : Bool)
            → OrdersStand (map rolled_order (cond z (o ∷ filter (stays also) os) (filter (stays also) os)))
            (taken rolled_order (stays less) ps)
        here true = skip (rolled_order o) (taken rolled_order (stays also) os) (taken rolled_order (stays less) ps) e
            rest
        here false = rest

module _ (also less : Order → Bool) (named : NamesMore also less) (K d : ℕ) (A C : Ledger) (good : Good A) (gc : Good C)
    (s : StandsFor d A C) where
  abbrev P : Ledger
  P = rolled_with also K A

  abbrev Q : Ledger
  Q = rolled_with less K C

  to_p : StandsFor (gone K A) A P
  to_p = stands_left also K A good

  to_q : StandsFor (gone K C) C Q
  to_q = stands_left less K C gc

  low : gone K A ≤ d + gone K C
  low = let p = s.places in omega arith

  keys_left_both : (k' k j j' : Option Kept) → KeyStands (gone K A) k k' → KeyStands d k j → KeyStands (gone K C) j j'
      → MatchOption j' (Unit {0}) (λ i. 1 ≤ i.place) → KeyStands (d + gone K C - gone K A) k' j'
  keys_left_both None k j None x y z one = tt
  keys_left_both (Some k') None j None x y z one = absurd x
  keys_left_both (Some k') (Some k) None None x y z one = let p = x.place in omega arith
  keys_left_both (Some k') (Some k) (Some j) None x y z one = let p = x.place in let q = y.place in omega arith
  keys_left_both k' k None (Some i) x y z one = absurd z
  keys_left_both k' None (Some j) (Some i) x y z one = absurd y
  keys_left_both None (Some k) (Some j) (Some i) x y z one =
      absurd (let p = y.place in let q = z.place in let l = low in omega arith)
  keys_left_both (Some k') (Some k) (Some j) (Some i) x y z one = record {
    place = (let p = x.place in let q = y.place in let r = z.place in let l = low in omega arith);
    command = z.command ∙ y.command ∙ sym x.command;
  }

  first_place : (x : Option Kept) (key : List ℕ) → kept_under Q key ≡ x → MatchOption x (Unit {0}) (λ i. 1 ≤ i.place)
  first_place None key e = tt
  first_place (Some i) key e = (each-found (λ k. (1 ≤ k.place) × (k.place ≤ places Q)) (λ k. bytes_eq k.key key) i
      Q.kept
      (good_left less K C gc).places_in_range e).0

  pub stand_rolled : StandsFor (d + gone K C - gone K A) P Q
  stand_rolled = record {
    clock = s.clock;
    fields = fields_in_turn P A Q (fields_back A P to_p.fields) (fields_in_turn A C Q s.fields to_q.fields);
    orders = orders_left_both also less named A.orders C.orders s.orders;
    places = (let p = s.places in let q = to_p.places in let r = to_q.places in let l = low in omega arith);
    kept = λ key. keys_left_both (kept_under P key) (kept_under A key) (kept_under C key) (kept_under Q key)
        (to_p.kept key)
        (s.kept key) (to_q.kept key) (first_place (kept_under Q key) key refl);
  }

pub stand_rolled_up : (K d : ℕ) (A C : Ledger) → Good A → Good C → StandsFor d A C
    → StandsFor (d + gone K C - gone K A) (rolled K A) (rolled K C)
stand_rolled_up K d A C good gc s =
    stand_rolled (is_recent_deal K A) (is_recent_deal K C) (recent_both K d A C gc s) K d A C good gc s

-- ---- two for which one ledger stands

pub runs_meet : (a b : ℕ) (A B C : Ledger) (rs : List Request) (ps qs : List Reply) (M N : Ledger)
    → Good A → Good B → Good C → Each (λ r. IsKey r.key × IsInRange r.command) rs → StandsFor a A C → StandsFor b B C
    → Each (Knows A C) rs → Each (Knows B C) rs → Runs A rs ps M → Runs B rs qs N
    → Each (λ p. p ≢ Refused refusal.Full 0) ps → Each (λ q. q ≢ Refused refusal.Full 0) qs
    → (shown : List Reply) × (D : Ledger) × Good D × (ps ≡ map (raise_reply a) shown) × (qs ≡ map (raise_reply b) shown)
    × StandsFor a M D × StandsFor b N D
runs_meet a b A B C rs ps qs M N ga gb gc range s t knows knows' run run' room room' =
    let x = stays_alike a A C rs ps M ga gc range s knows run room in
    let y = stays_alike b B C rs qs N gb gc range t knows' run' room' in
    let same = runs_once C rs x.0 y.0 x.1 y.1 x.2 y.2 in (
      x.0,
      x.1,
      runs_stay_good C rs x.0 x.1 gc range x.2,
      x.3,
      y.3 ∙ ap (map (raise_reply b)) (sym same.0),
      x.4,
      subst (λ X. StandsFor b N X) (sym same.1) y.4,
    )
