-- From a good ledger every accepted command leaves a good one.
use Rattle.ledger.proofs.Prelude.{Aborted, Answers, AsksNoStock, Bool, Changes, Command, Committed, Each, Field}
use Rattle.ledger.proofs.Prelude.{FirstFailure, Good, IsGoodField, IsGoodKept, IsGoodLine, IsGoodOrder, IsInRange}
use Rattle.ledger.proofs.Prelude.{IsKey, IsLevel, IsMoment, IsNone, IsOpenLine, IsQty, IsSafe, IsSome, IsSomeAnd}
use Rattle.ledger.proofs.Prelude.{IsStrictlySortedBy, IsTransferPair, IsTrue, Kept, Kind, Ledger, Line, List}
use Rattle.ledger.proofs.Prelude.{MayHoldMore, Name, None, OpenLine, Opens, Order, Part, Plain, Reply, Request, Share}
use Rattle.ledger.proofs.Prelude.{Some, State, Transfer, Way, [], accept, add_hold, add_part, ap, arith, bytes_eq}
use Rattle.ledger.proofs.Prelude.{change_lines, checks, effect, expires, false, field_named, find, full, held_to_add}
use Rattle.ledger.proofs.Prelude.{held_to_take, hold_more, if_add, if_take, if◌then◌else◌, insert_in_order, ints, is_lt}
use Rattle.ledger.proofs.Prelude.{is_open, is_some, is_transfer, kept_under, length, line_checks, line_name, line_on}
use Rattle.ledger.proofs.Prelude.{lower_held, map, name_cmp, name_of, nat_abs, nat_cmp, nat_list_cmp_total, nat_lt}
use Rattle.ledger.proofs.Prelude.{neg_ℤ, new_line, new_order, numbered, on, open_orders, open_state, order_numbered}
use Rattle.ledger.proofs.Prelude.{part_of, places, pos, raise_held, raise_used, recursion_from_All, refl, same_name}
use Rattle.ledger.proofs.Prelude.{set_firm, set_state, settled, share_of, slice_cmp, steps, steps_of, subst, sym}
use Rattle.ledger.proofs.Prelude.{take_part, total, transfer_lines, true, true≢false, with_order, ℕ, ℤ, ◌++◌, ◌+ℤ◌, ◌+◌}
use Rattle.ledger.proofs.Prelude.{◌-ℤ◌, ◌<◌, ◌==◌, ◌∙◌, ◌∷◌, ◌≡◌, ◌≤ℤ◌, ◌≤◌}
use Rattle.words.specs.declared.command.Command.TheVariants as command
use Rattle.escrow.specs.Ranges.{IsOrderNo}
use Rattle.words.specs.OpenLines.{AreOpenLines}
use Rattle.ledger.proofs.Sums.{change_order, each, each-both, each-imp, each-insert, each-map, each-of-push, least_if}
use Rattle.ledger.proofs.Sums.{none_found, total-eq, total-not_negative, with_move}
use Rattle.ledger.proofs.GoodParts.{Parts, StillThere, apart_lines, changed, changing, closing, equal_name, fewer_open}
use Rattle.ledger.proofs.GoodParts.{line_kept, move_kept, name_cmp_total, not_many, order_kept, other_key}
use Rattle.ledger.proofs.Bounds.{HasRoom, Sound, room_from_safe}
use Rattle.ledger.proofs.Safety.{bounding, bounding_names, not_false, safe_after, still_bounded}
use Rattle.ledger.specs.Next.{with_bounds}
use Rattle.ledger.proofs.Lists.{at_number, count-fewer, count-insert, distinct-insert, each-all, each-two, each-unmap}
use Rattle.ledger.proofs.Lists.{find-insert, length-insert, length-of-map, length-of-push, sorted-insert, sorted-push}
use Rattle.ledger.proofs.Lists.{total-has}
use Rattle.ledger.proofs.FieldNames.{OneOn, name_is, same_self}
use Rattle.ledger.proofs.Passing.{AllPass, all_pass, none_if_not_some, open_there, takes_more}
use Rattle.ledger.proofs.Falls.{StepFalls, fit_from_good, sounds_from_good, steps_fall}
use Rattle.ledger.proofs.Asks.{Room, loose_share, only_held, room_order, sound_more}
use Rattle.ledger.proofs.Steps.{EffectGoes, effect_goes, numbers_after}

-- what is held on a field that is there is a level

level : (w : Way) (h lo hi : ℕ) (s t a : ℤ) → pos (if_take w h) ≤ℤ t → pos (if_add w h) ≤ℤ a → pos lo ≤ℤ (s -ℤ t)
    → (s +ℤ a) ≤ℤ pos hi → hi ≤ 1000000000 → h ≤ 1000000000
level b h lo hi s t a p q r u v = grind arith

find_named : (P : Field → Type 0) (name : Name) (fs : List Field) → Each P fs
    → IsSome (find (λ e. same_name name e.name) fs) → (f : Field) × (f.name ≡ name) × P f
find_named P name [] h e = absurd (true≢false (sym e))
find_named P name (f ∷ fs) h e = step (same_name name f.name) refl e (λ k. find_named P name fs h.1 k)
  where
    step : (b : Bool) → same_name name f.name ≡ b
        → IsSome (if b then Some f else find (λ e. same_name name e.name) fs)
        → (IsSome (find (λ e. same_name name e.name) fs) → (f : Field) × (f.name ≡ name) × P f)
        → (f : Field) × (f.name ≡ name) × P f
    step true t e more = (f, sym (name_is name f.name t), h.0)
    step false t e more = more e

-- what a line of an order counts for is part of what all orders count for on its field
in_all : (part : Part) → ((w : Way) (s : Share) → pos 0 ≤ℤ part w s) → (os : List Order)
    → Each (λ o. Each (λ l. part l.way (share_of o.state o.firm l) ≤ℤ total (part_of part (line_name l)) os) o.lines) os
in_all part least os = each-imp
    (λ o h. each-imp (λ l k. own o l (total (part_of part (line_name l)) os) (h (line_name l))
    (k (line_name l))) o.lines
    (each-all (λ f l. one o f l ≤ℤ part_of part f o) o.lines (λ f. total-has (one o f) (one_least o f) o.lines))) os
    (each-all (λ f o. part_of part f o ≤ℤ total (part_of part f) os) os
    (λ f. total-has (part_of part f) (λ o. total-not_negative (one o f) (one_least o f) o.lines) os))
  where
    one : Order → Name → Line → ℤ
    one o f l = if on f l then part l.way (share_of o.state o.firm l) else pos 0

    one_least : (o : Order) (f : Name) (l : Line) → pos 0 ≤ℤ one o f l
    one_least o f l = least_if (on f l) _ (least l.way (share_of o.state o.firm l))

    own : (o : Order) (l : Line) (all : ℤ) → part_of part (line_name l) o ≤ℤ all
        → one o (line_name l) l ≤ℤ part_of part (line_name l) o → part l.way (share_of o.state o.firm l) ≤ℤ all
    own o l all h k =
        let itself = ap (λ b. if b then part l.way (share_of o.state o.firm l) else pos 0)
        (same_self (line_name l)) in
        omega (arith, ints)

-- where it is open and not firm, its lines on fields that are there hold levels
abbrev HasLevels : Ledger → Order → Type 0
HasLevels B o = is_open o ≡ true → o.firm ≡ false → Each (λ l. IsSome (field_named B (line_name l)) → IsLevel l.held) o.lines

held_levels : (B : Ledger) → Each IsGoodField B.fields → Room B → Each (HasLevels B) B.orders
held_levels B good room =
    each-both (λ o t a e d.
    each-both (λ l u v some. of_line o l (loose_share o.state o.firm l e d) u v some) o.lines t a) B.orders
    (in_all take_part (λ w s. omega (arith, ints)) B.orders) (in_all add_part (λ w s. omega (arith, ints)) B.orders)
  where
    of_line : (o : Order) (l : Line) → share_of o.state o.firm l ≡ only_held l.held
        → take_part l.way (share_of o.state o.firm l) ≤ℤ total (part_of take_part (line_name l)) B.orders
        → add_part l.way (share_of o.state o.firm l) ≤ℤ total (part_of add_part (line_name l)) B.orders
        → IsSome (field_named B (line_name l)) → IsLevel l.held
    of_line o l share u v some =
        let f = find_named (λ f. IsGoodField f × HasRoom B f) (line_name l) B.fields
        (each-two IsGoodField (HasRoom B) B.fields good room) some in
        let name : f.0.name ≡ line_name l = f.1 in
        level l.way l.held f.0.lo f.0.hi (settled B f.0) (held_to_take B f.0.name) (held_to_add B f.0.name)
        (here take_part f.0.name (sym name) u) (here add_part f.0.name (sym name) v) f.2.1.0 f.2.1.1 f.2.0.hi
      where
        here : (part : Part) (n : Name) → line_name l ≡ n
            → part l.way (share_of o.state o.firm l) ≤ℤ total (part_of part (line_name l)) B.orders
            → part l.way (only_held l.held) ≤ℤ total (part_of part n) B.orders
        here part n e h = subst (λ k. part l.way (only_held l.held) ≤ℤ total (part_of part k) B.orders) e
            (subst (λ s. part l.way s ≤ℤ total (part_of part (line_name l)) B.orders) share h)

-- a delivery and a write-off
moving : (A : Ledger) (f : Name) (z : ℤ) (kept : List Kept) → Good A → length kept ≡ places A + 1
    → IsSome (field_named A f) → IsQty (nat_abs z) → places A + open_orders A + 1 ≤ 200000
    → Parts (record (with_move f z A) { kept = kept })
moving A f z kept g more there size room = grind (arith, each-imp, each-of-push, move_kept, order_kept, sorted-push)

-- a new field
fielding : (A : Ledger) (f : Field) (kept : List Kept) → Good A → IsGoodField f → length kept ≡ places A + 1
    → (IsSome (field_named A f.name) → ⊥) → (10000 ≤ length A.fields → ⊥) → places A + open_orders A + 1 ≤ 200000
    → Parts (record A { fields = insert_in_order (λ f g. is_lt (name_cmp f.name g.name)) f A.fields; kept = kept })
fielding A f kept g good more new few room =
    let precedes : Field → Field → Bool = λ f g. is_lt (name_cmp f.name g.name) in
    let B : Ledger = record A { fields = insert_in_order precedes f A.fields; kept = kept } in
    let still : StillThere A B = λ n x. find-insert (λ e. same_name n e.name) precedes f A.fields x in
    record {
      clock = g.clock;
      fields = each-insert IsGoodField precedes f A.fields good g.fields;
      fields_in_order = sorted-insert name_cmp name_cmp_total (λ f. f.name) precedes (λ a b. refl) f A.fields
          (each-imp (λ e x y. true≢false (sym (equal_name f.name e.name y) ∙ x)) A.fields
          (none_found (λ e. same_name f.name e.name) A.fields
          (none_if_not_some (find (λ e. same_name f.name e.name) A.fields) new))) g.fields_in_order;
      few_fields = (let e = length-insert precedes f A.fields in let d = not_many 10000 (length A.fields) few in omega arith);
      moves = each-imp (move_kept A B still (omega arith)) A.moves g.moves;
      moves_in_order = g.moves_in_order;
      orders = each-imp (order_kept A B still) A.orders g.orders;
      orders_in_order = g.orders_in_order;
      few_orders = g.few_orders;
      room = omega arith;
    }

-- other bounds
rebounding : (A : Ledger) (n : Name) (lo hi : ℕ) (kept : List Kept) → Good A → IsLevel lo → IsLevel hi
    → length kept ≡ places A + 1 → places A + open_orders A + 1 ≤ 200000
    → Parts (record A { fields = map (bounding n lo hi) A.fields; kept = kept })
rebounding A n lo hi kept g low high more room =
    let B : Ledger = record A { fields = map (bounding n lo hi) A.fields; kept = kept } in
    let still : StillThere A B = still_bounded A B n lo hi refl in
    record {
      clock = g.clock;
      fields = each-map IsGoodField (bounding n lo hi) A.fields
          (each-imp (λ f x. by (same_name n f.name) f x) A.fields g.fields);
      fields_in_order = subst (IsStrictlySortedBy name_cmp) (sym (bounding_names n lo hi A.fields)) g.fields_in_order;
      few_fields = (let e = length-of-map (bounding n lo hi) A.fields in let d = g.few_fields in omega arith);
      moves = each-imp (move_kept A B still (omega arith)) A.moves g.moves;
      moves_in_order = g.moves_in_order;
      orders = each-imp (order_kept A B still) A.orders g.orders;
      orders_in_order = g.orders_in_order;
      few_orders = g.few_orders;
      room = omega arith;
    }
  where
    by : (b : Bool) (f : Field) → IsGoodField f → IsGoodField (if b then with_bounds lo hi f else f)
    by b f x = grind arith

-- a new order
fields_there : (A : Ledger) (order : List OpenLine → Order) (before ls : List OpenLine)
    → AllPass (line_checks A order before ls) → Each (λ l. IsSome (field_named A (line_name (new_line l)))) ls
fields_there A order before [] p = tt
fields_there A order before (l ∷ ls) p =
    (not_false (is_some (field_named A (line_name (new_line l)))) p.1.0, fields_there A order (before ++ l ∷ []) ls p.1.1.1)

new_lines : (B : Ledger) (ls : List OpenLine) → Each (λ l. IsSome (field_named B (line_name (new_line l)))) ls
    → Each (λ l. IsQty l.qty) ls → Each (IsGoodLine B) (map new_line ls)
new_lines B [] there q = tt
new_lines B (l ∷ ls) there q =
    (record { field = there.0; held = (let a = q.0.1 in omega arith); used = omega arith }, new_lines B ls there.1 q.1)

opening : (A : Ledger) (n : ℕ) (k : Kind) (u : ℕ) (ls : List OpenLine) (kept : List Kept) → Good A
    → length kept ≡ places A + 1 → IsOrderNo n → IsMoment u → 1 ≤ length ls → length ls ≤ 64
    → Each (λ l. IsQty l.qty) ls
    → (IsTrue (is_transfer (new_order n k u ls)) → IsTransferPair (map new_line ls))
    → AllPass (line_checks A (new_order n k u) [] ls)
    → EffectGoes (Opens (new_order n k u ls)) A.orders → (100000 ≤ length A.orders → ⊥) → places A + open_orders A + 2 ≤ 200000
    → ((g : Name) → OneOn g (map new_line ls)) → Parts (record (with_order (new_order n k u ls) A) { kept = kept })
opening A n k u ls kept g more number until some few quantities pair pass new many room one =
    let o : Order = new_order n k u ls in
    let precedes : Order → Order → Bool = λ a b. nat_lt a.number b.number in
    let B : Ledger = record (with_order o A) { kept = kept } in
    let e = length-of-map new_line ls in
    record {
      clock = g.clock;
      fields = g.fields;
      fields_in_order = g.fields_in_order;
      few_fields = g.few_fields;
      moves = each-imp (move_kept A B (λ f x. x) (omega arith)) A.moves g.moves;
      moves_in_order = g.moves_in_order;
      orders = each-insert (IsGoodOrder B) precedes o A.orders
          (record {
            number = number;
            until = until;
            some = omega arith;
            few = omega arith;
            lines = new_lines B ls
                (fields_there A (new_order n k u) [] ls pass) quantities;
            apart = apart_lines (map new_line ls) one;
            transfer = pair;
            firm = λ e. absurd (true≢false (sym e));
          })
          (each-imp (order_kept A B (λ f x. x)) A.orders g.orders);
      orders_in_order = numbers_after (Opens o) A.orders new g.orders_in_order;
      few_orders = (let d = length-insert precedes o A.orders in let c = not_many 100000 (length A.orders) many in omega arith);
      room = (let c = count-insert is_open precedes o A.orders in omega arith);
    }

adding : (A : Ledger) (n : ℕ) (l : OpenLine) (kept : List Kept) → Good A
    → EffectGoes (Changes (numbered n) (add_hold l)) A.orders → length kept ≡ places A + 1
    → places A + open_orders A + 1 ≤ 200000 → IsSome (field_named A (line_name (new_line l))) → IsQty l.qty
    → Each (λ o. (o.number == n) ≡ true → MayHoldMore (line_name (new_line l)) l.way o) A.orders
    → Each (λ o. (o.number == n) ≡ true → IsNone (line_on o (line_name (new_line l))) → length o.lines ≤ 63) A.orders
    → Each Sound (change_order n (add_hold l) A).orders
    → Room (record (change_order n (add_hold l) A) { kept = kept })
    → Parts (record (change_order n (add_hold l) A) { kept = kept })
adding A n l kept g goes more full there qty takes_it fits sound room =
    changing A (numbered n) (add_hold l) A.clock kept g g.clock more goes
    (each-map (IsGoodOrder B) h A.orders
    (each-both (λ o x y. by o (o.number == n) x y.0.0 y.0.1 y.1.0 y.1.1) A.orders g.orders
    (each-two _ _ A.orders (each-two _ _ A.orders takes_it fits) (each-two _ _ A.orders (each-unmap Sound h A.orders sound)
    (each-unmap (HasLevels B) h A.orders (held_levels B g.fields room))))))
    (let c = fewer_open (numbered n) (add_hold l) A.orders goes in omega arith)
  where
    h : Order → Order
    h o = if o.number == n then add_hold l o else o

    B : Ledger
    B = changed h A.clock kept A

    name : Name
    name = line_name (new_line l)

    held : Bool → Order → Order
    held c o = if c then hold_more name l.qty o else record o { lines = o.lines ++ new_line l ∷ [] }

    raised : Line → Line
    raised m = if on name m then raise_held l.qty m else m

    raised_good : (t : Bool) (m : Line) → IsGoodLine A m
        → (if t then raise_held l.qty m else m).used ≤ (if t then raise_held l.qty m else m).held
        → (IsSome (field_named B (line_name (if t then raise_held l.qty m else m)))
        → IsLevel (if t then raise_held l.qty m else m).held)
        → IsGoodLine B (if t then raise_held l.qty m else m)
    raised_good t m x u v = grind arith

    held_more : (o : Order) → IsGoodOrder A o → MayHoldMore name l.way o → (c : Bool)
        → (c ≡ false → length o.lines ≤ 63) → Sound (held c o) → HasLevels B (held c o) → IsGoodOrder B (held c o)
    held_more o x t true fit s v =
        let e = length-of-map raised o.lines in let some = x.some in let few = x.few in
        record {
          number = x.number;
          until = x.until;
          some = omega arith;
          few = omega arith;
          lines = each-map (IsGoodLine B) raised o.lines
              (each-both (λ m p u. raised_good (on name m) m p u.0 u.1) o.lines x.lines
              (each-two _ _ o.lines (each-unmap (λ m. m.used ≤ m.held) raised o.lines s.used)
              (each-unmap (λ m. IsSome (field_named B (line_name m)) → IsLevel m.held) raised o.lines (v t.0 t.1))));
          apart = apart_lines (map raised o.lines) s.one;
          transfer = λ e. absurd (true≢false (sym e ∙ t.2));
          firm = λ e. absurd (true≢false (sym e ∙ t.1));
        }
    held_more o x t false fit s v =
        grind (
          arith,
          (each-imp (line_kept A B (λ f z. z)) o.lines x.lines),
          (length-of-push o.lines (new_line l)),
          apart_lines,
          each-of-push,
          line_kept,
          name,
        )

    by : (o : Order) (b : Bool) → IsGoodOrder A o
        → (b ≡ true → MayHoldMore name l.way o) → (b ≡ true → IsNone (line_on o name) → length o.lines ≤ 63)
        → Sound (if b then add_hold l o else o) → HasLevels B (if b then add_hold l o else o)
        → IsGoodOrder B (if b then add_hold l o else o)
    by o true x t fit s v = held_more o x (t refl) (is_some (line_on o name)) (fit refl) s v
    by o false x t fit s v = order_kept A B (λ f z. z) o x

kept_more : (A : Ledger) (k : Kept)
    → length (insert_in_order (λ a b. is_lt (slice_cmp nat_cmp a.key b.key)) k A.kept) ≡ places A + 1
kept_more A k = length-insert (λ a b. is_lt (slice_cmp nat_cmp a.key b.key)) k A.kept

-- the quantities of the lines of an `open`
pub quantities : (ls : List OpenLine) → AreOpenLines ls → Each (λ l. IsQty l.qty) ls
quantities ls h = each-imp (λ (l : OpenLine) (x : IsOpenLine l). x.qty) ls (recursion_from_All IsOpenLine ls h.each)

-- where there is room for a place more
closed : (A : Ledger) (names : Order → Bool) (change : Order → Order) (clock : ℕ) (kept : List Kept) → Good A
    → IsMoment clock → length kept ≡ places A + 1 → EffectGoes (Changes names change) A.orders
    → Each StepFalls (steps (Changes names change) A.orders)
    → places A + open_orders A + 1 ≤ 200000 → Parts (changed (λ o. if names o then change o else o) clock kept A)
closed A names change clock kept g moment more goes falls room =
    closing A names change clock kept g moment more goes falls
    (let fewer = fewer_open names change A.orders goes in omega arith)

-- the end of an order takes the place set aside for it
ended : (A : Ledger) (n : ℕ) (s : State) (kept : List Kept) → open_state s ≡ false → Good A
    → length kept ≡ places A + 1 → EffectGoes (Changes (numbered n) (set_state s)) A.orders
    → Each StepFalls (steps (Changes (numbered n) (set_state s)) A.orders)
    → IsSomeAnd (order_numbered A n) (λ o. is_open o ≡ true)
    → Parts (changed (λ o. if o.number == n then set_state s o else o) A.clock kept A)
ended A n s kept closed g more goes falls there =
    closing A (numbered n) (set_state s) A.clock kept g g.clock more goes falls
    (let fewer = count-fewer is_open (numbered n) (set_state s) A.orders (λ _. closed) there in
    let room = g.places_fit in
    omega arith)

parts_accept : (A : Ledger) (key : List ℕ) (c : Command) → Good A → IsInRange c → FirstFailure (checks A c) None
    → Parts (accept A (record { key = key; command = c }))
parts_accept A key c g i h = by c i h (all_pass (checks A c) h) (effect_goes A c g.orders_in_order h)
    (steps_fall A c (fit_from_good A g) h)
  where
    by : (c : Command) → IsInRange c → FirstFailure (checks A c) None → AllPass (checks A c)
        → EffectGoes (effect c) A.orders → (AsksNoStock c → Each StepFalls (steps_of A c))
        → Parts (accept A (record { key = key; command = c }))
    by (command.Field b a lo hi start) i h p goes falls =
        fielding A (record { name = record { branch = b; article = a }; lo = lo; hi = hi; start = start }) _ g
        (record { branch = i.0; article = i.1; lo = i.2; hi = i.3; start = i.4 }) (kept_more A _) p.1.1.0 p.1.0
        (omega arith)
    by (command.Deliver b a q) i h p goes falls =
        moving A (record { branch = b; article = a }) (pos q) _ g (kept_more A _) (not_false _ p.1.0) i.2 (omega arith)
    by (command.Writeoff b a q) i h p goes falls =
        moving A (record { branch = b; article = a }) (neg_ℤ (pos q)) _ g (kept_more A _) (not_false _ p.1.0)
        (subst IsQty (sym (grind arith)) i.2) (omega arith)
    by (command.Rebound b a lo hi) i h p goes falls =
        rebounding A (record { branch = b; article = a }) lo hi _ g i.2 i.3 (kept_more A _) (omega arith)
    by (command.Open n until lines) i h p goes falls =
        let r = room_order A n Plain until (sounds_from_good A g) g.fields_in_order lines
        (fit_from_good A g).room p.1.1.1.1 in
        opening A n Plain until lines _ g (kept_more A _) i.0 i.1 i.2.some i.2.fits (quantities lines i.2)
        (λ e. absurd (true≢false (sym e))) p.1.1.1.1 goes p.1.0 (omega arith) r.1
    by (command.Transfer n until a from to q) i h p goes falls =
        let ls : List OpenLine = transfer_lines a from to q in
        let r = room_order A n Transfer until (sounds_from_good A g) g.fields_in_order ls
        (fit_from_good A g).room p.1.1.1.1 in
        opening A n Transfer until ls _ g (kept_more A _) i.0 i.1 (omega arith) (omega arith) (i.5, (i.5, tt))
        (λ _. (refl, refl, refl, refl, refl)) p.1.1.1.1 goes p.1.0 (omega arith) r.1
    by (command.More n way b a q) i h p goes falls =
        let f : Name = record { branch = b; article = a } in
        let l : OpenLine = record { way = way; branch = b; article = a; qty = q } in
        let may = takes_more f way (order_numbered A n) p.1.0 p.1.1.0 p.1.1.1.0 p.1.1.1.1.0 p.1.1.1.1.1.1.0 in
        let t = at_number (MayHoldMore f way) n A.orders g.orders_in_order may in
        let few = at_number (λ o. IsNone (line_on o f) → length o.lines ≤ 63) n A.orders g.orders_in_order
        (grind arith) in
        let sound = sound_more A n l (sounds_from_good A g) g.orders_in_order may in
        adding A n l _ g goes (kept_more A _) (omega arith)
        (not_false _ p.1.1.1.1.1.0) i.3 t few sound
        (room_from_safe (accept A (record { key = key; command = command.More n way b a q })) sound
        (safe_after A (record { key = key; command = command.More n way b a q }) g h))
    by (command.Use n b a q) i h p goes falls = closed A (numbered n)
        (change_lines (name_of b a) (raise_used q)) A.clock _ g g.clock (kept_more A _)
        goes (falls tt) (omega arith)
    by (command.Release n b a q) i h p goes falls = closed A (numbered n)
        (change_lines (name_of b a) (lower_held q)) A.clock _ g g.clock (kept_more A _)
        goes (falls tt) (omega arith)
    by (command.Commit n) i h p goes falls =
        ended A n Committed _ refl g (kept_more A _) goes (falls tt)
        (open_there _ p.0 p.1.0)
    by (command.Abort n) i h p goes falls =
        ended A n Aborted _ refl g (kept_more A _) goes (falls tt)
        (open_there _ p.0 p.1.0)
    by (command.Firm n) i h p goes falls = closed A (numbered n) set_firm A.clock _ g g.clock (kept_more A _)
        goes (falls tt) (omega arith)
    by (command.Expire now) i h p goes falls = closed A (expires now) (set_state Aborted) now _ g i (kept_more A _)
        goes (falls tt) (omega arith)

keeping : (A : Ledger) (r : Request) → Good A → IsKey r.key → IsInRange r.command → kept_under A r.key ≡ None
    → Parts (accept A r) → IsSafe (accept A r) → Good (accept A r)
keeping A r g key range none p safe =
    let k : Kept = record { key = r.key; place = places A + 1; command = r.command } in
    let precedes : Kept → Kept → Bool = λ a b. is_lt (slice_cmp nat_cmp a.key b.key) in
    let more = kept_more A k in
    record {
      clock = p.clock;
      fields = p.fields;
      fields_in_order = p.fields_in_order;
      few_fields = p.few_fields;
      moves = p.moves;
      moves_in_order = p.moves_in_order;
      orders = p.orders;
      orders_in_order = p.orders_in_order;
      few_orders = p.few_orders;
      kept = each-insert IsGoodKept precedes k A.kept (record { key = key; command = range }) g.kept;
      kept_in_order = sorted-insert (slice_cmp nat_cmp) nat_list_cmp_total (λ k. k.key) precedes
          (λ a b. refl) k A.kept (each-imp (λ e x y. other_key e.key r.key x y) A.kept
          (none_found (λ k. bytes_eq k.key r.key) A.kept none)) g.kept_in_order;
      places_in_range = each-insert (λ k. (1 ≤ k.place) × (k.place ≤ places (accept A r))) precedes k A.kept
          (omega arith, omega arith) (each-imp (λ e x. (x.0, up e x.1 more)) A.kept g.places_in_range);
      places_apart = distinct-insert (λ k. k.place) precedes k A.kept
          (each-imp (λ e x. below e x.1) A.kept g.places_in_range) g.places_apart;
      places_fit = p.room;
      safe = safe;
    }
  where
    up : (e : Kept) → e.place ≤ places A → places (accept A r) ≡ places A + 1 → e.place ≤ places (accept A r)
    up e h m = omega arith

    below : (e : Kept) → e.place ≤ places A → e.place < places A + 1
    below e h = omega arith

pub good_accept : (A : Ledger) (r : Request) → Good A → IsKey r.key → IsInRange r.command → kept_under A r.key ≡ None
    → FirstFailure (checks A r.command) None → Good (accept A r)
good_accept A r g key range none h =
    keeping A r g key range none (parts_accept A r.key r.command g range h) (safe_after A r g h)

pub good_answer : (A : Ledger) (r : Request) (reply : Reply) (B : Ledger) → Good A → IsKey r.key → IsInRange r.command
    → Answers A r reply B → Good B
good_answer A r reply B g key range h = grind (arith, good_accept)
