-- A command that asks for stock: so much more is held or moved on one field. Where the check of the bound passes, each
-- field keeps its room; and the check, over all outcomes, is one comparison with the ledger before.
use Rattle.ledger.proofs.Prelude.{Add, Bool, BreaksBound, Changes, Each, Field, Good, IsDistinct, IsNone, IsSomeAnd}
use Rattle.ledger.proofs.Prelude.{IsStrictlySortedBy, Kind, Ledger, Line, List, MatchOption, MayHoldMore, Move, Name}
use Rattle.ledger.proofs.Prelude.{None, Open, OpenLine, Option, Order, Part, Share, Some, State, Take, Way, []}
use Rattle.ledger.proofs.Prelude.{add_hold, ap, append-nil, append_assoc, arith, bound, by_lt_z, common_steps, false}
use Rattle.ledger.proofs.Prelude.{field_named, find, held_to_add, held_to_take, hold_more, if_add, if_take}
use Rattle.ledger.proofs.Prelude.{if◌then◌else◌, ints, is_open, is_some, length, line_checks, line_name, line_on, map}
use Rattle.ledger.proofs.Prelude.{nat_cmp, nat_lt, new_line, new_order, next, numbered, on, open_state, order_numbered}
use Rattle.ledger.proofs.Prelude.{orders_after, part_of, pos, raise_held, refl, same_name, settled, share_of, signed}
use Rattle.ledger.proofs.Prelude.{subst, sym, total, true, true≢false, with_order, ℕ, ℤ, ◌++◌, ◌+ℤ◌, ◌+◌, ◌-ℤ◌, ◌<ℤ◌}
use Rattle.ledger.proofs.Prelude.{◌↔◌, ◌∙◌, ◌∷◌, ◌≡◌, ◌≤ℤ◌, ◌≤◌}
use Rattle.ledger.proofs.Bounds.{HasRoom, Sound, falls_below_iff, none-total, rises_above_iff}
use Rattle.ledger.proofs.Falls.{sounds_from_good}
use Rattle.ledger.proofs.FieldNames.{InOrder, OneOn, line_field, name_is, named, none_bad, one_on, one_on-map}
use Rattle.ledger.proofs.FieldNames.{one_on-push, other_way, same_self}
use Rattle.ledger.proofs.Lists.{NumbersInOrder, found_both}
use Rattle.ledger.proofs.Passing.{AllPass, none_if_not_some}
use Rattle.ledger.proofs.Steps.{IsPart, add_counts, no_settled, one_changes, settled_counts, take_counts}
use Rattle.ledger.proofs.Sums.{change_order, each, each-both, each-imp, each-insert, each-map, each-of-push, none_found}
use Rattle.ledger.proofs.Sums.{total-eq, total-insert, total-push, with_move}

-- ---- one field, that way

-- the field comes to less than its lower bound, or to more than its upper one
abbrev pub Beyond : Way → Ledger → Field → Type 0
Beyond Take B f = (settled B f -ℤ held_to_take B f.name) <ℤ pos f.lo
Beyond Add B f = pos f.hi <ℤ (settled B f +ℤ held_to_add B f.name)

-- it is within its bound
abbrev pub Within : Way → Ledger → Field → Type 0
Within Take B f = pos f.lo ≤ℤ (settled B f -ℤ held_to_take B f.name)
Within Add B f = (settled B f +ℤ held_to_add B f.name) ≤ℤ pos f.hi

abbrev across : Way → Way
across Take = Add
across Add = Take

abbrev pub Room : Ledger → Type 0
Room A = Each (HasRoom A) A.fields

not_less : (a b : ℤ) → (a <ℤ b → ⊥) → b ≤ℤ a
not_less a b h = by_lt_z a b (λ k. absurd (h k)) (λ k. k)

within_unless : (w : Way) (B : Ledger) (f : Field) → (Beyond w B f → ⊥) → Within w B f
within_unless Take B f h = not_less _ _ h
within_unless Add B f h = not_less _ _ h

pub room_side : (w : Way) (A : Ledger) (f : Field) → HasRoom A f → Within w A f
room_side Take A f r = r.0
room_side Add A f r = r.1

room_sides : (w : Way) (B : Ledger) → Each (Within w B) B.fields → Each (Within (across w) B) B.fields → Room B
room_sides Take B h k = each-both (λ f low high. (low, high)) B.fields h k
room_sides Add B h k = each-both (λ f high low. (low, high)) B.fields h k

-- the check of a bound looks at one number of the field under the name
pub bound_iff : (w : Way) (B : Ledger) (name : Name) (i : ℕ) → Each Sound B.orders
    → (bound w B name i).fails ↔ IsSomeAnd (field_named B name) (Beyond w B)
bound_iff Take B name i sound = falls_below_iff B sound name
bound_iff Add B name i sound = rises_above_iff B sound name

-- where it passes, that field is within its bound, and so are all, if the others are
pub within_tested : (w : Way) (B : Ledger) (name : Name) (i : ℕ) → Each Sound B.orders → InOrder B
    → ((bound w B name i).fails → ⊥) → Each (λ f. same_name name f.name ≡ false → Within w B f) B.fields
    → Each (Within w B) B.fields
within_tested w B name i sound sorted pass others =
    each-both (λ f other bad. one f (same_name name f.name) refl other bad) B.fields others
    (none_bad (Beyond w B) name B.fields sorted (λ h. pass ((bound_iff w B name i sound).1 h)))
  where
    one : (f : Field) (b : Bool) → same_name name f.name ≡ b → (same_name name f.name ≡ false → Within w B f)
        → (same_name name f.name ≡ true → Beyond w B f → ⊥) → Within w B f
    one f true e other bad = within_unless w B f (bad e)
    one f false e other bad = other e

-- in the other ledger, as in the one, the field is within that bound, if it is another field, and within the other bound
abbrev Stays : Way → Ledger → Ledger → Bool → Field → Type 0
Stays w A B here f = (here ≡ false → Within w A f → Within w B f) × (Within (across w) A f → Within (across w) B f)

-- the ledger has so much more that way, settled or held
abbrev HasMore : Way → Ledger → Ledger → ℕ → Field → Type 0
HasMore Take A B q f = settled B f -ℤ held_to_take B f.name ≡ (settled A f -ℤ held_to_take A f.name) -ℤ pos q
HasMore Add A B q f = settled B f +ℤ held_to_add B f.name ≡ (settled A f +ℤ held_to_add A f.name) +ℤ pos q

-- with other moves and orders
module _ (A : Ledger) (ms : List Move) (os : List Order) (sound : Each Sound os) where
  abbrev B : Ledger
  B = record A { moves = ms; orders = os }

  -- where the check of a bound passes, each field keeps its room
  room_more : (w : Way) (name : Name) (i : ℕ) → InOrder A → Room A
      → ((f : Field) → Stays w A B (same_name f.name name) f)
      → ((bound w B name i).fails → ⊥) → Room B
  room_more w name i sorted room stays pass = room_sides w B
      (within_tested w B name i sound sorted pass
      (each-imp (λ f r e. (stays f).0 (other_way name f.name e) (room_side w A f r)) A.fields room))
      (each-imp (λ f r. (stays f).1 (room_side (across w) A f r)) A.fields room)

  -- with so much more it is one comparison with the ledger before
  compared : (w : Way) (name : Name) (q i : ℕ) → ((f : Field) → f.name ≡ name → HasMore w A B q f)
      → (bound w B name i).fails ↔ BreaksBound w A name q
  compared Take name q i more = let iff = bound_iff Take B name i sound in (
    (λ h. named A.fields name _ _ (λ f e x. subst (λ z. z <ℤ pos f.lo) (more f e) x) (iff.0 h)),
    (λ h. iff.1 (named A.fields name _ _ (λ f e x. subst (λ z. z <ℤ pos f.lo) (sym (more f e)) x) h)),
  )
  compared Add name q i more = let iff = bound_iff Add B name i sound in (
    (λ h. named A.fields name _ _ (λ f e x. subst (λ z. pos f.hi <ℤ z) (more f e) x) (iff.0 h)),
    (λ h. iff.1 (named A.fields name _ _ (λ f e x. subst (λ z. pos f.hi <ℤ z) (sym (more f e)) x) h)),
  )

-- ---- a delivery and a write-off

module _ (A : Ledger) (name : Name) (q i : ℕ) (sound : Each Sound A.orders) where
  abbrev moved : Way → Ledger
  moved w = with_move name (signed w q) A

  moved_value : (w : Way) (f : Field)
      → settled (moved w) f ≡ settled A f +ℤ (if same_name f.name name then signed w q else pos 0)
  moved_value w f = grind (arith, ints, common_steps, total-push)

  moved_here : (w : Way) (f : Field) → f.name ≡ name → settled (moved w) f ≡ settled A f +ℤ signed w q
  moved_here w f e = grind (arith, ints, common_steps, moved_value, same_self)

  pub moved_test : (w : Way) → (bound w (moved w) name i).fails ↔ BreaksBound w A name q
  moved_test w = compared A (moved w).moves A.orders sound w name q i (λ f e. by w f (moved_here w f e))
    where
      by : (w : Way) (f : Field) → settled (moved w) f ≡ settled A f +ℤ signed w q → HasMore w A (moved w) q f
      by Take f value = omega (arith, ints)
      by Add f value = omega (arith, ints)

  pub room_moved : (w : Way) → InOrder A → Room A → ((bound w (moved w) name i).fails → ⊥) → Room (moved w)
  room_moved w sorted room pass =
      room_more A (moved w).moves A.orders sound w name i sorted room
      (λ f. by w f (same_name f.name name) (moved_value w f)) pass
    where
      by : (w : Way) (f : Field) (b : Bool) → settled (moved w) f ≡ settled A f +ℤ (if b then signed w q else pos 0)
          → Stays w A (moved w) b f
      by Take f true value = ((λ e. absurd (true≢false e)), λ high. omega (arith, ints))
      by Take f false value = ((λ e low. omega (arith, ints)), λ high. omega (arith, ints))
      by Add f true value = ((λ e. absurd (true≢false e)), λ low. omega (arith, ints))
      by Add f false value = ((λ e high. omega (arith, ints)), λ low. omega (arith, ints))

-- ---- so much more held on one field

-- a share of which so much is held
abbrev pub only_held : ℕ → Share
only_held q = record { settled = 0; held = q }

-- ..or none
abbrev held_if : Bool → ℕ → Share
held_if b q = only_held (if b then q else 0)

-- in each part the orders count for so much more on the field
abbrev AddsOn : Name → Way → Share → List Order → List Order → Type 0
AddsOn f w s os new =
    (part : Part) → IsPart part → total (part_of part f) new ≡ total (part_of part f) os +ℤ part w s

-- ..on that of the name alone
abbrev AddsAlone : Name → Way → ℕ → List Order → List Order → Type 0
AddsAlone name w q os new = (f : Name) → AddsOn f w (held_if (same_name f name) q) os new

-- with so much more held the one way, the sums are those of the other ledger
abbrev pub HoldsMore : Ledger → Ledger → Field → Way → ℕ → Type 0
HoldsMore A B f w q = (settled B f ≡ settled A f)
    × (held_to_take B f.name ≡ held_to_take A f.name +ℤ pos (if_take w q))
    × (held_to_add B f.name ≡ held_to_add A f.name +ℤ pos (if_add w q))

module _ (A : Ledger) (os : List Order) where
  abbrev C : Ledger
  C = record A { orders = os }

  holds_more : (f : Field) (w : Way) (q : ℕ) → AddsOn f.name w (only_held q) A.orders os → HoldsMore A C f w q
  holds_more f w q more = grind (arith, ints, common_steps, settled_counts, no_settled, take_counts, add_counts)

  has_more : (w : Way) (f : Field) (q : ℕ) → HoldsMore A C f w q → HasMore w A C q f
  has_more Take f q more = grind (arith, ints, common_steps)
  has_more Add f q more = grind (arith, ints, common_steps)

  held_test : (w : Way) (name : Name) (q i : ℕ) → Each Sound os → AddsOn name w (only_held q) A.orders os
      → (bound w C name i).fails ↔ BreaksBound w A name q
  held_test w name q i sound more = grind (arith, ints, common_steps, compared, has_more, holds_more)

  room_held : (w : Way) (name : Name) (q i : ℕ) → Each Sound os → InOrder A → Room A → AddsAlone name w q A.orders os
      → ((bound w C name i).fails → ⊥) → Room C
  room_held w name q i sound sorted room more pass =
      room_more A A.moves os sound w name i sorted room
      (λ f. by w f (same_name f.name name) (holds_more f w _ (more f.name))) pass
    where
      by : (w : Way) (f : Field) (b : Bool) → HoldsMore A C f w (if b then q else 0) → Stays w A C b f
      by Take f true more =
          let value = more.0 in let adds = more.2 in ((λ e. absurd (true≢false e)), λ high. omega (arith, ints))
      by Take f false more = let value = more.0 in let takes = more.1 in let adds = more.2 in
          ((λ e low. omega (arith, ints)), λ high. omega (arith, ints))
      by Add f true more =
          let value = more.0 in let takes = more.1 in ((λ e. absurd (true≢false e)), λ low. omega (arith, ints))
      by Add f false more = let value = more.0 in let takes = more.1 in let adds = more.2 in
          ((λ e high. omega (arith, ints)), λ low. omega (arith, ints))

-- what a line that holds so much counts for
if_held : (part : Part) → IsPart part → (b : Bool) (w : Way) (q : ℕ)
    → (if b then part w (only_held q) else pos 0) ≡ part w (held_if b q)
if_held part is true w q = refl
if_held part is false w q = sym (is.nothing w)

-- ---- a new order, line by line

pub map-push : (ls : List OpenLine) (l : OpenLine) → map new_line (ls ++ l ∷ []) ≡ map new_line ls ++ new_line l ∷ []
map-push [] l = refl
map-push (m ∷ ms) l = λ i. new_line m ∷ map-push ms l i

-- one more line, on a field that no line before is on
pub fresh-push : (ls : List OpenLine) (l : OpenLine) → ((g : Name) → OneOn g (map new_line ls))
    → find (on (line_field l)) (map new_line ls) ≡ None → (g : Name) → OneOn g (map new_line (ls ++ l ∷ []))
fresh-push ls l one none g =
    rw (map-push ls l)
    (one_on-push g (map new_line ls) (new_line l) (one g) (none_found (on (line_field l)) (map new_line ls) none))

pub fresh-sound : (n : ℕ) (k : Kind) (u : ℕ) (ls : List OpenLine) → ((g : Name) → OneOn g (map new_line ls))
    → Sound (new_order n k u ls)
fresh-sound n k u ls one =
    record { used = each-map (λ l. l.used ≤ l.held) new_line ls (each (λ l. omega arith) ls); one = one }

pub with_sound : (A : Ledger) (o : Order) → Sound o → Each Sound A.orders → Each Sound (with_order o A).orders
with_sound A o own sound = each-insert Sound (λ a b. nat_lt a.number b.number) o A.orders own sound

module _ (A : Ledger) (n : ℕ) (k : Kind) (u : ℕ) where
  abbrev order : List OpenLine → Order
  order ls = new_order n k u ls

  abbrev with_lines : List OpenLine → Ledger
  with_lines ls = with_order (order ls) A

  -- what the orders count for, with the new one
  lines_total : (part : Part) (f : Name) (ls : List OpenLine)
      → total (part_of part f) (with_lines ls).orders ≡ part_of part f (order ls) +ℤ total (part_of part f) A.orders
  lines_total part f ls = total-insert (part_of part f) (λ a b. nat_lt a.number b.number) (order ls) A.orders

  line_more : (part : Part) → IsPart part → (f : Name) (ls : List OpenLine) (l : OpenLine)
      → part_of part f (order (ls ++ l ∷ []))
      ≡ part_of part f (order ls) +ℤ part l.way (held_if (same_name f (line_field l)) l.qty)
  line_more part is f ls l = grind (arith, ints, common_steps, map-push, total-push, if_held)

  line_adds : (ls : List OpenLine) (l : OpenLine)
      → AddsAlone (line_field l) l.way l.qty (with_lines ls).orders (with_lines (ls ++ l ∷ [])).orders
  line_adds ls l f part is = grind (arith, ints, common_steps, lines_total, line_more)

  -- beside lines on other fields it adds so much to the ledger without them
  first_adds : (ls : List OpenLine) (l : OpenLine) → find (on (line_field l)) (map new_line ls) ≡ None
      → AddsOn (line_field l) l.way (only_held l.qty) A.orders (with_lines (ls ++ l ∷ [])).orders
  first_adds ls l none part is =
      let f : Name = line_field l in
      let now = lines_total part f (ls ++ l ∷ []) in
      let more = line_more part is f ls l ∙ ap (λ b. part_of part f (order ls) +ℤ part l.way (held_if b l.qty))
      (same_self f) in
      let others : part_of part f (order ls) ≡ pos 0 =
      none-total f (λ m. part m.way (share_of Open false m)) (map new_line ls)
      (none_found (on f) (map new_line ls) none) in
      omega (arith, ints)

  lines_sound : (ls : List OpenLine) → Each Sound A.orders → ((g : Name) → OneOn g (map new_line ls))
      → Each Sound (with_lines ls).orders
  lines_sound ls sound one = with_sound A (order ls) (fresh-sound n k u ls one) sound

  pub line_test : (ls : List OpenLine) (l : OpenLine) (i : ℕ) → Good A
      → IsDistinct same_name (map line_name (order ls).lines)
      → IsNone (line_on (order ls) (line_field l))
      → (bound l.way (with_order (order (ls ++ l ∷ [])) A) (line_field l) i).fails
      ↔ BreaksBound l.way A (line_field l) l.qty
  line_test ls l i good apart none =
      let alone = none_if_not_some (line_on (order ls) (line_field l)) (λ some. true≢false (sym some ∙ none)) in
      let one : (g : Name) → OneOn g (map new_line (ls ++ l ∷ [])) = fresh-push ls l
      (λ g. one_on g (map new_line ls) apart) alone in
      held_test A (with_lines (ls ++ l ∷ [])).orders l.way (line_field l) l.qty i
      (lines_sound (ls ++ l ∷ []) (sounds_from_good A good) one) (first_adds ls l alone)

  module _ (sound : Each Sound A.orders) (sorted : InOrder A) where
    abbrev Stands : List OpenLine → Type 0
    Stands ls = Room (with_lines ls) × ((g : Name) → OneOn g (map new_line ls))

    -- all lines of a new order, each checked beside those before it
    room_lines : (before ls : List OpenLine) → Stands before → AllPass (line_checks A (new_order n k u) before ls)
        → Stands (before ++ ls)
    room_lines before [] stands pass = subst Stands (sym (append-nil before)) stands
    room_lines before (l ∷ ls) stands pass =
        let next = before ++ l ∷ [] in
        let alone = none_if_not_some (find (on (line_field l)) (map new_line before)) pass.0 in
        let one = fresh-push before l stands.1 alone in
        let room = room_held (with_lines before) (with_lines next).orders l.way (line_field l) l.qty
        (length before + 1)
        (lines_sound next sound one) sorted stands.0 (line_adds before l) pass.1.1.0 in
        subst Stands (append_assoc before (l ∷ []) ls) (room_lines next ls (room, one) pass.1.1.1)

    -- an order without lines holds nothing
    room_empty : Room A → Room (with_lines [])
    room_empty room = each-imp keeps A.fields room
      where
        keeps : (f : Field) → HasRoom A f → HasRoom (with_lines []) f
        keeps f r =
            let more = holds_more A (with_lines []).orders f Take 0
            (λ part is. let all = lines_total part f.name [] in let none = is.nothing Take in omega (arith, ints)) in
            let value = more.0 in let takes = more.1 in let adds = more.2 in let low = r.0 in let high = r.1 in
            (omega (arith, ints), omega (arith, ints))

    pub room_order : (ls : List OpenLine) → Room A → AllPass (line_checks A (new_order n k u) [] ls)
        → Room (with_order (new_order n k u ls) A) × ((g : Name) → OneOn g (map new_line ls))
    room_order ls room pass = room_lines [] ls (room_empty room, λ g. tt) pass

-- ---- more held on an order that is open

raised : Name → ℕ → Line → Line
raised name q m = if on name m then raise_held q m else m

raised_name : (name : Name) (q : ℕ) (m : Line) → line_name (raised name q m) ≡ line_name m
unfolding raised
raised_name name q m = grind arith

raised_used : (name : Name) (q : ℕ) (m : Line) → m.used ≤ m.held → (raised name q m).used ≤ (raised name q m).held
unfolding raised
raised_used name q m within = grind arith

pub hold_sound : (l : OpenLine) (o : Order) → Sound o → Sound (add_hold l o)
unfolding raised
hold_sound l o sound = by (line_on o name) refl
  where
    name : Name
    name = line_field l

    by : (x : Option Line) → line_on o name ≡ x
        → Sound (if is_some x then hold_more name l.qty o else record o { lines = o.lines ++ new_line l ∷ [] })
    by None e = record {
      used = each-of-push (λ m. m.used ≤ m.held) o.lines (new_line l) sound.used (omega arith);
      one = λ f. one_on-push f o.lines (new_line l) (sound.one f) (none_found (on name) o.lines e);
    }
    by (Some x) e = record {
      used = each-map (λ m. m.used ≤ m.held) (raised name l.qty) o.lines
          (each-imp (raised_used name l.qty) o.lines sound.used);
      one = λ f. one_on-map f (raised name l.qty) o.lines (each (raised_name name l.qty) o.lines) (sound.one f);
    }

-- what lines count for whose order is open and not firm
abbrev held_of : Part → Name → List Line → ℤ
held_of part f ls = total (λ m. if on f m then part m.way (only_held m.held) else pos 0) ls

pub loose_share : (s : State) (b : Bool) (m : Line) → open_state s ≡ true → b ≡ false
    → share_of s b m ≡ only_held m.held
loose_share s b m e d = grind arith

loose_part : (part : Part) (f : Name) (o : Order) → is_open o ≡ true → o.firm ≡ false
    → part_of part f o ≡ held_of part f o.lines
loose_part part f o e d = grind (arith, ints, common_steps, total-eq, each, loose_share)

module _ (part : Part) (is : IsPart part) (f name : Name) (w : Way) (q : ℕ) where
  abbrev more : ℤ
  more = part w (held_if (same_name f name) q)

  none_raised : (ms : List Line) → Each (λ m. on name m ≡ false) ms
      → held_of part f (map (raised name q) ms) ≡ held_of part f ms
  unfolding raised
  none_raised [] none = refl
  none_raised (m ∷ ms) none = grind (arith, ints, common_steps, (none_raised ms none.1))

  one_raised : (ms : List Line) → OneOn name ms → IsSomeAnd (find (on name) ms) (λ m. m.way ≡ w)
      → held_of part f (map (raised name q) ms) ≡ held_of part f ms +ℤ more
  unfolding raised
  one_raised [] one found = absurd found
  one_raised (m ∷ ms) one found = by (on name m) refl found (one_raised ms one.1)
    where
      lifted : (b : Bool) → (if b then part m.way (only_held (m.held + q)) else pos 0)
          ≡ (if b then part m.way (only_held m.held) else pos 0) +ℤ part m.way (held_if b q)
      lifted true = is.more m.way m.held q
      lifted false = let none = is.nothing m.way in omega (arith, ints)

      by : (b : Bool) → on name m ≡ b → IsSomeAnd (if b then Some m else find (on name) ms) (λ m. m.way ≡ w)
          → (IsSomeAnd (find (on name) ms) (λ m. m.way ≡ w) → held_of part f (map (raised name q) ms) ≡ held_of part f ms +ℤ more)
          → held_of part f ((if b then raise_held q m else m) ∷ map (raised name q) ms)
          ≡ held_of part f (m ∷ ms) +ℤ more
      by true e way more =
          let rest = none_raised ms (one.0 e) in
          let here = lifted (on f m) ∙ (λ i. (if on f m then part m.way (only_held m.held) else pos 0)
          +ℤ part (way i) (held_if (same_name f (sym (name_is name (line_name m) e) i)) q)) in
          omega (arith, ints)
      by false e there more = let rest = more there in omega (arith, ints)

hold_part : (part : Part) → IsPart part → (f : Name) (l : OpenLine) (o : Order) → Sound o
    → MayHoldMore (line_field l) l.way o
    → part_of part f (add_hold l o) ≡ part_of part f o +ℤ part l.way (held_if (same_name f (line_field l)) l.qty)
unfolding raised
hold_part part is f l o sound may =
    by (line_on o (line_field l)) refl may.3 ∙ ap (λ z. z +ℤ more) (sym (loose_part part f o may.0 may.1))
  where
    more : ℤ
    more = part l.way (held_if (same_name f (line_field l)) l.qty)

    by : (x : Option Line) → line_on o (line_field l) ≡ x → MatchOption x (Unit {0}) (λ m. m.way ≡ l.way)
        → part_of part f (if is_some x then hold_more (line_field l) l.qty o else record o { lines = o.lines ++ new_line l ∷ [] })
        ≡ held_of part f o.lines +ℤ more
    by None e way = loose_part part f (record o { lines = o.lines ++ new_line l ∷ [] }) may.0 may.1
        ∙ total-push _ o.lines (new_line l) ∙ ap (λ z. held_of part f o.lines +ℤ z)
        (if_held part is (on f (new_line l)) l.way l.qty)
    by (Some x) e way = loose_part part f (hold_more (line_field l) l.qty o) may.0 may.1
        ∙ one_raised part is f (line_field l) l.way l.qty o.lines (sound.one (line_field l))
        (subst (λ x. IsSomeAnd x (λ m. m.way ≡ l.way)) (sym e) way)

-- the one order of that number counts for so much more
one_more : (g : Order → ℤ) (change : Order → Order) (n : ℕ) (z : ℤ) (os : List Order)
    → IsStrictlySortedBy nat_cmp (map (λ o. o.number) os)
    → IsSomeAnd (find (numbered n) os) (λ o. g (change o) ≡ g o +ℤ z)
    → total g (orders_after (Changes (numbered n) change) os) ≡ total g os +ℤ z
one_more g change n z os sorted found = by (find (numbered n) os) refl found
  where
    by : (x : Option Order) → find (numbered n) os ≡ x → IsSomeAnd x (λ o. g (change o) ≡ g o +ℤ z)
        → total g (orders_after (Changes (numbered n) change) os) ≡ total g os +ℤ z
    by None is more = absurd more
    by (Some o) is more = let sum = one_changes g change n o os sorted is in omega (arith, ints)

module _ (A : Ledger) (n : ℕ) (l : OpenLine) (sound : Each Sound A.orders) (sorted : NumbersInOrder A)
    (may : IsSomeAnd (order_numbered A n) (MayHoldMore (line_field l) l.way)) where
  abbrev with_more : Ledger
  with_more = change_order n (add_hold l) A

  pub sound_more : Each Sound with_more.orders
  sound_more = grind (arith, ints, common_steps, each-map, each-imp, hold_sound)

  more_adds : AddsAlone (line_field l) l.way l.qty A.orders with_more.orders
  more_adds f part is = one_more (part_of part f) (add_hold l) n _ A.orders sorted
      (found_both (numbered n) A.orders (λ o s m. hold_part part is f l o s m) sound may)

  adds_here : (f : Name) → f ≡ line_field l → AddsOn f l.way (only_held l.qty) A.orders with_more.orders
  adds_here f e = grind (arith, ints, common_steps, same_self, more_adds)

  pub more_test : (i : ℕ) → (bound l.way with_more (line_field l) i).fails ↔ BreaksBound l.way A (line_field l) l.qty
  more_test i = grind (arith, ints, common_steps, held_test, sound_more, adds_here)

  pub room_raised : (i : ℕ) → InOrder A → Room A → ((bound l.way with_more (line_field l) i).fails → ⊥)
      → Room with_more
  room_raised i named room pass =
      room_held A with_more.orders l.way (line_field l) l.qty i sound_more named room more_adds pass
