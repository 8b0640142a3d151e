-- An order, changed in a copy and put in by its number.
use Rattle.ledger.proofs.Prelude.{[], ◌+◌, ◌-◌, ◌∷◌, ◌≡◌, ◌≤◌, Bool, Changes, Each, Effect, Good, IsGoodLine}
use Rattle.ledger.proofs.Prelude.{IsGoodOrder, Ledger, List, None, OpenLine, Option, Order, Request, Some, accept}
use Rattle.ledger.proofs.Prelude.{add_hold, arith, effect, find, if◌then◌else◌, insert_entry, map, nat_cmp, numbered}
use Rattle.ledger.proofs.Prelude.{orders_after, put_row, refl, subst, sym, true, true≢false, vec_capacity, vec_len, ℕ}
use Rattle.ledger.proofs.Prelude.{IsSome, Ordering, inl, inr, is_at, lookup, is_eq, cond, match_ordering, Less, Equal}
use Rattle.ledger.proofs.Prelude.{Greater}
use Rattle.ledger.specs.declared.order.Line.{Line}
use Rattle.book.proofs.Prelude.{MayChangeOrder, OrderEntry, changed_line, changed_order, number_cmp, order_of}
use Rattle.ledger.proofs.Lists.{each-found, each-unmap, found_passes}
use Rattle.ledger.proofs.Sums.{each-imp}
use Rattle.book.specs.Model.{slots_cmp, slots_of}
use Rattle.book.specs.inner.StepsSeen.{MayBePut}
use Rattle.book.specs.inner.InPlace.{MayChange, MayChangeUnder, lines_wanted}
use Rattle.book.specs.declared.book.made.LineChange.{LineChange}
use Rattle.book.specs.declared.book.made.LineChange.TheVariants.{Hold, Release, Use}
use Rattle.book.specs.declared.book.made.OrderChange.{OrderChange}
use Rattle.book.specs.declared.book.made.OrderChange.TheVariants.{ChangeLines, End, HoldMore, MakeFirm}

-- ---- an order put in by its number

-- put among entries, it is put among orders
pub put_viewed : (n : ℕ) (v : OrderEntry) (l : List (ℕ × OrderEntry))
    → map order_of (insert_entry nat_cmp l n v) ≡ put_row number_cmp (order_of (n, v)) (map order_of l)
put_viewed n v [] = refl
put_viewed n v (e ∷ l) = let more = put_viewed n v l in grind arith

-- and its slots among theirs
pub slots_viewed : (n : ℕ) (v : OrderEntry) (l : List (ℕ × OrderEntry))
    → map slots_of (insert_entry nat_cmp l n v) ≡ put_row slots_cmp (slots_of (n, v)) (map slots_of l)
slots_viewed n v [] = refl
slots_viewed n v (e ∷ l) = let more = slots_viewed n v l in grind arith

-- what is there stays there
still_there : (n m : ℕ) (v : OrderEntry) (l : List (ℕ × OrderEntry)) → IsSome (lookup (is_at (nat_cmp m)) l)
    → IsSome (lookup (is_at (nat_cmp m)) (insert_entry nat_cmp l n v))
still_there n m v [] there = absurd (true≢false (sym there))
still_there n m v (e ∷ l) there = by (nat_cmp n e.0) (still_there n m v l)
  where
    first : (b : Bool) (v : OrderEntry) (x : Option OrderEntry) → IsSome x → IsSome (cond b (Some v) x)
    first b v x h = grind arith

    replaced : (b : Bool) (x : Option OrderEntry) → IsSome (cond b (Some e.1) x) → IsSome (cond b (Some v) x)
    replaced b x h = grind arith

    later : (b : Bool) (x y : Option OrderEntry) → (IsSome x → IsSome y) → IsSome (cond b (Some e.1) x)
        → IsSome (cond b (Some e.1) y)
    later b x y more h = grind arith

    by : (o : Ordering)
        → (IsSome (lookup (is_at (nat_cmp m)) l) → IsSome (lookup (is_at (nat_cmp m)) (insert_entry nat_cmp l n v)))
        → IsSome (lookup (is_at (nat_cmp m)) (match_ordering o ((n, v) ∷ e ∷ l) ((e.0, v) ∷ l) (e ∷ insert_entry nat_cmp l n v)))
    by Less more = first (is_eq (nat_cmp m n)) v _ there
    by Equal more = replaced (is_eq (nat_cmp m e.0)) (lookup (is_at (nat_cmp m)) l) there
    by Greater more = later (is_eq (nat_cmp m e.0)) (lookup (is_at (nat_cmp m)) l) _ more there

-- what is left of the orders that may be put in
pub room_if_new : (room : ℕ) (o : ℕ × OrderEntry) (rest entries : List (ℕ × OrderEntry))
    → MayBePut room (o ∷ rest) entries → lookup (is_at (nat_cmp o.0)) entries ≡ None → 1 ≤ room
room_if_new room o rest entries (inl one) new = one.1
room_if_new room o rest entries (inr there) new = absurd (true≢false (sym (subst IsSome new there.0)))

pub rest_may : (room room' : ℕ) (o : ℕ × OrderEntry) (rest entries : List (ℕ × OrderEntry))
    → MayBePut room (o ∷ rest) entries → MayBePut room' rest (insert_entry nat_cmp entries o.0 o.1)
rest_may room room' o [] entries may = inr tt
rest_may room room' o (p ∷ rest) entries (inl one) = absurd (let few = one.0 in omega arith)
rest_may room room' o (p ∷ rest) entries (inr there) =
    inr (each-imp (λ q h. still_there o.0 q.0 o.1 entries h) (p ∷ rest) there.1)

-- ---- an order that an accepted command changes

changed_good : (P : Order → Type 0) (names : Order → Bool) (change : Order → Order) (o : Order) (os : List Order)
    → Each P (map (λ o. if names o then change o else o) os) → find names os ≡ Some o → P (change o)
changed_good P names change o os all there =
    subst (λ b. P (if b then change o else o)) (found_passes names o os there)
    (each-found (λ o. P (if names o then change o else o)) names o os (each-unmap P _ os all) there)

-- an amount more, on the line that is there or on one at the end
pub hold_allowed : (B : Ledger) (n : ℕ) (l : OpenLine) (o : OrderEntry) → 1 ≤ vec_capacity o.lines - vec_len o.lines
    → IsGoodOrder B (add_hold l (order_of (n, o))) → MayChangeOrder (HoldMore l) o
hold_allowed B n l o room good = grind (arith, each-imp, each-unmap)

-- a line that may be changed so
line_may : (B : Ledger) (change : LineChange) (l : Line) → IsGoodLine B (changed_line change l) → MayChange change l
line_may B (Hold q) l good = good.held
line_may B (Use q) l good = good.used
line_may B (Release q) l good = tt

lines_may : (B : Ledger) (change : LineChange) (t : Line → Bool) (ls : List Line)
    → Each (IsGoodLine B) (map (λ l. if t l then changed_line change l else l) ls)
    → Each (λ l. t l ≡ true → MayChange change l) ls
lines_may B change t ls all =
    each-imp (λ l good e. line_may B change l (subst (λ b. IsGoodLine B (if b then changed_line change l else l)) e
    good)) ls (each-unmap (IsGoodLine B) _ ls all)

order_may : (B : Ledger) (n : ℕ) (change : OrderChange) (o : OrderEntry)
    → vec_len o.lines + lines_wanted change ≤ vec_capacity o.lines
    → IsGoodOrder B (changed_order change (order_of (n, o))) → MayChangeOrder change o
order_may B n (HoldMore l) o room good = hold_allowed B n l o (omega arith) good
order_may B n (ChangeLines f change) o room good = lines_may B change _ o.lines.items good.lines
order_may B n (End state) o room good = tt
order_may B n MakeFirm o room good = tt

pub may_change : (A : Ledger) (r : Request) (n : ℕ) (change : OrderChange) → Good (accept A r)
    → Changes (numbered n) (changed_order change) ≡ effect r.command → MayChangeUnder A n change
may_change A r n change good is entry there room =
    order_may (accept A r) n change entry room
    (changed_good (IsGoodOrder (accept A r)) (numbered n) (changed_order change) (order_of (n, entry)) A.orders
    (subst (λ (e : Effect). Each (IsGoodOrder (accept A r)) (orders_after e A.orders)) (sym is) good.orders) there)
