-- The least and the greatest result over all outcomes, by what is held.
use Rattle.ledger.proofs.Prelude.{Add, Bool, Each, FallsBelow, Field, IsInfimum, IsSafe, IsSomeAnd, IsSupremum, IsTrue}
use Rattle.ledger.proofs.Prelude.{IsWithin, Ledger, Line, List, Name, None, Option, Order, Part, RisesAbove, Some, Take}
use Rattle.ledger.proofs.Prelude.{Way, [], ap, arith, common_steps, false, field_named, held_to_add, held_to_take}
use Rattle.ledger.proofs.Prelude.{if_add, if_take, if◌then◌else◌, ints, is_open, list_any, neg_ℤ, on, part_of, pos}
use Rattle.ledger.proofs.Prelude.{refl, settled, signed, subst, sym, total, true, true≢false, unsettled, ℕ, ℤ, ◌&&◌}
use Rattle.ledger.proofs.Prelude.{◌+ℤ◌, ◌-ℤ◌, ◌-◌, ◌<ℤ◌, ◌||◌, ◌↔◌, ◌∙◌, ◌∷◌, ◌≡◌, ◌≤ℤ◌, ◌≤◌}
use Rattle.ledger.specs.Outcomes.{IsOutcome, Outcome, commits_in, outcome_result}
use Rattle.ledger.proofs.Sums.{each, each-imp, total-not_negative, total-zero}
use Rattle.ledger.proofs.FieldNames.{OneOn}

-- the field is within its bounds where all takes are used and where all adds are
abbrev pub HasRoom : Ledger → Field → Type 0
HasRoom A f = (pos f.lo ≤ℤ (settled A f -ℤ held_to_take A f.name))
    × ((settled A f +ℤ held_to_add A f.name) ≤ℤ pos f.hi)

-- what the bounds need of an order
pub record Sound (o : Order) : Type 0 where
  pub used : Each (λ l. l.used ≤ l.held) o.lines
  pub one : (f : Name) → OneOn f o.lines

is_way : Way → Way → Bool
is_way Take Take = true
is_way Take Add = false
is_way Add Take = false
is_way Add Add = true

-- an amount, where it is that way
abbrev if_way : Way → Way → ℕ → ℕ
if_way Take = if_take
if_way Add = if_add

-- down for a take, up for an add
abbrev toward : Way → ℤ → ℤ
toward Take z = neg_ℤ z
toward Add z = z

has : (Way → Bool) → Name → List Line → Bool
has w f ls = list_any (λ l. on f l && w l.way) ls

both_toward : (w : Way) (y z : ℤ) → toward w (y +ℤ z) ≡ toward w y +ℤ toward w z
both_toward w y z = grind arith

nothing_toward : (w : Way) → pos 0 ≡ toward w (pos 0)
nothing_toward w = grind arith

-- what a line holds that way on the field, in an order that is open or not, firm or not
abbrev held : Way → Bool → Bool → Name → Line → ℤ
held w b m f l = if on f l then pos (if_way w l.way (if b then unsettled m l l.held else 0)) else pos 0

-- the part that is held that way
abbrev held_part : Way → Part
held_part w v s = pos (if_way w v s.held)

when-not_negative : (b : Bool) (n : ℕ) → pos 0 ≤ℤ (if b then pos n else pos 0)
when-not_negative b n = grind arith

order_least : (w : Way) (f : Name) (o : Order) → pos 0 ≤ℤ part_of (held_part w) f o
order_least w f o = total-not_negative (held w (is_open o) o.firm f) (λ l. when-not_negative (on f l) _) o.lines

pub held_least : (A : Ledger) (f : Name) → (pos 0 ≤ℤ held_to_take A f) × (pos 0 ≤ℤ held_to_add A f)
held_least A f = grind (arith, ints, common_steps, total-not_negative, order_least)

-- ---- every outcome is within what is held

-- one line, at any amount from what is used to what is held
one_within : (w v : Way) (b live m : Bool) (used amount held : ℕ) → live ≡ true → used ≤ amount → amount ≤ held
    → toward w (if b then signed v (if m then amount - used else amount) else pos 0)
    ≤ℤ (if b then pos (if_way w v (if live then (if m then held - used else held) else 0)) else pos 0)
one_within w v b live m used amount held e p q = grind (arith, ints)

-- what a line moves on the field at these amounts, beyond what is settled, and what an order's lines move
abbrev line_at : Bool → Name → (Line → ℕ) → Line → ℤ
line_at m f amount l = if on f l then signed l.way (unsettled m l (amount l)) else pos 0

abbrev AreAmounts : (Line → ℕ) → List Line → Type 0
AreAmounts amount ls = Each (λ l. (l.used ≤ amount l) × (amount l ≤ l.held)) ls

lines_within : (w : Way) (b m : Bool) (f : Name) (amount : Line → ℕ) (ls : List Line) → b ≡ true → AreAmounts amount ls
    → toward w (total (line_at m f amount) ls) ≤ℤ total (held w b m f) ls
lines_within w b m f amount [] e h = grind (arith, ints, common_steps, nothing_toward)
lines_within w b m f amount (l ∷ ls) e h =
    grind (arith, ints, common_steps, (lines_within w b m f amount ls e h.1), one_within, both_toward)

-- one order: it is open or not, and commits or not
order_within : (w : Way) (b c : Bool) (held m : ℤ) → pos 0 ≤ℤ held → (b ≡ true → c ≡ true → toward w m ≤ℤ held)
    → toward w (if b && c then m else pos 0) ≤ℤ held
order_within w b c held m p q = grind arith

-- what an order moves in the outcome, beyond what is settled
abbrev moved_in : Outcome → Name → Order → ℤ
moved_in X f o = if commits_in X o then total (line_at o.firm f (X.amount o)) o.lines else pos 0

within : (w : Way) (f : Name) (X : Outcome) (os : List Order)
    → Each (λ o. IsTrue (commits_in X o) → AreAmounts (X.amount o) o.lines) os
    → toward w (total (moved_in X f) os) ≤ℤ total (part_of (held_part w) f) os
within w f X [] h = let none = nothing_toward w in omega (arith, ints)
within w f X (o ∷ os) h =
    let one = order_within w (is_open o) (o.firm || X.commits o) _ _ (order_least w f o)
    (λ e c. lines_within w (is_open o) o.firm f (X.amount o) o.lines e (h.0 (both_true _ _ e c))) in
    let more = within w f X os h.1 in
    let sum = both_toward w (moved_in X f o) (total (moved_in X f) os) in
    omega (arith, ints)
  where
    both_true : (b c : Bool) → b ≡ true → c ≡ true → (b && c) ≡ true
    both_true b c d e = cc

least : (A : Ledger) (f : Field) (X : Outcome) → IsOutcome A X
    → (settled A f -ℤ held_to_take A f.name) ≤ℤ outcome_result A X f
least A f X h = let below = within Take f.name X A.orders h in omega (arith, ints)

greatest : (A : Ledger) (f : Field) (X : Outcome) → IsOutcome A X
    → outcome_result A X f ≤ℤ (settled A f +ℤ held_to_add A f.name)
greatest A f X h = let above = within Add f.name X A.orders h in omega (arith, ints)

-- the outcome that reaches the bound

-- the lines that are on no field
pub none-total : (f : Name) (g : Line → ℤ) (ls : List Line) → Each (λ m. on f m ≡ false) ls
    → total (λ l. if on f l then g l else pos 0) ls ≡ pos 0
none-total f g [] h = refl
none-total f g (l ∷ ls) h = grind (arith, ints, common_steps, (none-total f g ls h.1))

none-has : (w : Way → Bool) (f : Name) (ls : List Line) → Each (λ m. on f m ≡ false) ls → has w f ls ≡ false
unfolding has
none-has w f [] h = refl
none-has w f (l ∷ ls) h = rw h.0 (none-has w f ls h.1)

-- the amount of a line in that outcome: all that is held that way, and no more than is used the other way
abbrev reaching : Way → Line → ℕ
reaching w l = if is_way w l.way then l.held else l.used

-- what a line moves then, of a firm order, whichever way it has
firm_step : (w : Way) (b : Bool) (v : Way) (used held : ℕ) → used ≤ held
    → (if b then signed v ((if is_way w v then held else used) - used) else pos 0)
    ≡ toward w (if b then pos (if_way w v (held - used)) else pos 0)
unfolding is_way
firm_step w b v used held h = grind arith

in_firm : (w : Way) (f : Name) (ls : List Line) → Each (λ l. l.used ≤ l.held) ls
    → total (line_at true f (reaching w)) ls ≡ toward w (total (held w true true f) ls)
in_firm w f [] h = nothing_toward w
in_firm w f (l ∷ ls) h =
    let one = firm_step w (on f l) l.way l.used l.held h.0 in
    (λ i. one i +ℤ in_firm w f ls h.1 i) ∙ sym (both_toward w (held w true true f l) (total (held w true true f) ls))

-- of one that is not firm, where it commits only with a line that way on the field, which is its one line there

full_step : (w : Way) (b : Bool) (v : Way) (used h : ℕ) (r s : ℤ) (any : Bool)
    → (b ≡ true → (r ≡ pos 0) × (s ≡ pos 0) × (any ≡ false)) → (any ≡ true → r ≡ toward w s)
    → (b && is_way w v || any) ≡ true
    → (if b then signed v (if is_way w v then h else used) else pos 0) +ℤ r
    ≡ toward w ((if b then pos (if_way w v h) else pos 0) +ℤ s)
unfolding is_way
full_step w b v used h r s any p q e = grind arith

in_full : (w : Way) (f : Name) (ls : List Line) → OneOn f ls → has (is_way w) f ls ≡ true
    → total (line_at false f (reaching w)) ls ≡ toward w (total (held w true false f) ls)
unfolding has
in_full w f [] one e = absurd (true≢false (sym e))
in_full w f (l ∷ ls) one e = full_step w (on f l) l.way l.used l.held _ _ (has (is_way w) f ls)
    (λ b. (
      none-total f (λ l. signed l.way (reaching w l)) ls (one.0 b),
      none-total f
          (λ l. pos (if_way w l.way l.held)) ls (one.0 b),
      none-has (is_way w) f ls (one.0 b),
    ))
    (λ h. in_full w f ls one.1 h) e

none_step : (w : Way) (b : Bool) (v : Way) (h : ℕ) (s : ℤ) (any : Bool) → (any ≡ false → s ≡ pos 0)
    → (b && is_way w v || any) ≡ false → (if b then pos (if_way w v h) else pos 0) +ℤ s ≡ pos 0
unfolding is_way
none_step w b v h s any q e = grind arith

none_held : (w : Way) (f : Name) (ls : List Line) → has (is_way w) f ls ≡ false → total (held w true false f) ls ≡ pos 0
unfolding has
none_held w f [] e = refl
none_held w f (l ∷ ls) e =
    none_step w (on f l) l.way l.held (total (held w true false f) ls) (has (is_way w) f ls) (λ h. none_held w f ls h) e

-- every open order with such a line on the field commits, and beside it the firm ones alone
extreme : Way → Name → Outcome
extreme w f = record { commits = λ o. has (is_way w) f o.lines; amount = λ o l. reaching w l }

reaches : (b : Bool) (used held : ℕ) → used ≤ held
    → (used ≤ (if b then held else used)) × ((if b then held else used) ≤ held)
reaches b used held h = grind arith

extreme-outcome : (w : Way) (f : Name) (A : Ledger) → Each Sound A.orders → IsOutcome A (extreme w f)
unfolding extreme
extreme-outcome w f A h = grind (arith, ints, common_steps, each-imp, reaches, is_way)

extreme_order : (w : Way) (c : Bool) (m z : ℤ) → (c ≡ true → m ≡ toward w z) → (c ≡ false → z ≡ pos 0)
    → (if c then m else pos 0) ≡ toward w z
extreme_order w c m z p q = grind arith

-- one order, open or not, firm or not
one_order : (w : Way) (f : Name) (b m : Bool) (ls : List Line) → OneOn f ls → Each (λ l. l.used ≤ l.held) ls
    → (if b && (m || has (is_way w) f ls) then total (line_at m f (reaching w)) ls else pos 0)
    ≡ toward w (total (held w b m f) ls)
one_order w f true true ls one used = in_firm w f ls used
one_order w f true false ls one used = grind (arith, ints, common_steps, extreme_order, has, is_way, in_full, none_held)
one_order w f false m ls one used = grind (arith, ints, common_steps, nothing_toward, total-zero, each)

extreme-result : (w : Way) (f : Field) (A : Ledger) → Each Sound A.orders
    → outcome_result A (extreme w f.name) f ≡ settled A f +ℤ toward w (total (part_of (held_part w) f.name) A.orders)
unfolding extreme
extreme-result w f A h = ap (λ z. settled A f +ℤ z) (go A.orders h)
  where
    go : (os : List Order) → Each Sound os
        → total (moved_in (extreme w f.name) f.name) os ≡ toward w (total (part_of (held_part w) f.name) os)
    go [] h = nothing_toward w
    go (o ∷ os) h = grind (arith, (one_order w f.name (is_open o) o.firm o.lines (h.0.one f.name) h.0.used), (go os h.1))

least-result : (f : Field) (A : Ledger) → Each Sound A.orders
    → outcome_result A (extreme Take f.name) f ≡ settled A f -ℤ held_to_take A f.name
least-result f A h = let e = extreme-result Take f A h in omega (arith, ints)

pub inf_is : (A : Ledger) → Each Sound A.orders → (f : Field) → IsInfimum A f (settled A f -ℤ held_to_take A f.name)
inf_is A h f = record { reached = (extreme Take f.name, extreme-outcome Take f.name A h, least-result f A h); least = least A f }

pub sup_is : (A : Ledger) → Each Sound A.orders → (f : Field) → IsSupremum A f (settled A f +ℤ held_to_add A f.name)
sup_is A h f = record {
  reached = (extreme Add f.name, extreme-outcome Add f.name A h, extreme-result Add f A h);
  greatest = greatest A f;
}

-- an infimum is unique
pub inf_unique : (A : Ledger) (f : Field) (a b : ℤ) → IsInfimum A f a → IsInfimum A f b → a ≡ b
inf_unique A f a b h k = grind arith

-- and so is a supremum
pub sup_unique : (A : Ledger) (f : Field) (a b : ℤ) → IsSupremum A f a → IsSupremum A f b → a ≡ b
sup_unique A f a b h k = grind arith

-- the code's two comparisons are the model's safety
all_at : (A : Ledger) (P : Field → Type 0) (fs : List Field)
    → ((X : Outcome) → IsOutcome A X → Each (λ f. IsWithin f.lo f.hi (outcome_result A X f)) fs)
    → ((f : Field) → ((X : Outcome) → IsOutcome A X → IsWithin f.lo f.hi (outcome_result A X f)) → P f) → Each P fs
all_at A P [] h p = tt
all_at A P (f ∷ fs) h p = (p f (λ X o. (h X o).0), all_at A P fs (λ X o. (h X o).1) p)

pub room_from_safe : (A : Ledger) → Each Sound A.orders → IsSafe A → Each (HasRoom A) A.fields
room_from_safe A s h = all_at A (HasRoom A) A.fields h (λ f w. (
  subst (λ z. pos f.lo ≤ℤ z) (least-result f A s) (w (extreme Take f.name) (extreme-outcome Take f.name A s)).0,
  subst (λ z. z ≤ℤ pos f.hi) (extreme-result Add f A s) (w (extreme Add f.name) (extreme-outcome Add f.name A s)).1,
))

pub safe_from_room : (A : Ledger) → Each (HasRoom A) A.fields → IsSafe A
safe_from_room A h X o = each-imp (λ f r. within f r) A.fields h
  where
    within : (f : Field) → HasRoom A f → IsWithin f.lo f.hi (outcome_result A X f)
    within f r =
        let a = r.0 in let b = r.1 in let c = least A f X o in let d = greatest A f X o in omega (arith, ints)

some_iff : {P Q : Field → Type 0} (o : Option Field) → ((f : Field) → P f → Q f) → ((f : Field) → Q f → P f)
    → IsSomeAnd o P ↔ IsSomeAnd o Q
some_iff None there back = ((λ h. h), λ h. h)
some_iff (Some f) there back = (there f, back f)

-- the test for a take looks at one number, and so does the test for an add
pub falls_below_iff : (B : Ledger) → Each Sound B.orders → (name : Name)
    → FallsBelow B name ↔ IsSomeAnd (field_named B name) (λ f. (settled B f -ℤ held_to_take B f.name) <ℤ pos f.lo)
falls_below_iff B s name =
    some_iff (field_named B name) (λ f h. let a = least B f h.0 h.1 in let b = h.2 in omega (arith, ints))
    (λ f h. (extreme Take f.name, extreme-outcome Take f.name B s, subst (λ z. z <ℤ pos f.lo) (sym (least-result f B s)) h))

pub rises_above_iff : (B : Ledger) → Each Sound B.orders → (name : Name)
    → RisesAbove B name ↔ IsSomeAnd (field_named B name) (λ f. pos f.hi <ℤ (settled B f +ℤ held_to_add B f.name))
rises_above_iff B s name =
    some_iff (field_named B name) (λ f h. let a = greatest B f h.0 h.1 in let b = h.2 in omega (arith, ints))
    (λ f h. (extreme Add f.name, extreme-outcome Add f.name B s, subst (λ z. pos f.hi <ℤ z) (sym (extreme-result Add f B s)) h))
