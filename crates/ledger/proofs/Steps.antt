-- The steps of an accepted command: what stays of an order, and what the lines add up to.
use Rattle.ledger.proofs.Prelude.{Aborted, Bool, Changes, Command, Committed, Each, Effect, Field, FirstFailure, Good}
use Rattle.ledger.proofs.Prelude.{IsNone, IsSome, IsSomeAnd, IsStrictlySortedBy, Ledger, Line, LineStep, List}
use Rattle.ledger.proofs.Prelude.{MatchOption, Name, None, Nothing, Open, OpenLine, Opens, Option, Order, Part}
use Rattle.ledger.proofs.Prelude.{ShareStep, Some, State, Step, Way, [], add_hold, add_part, added_on, ap, arith}
use Rattle.ledger.proofs.Prelude.{change_lines, changes_field, changes_stock, checks, common_steps, effect, expires}
use Rattle.ledger.proofs.Prelude.{false, find, flat_map, if_add, if_take, if◌then◌else◌, ints, is_open, is_settled}
use Rattle.ledger.proofs.Prelude.{line_name, line_steps, lines_of, list_any, lower_held, map, moved_at_once}
use Rattle.ledger.proofs.Prelude.{moved_by_command, name_of, nat_cmp, nat_cmp_total, nat_lt, next, no_share, not}
use Rattle.ledger.proofs.Prelude.{numbered, on, open_state, option_map, option_map_or, order_numbered, orders_after}
use Rattle.ledger.proofs.Prelude.{own_field, part_of, pos, raise_used, refl, same_name, set_firm, set_state, settled}
use Rattle.ledger.proofs.Prelude.{settled_part, share_of, share_step, share_steps, shares_of_step, signed, steps}
use Rattle.ledger.proofs.Prelude.{steps_of, subst, sym, take_part, total, true, true≢false, turn, ℕ, ℤ, ◌&&◌, ◌++◌}
use Rattle.ledger.proofs.Prelude.{◌+ℤ◌, ◌+◌, ◌-ℤ◌, ◌==◌, ◌||◌, ◌∙◌, ◌∷◌, ◌≡◌, ◌≢◌}
use Rattle.std.specs.Prelude.{cond, option_to_list}
use Rattle.std.specs.List.{filter}
use Rattle.ledger.specs.Changes.{stock_lines}
use Rattle.ledger.specs.Held.{held_to_add, held_to_take}
use Rattle.ledger.proofs.Lists.{NumbersInOrder, any-map, any_none, any_same, at_number, each-found, lt_is, none_after}
use Rattle.ledger.proofs.Lists.{not_equal, number_is, or_false, sorted-insert}
use Rattle.ledger.proofs.Sums.{each, each-both, each-flat, each-imp, none_found, total-eq, total-flat, total-insert}
use Rattle.ledger.proofs.Sums.{total-push, total-zero}
use Rattle.ledger.specs.Next.{fields_after}
use Rattle.ledger.proofs.Passing.{AllPass, all_pass, loose_there, none_if_not_some, open_there}
use Rattle.words.specs.declared.command.Command.TheVariants as command

-- ---- what stays of an order

-- the lines stay on their fields and keep their ways; there may be more behind them
abbrev pub Grows : List Line → List Line → Type 0
Grows [] ls = Unit {0}
Grows (b ∷ bs) [] = ⊥
Grows (b ∷ bs) (l ∷ ls) = ((l.way ≡ b.way) × (line_name l ≡ line_name b)) × Grows bs ls

-- what a command may make of an order
pub record Goes (b a : Order) : Type 0 where
  pub number : a.number ≡ b.number
  pub kind : a.kind ≡ b.kind
  pub until : a.until ≡ b.until
  pub unended : is_open b ≡ true
  pub firm : b.firm ≡ true → a.firm ≡ true
  pub loose : a.state ≡ Aborted → a.firm ≡ false
  pub lines : Grows b.lines a.lines

-- a new order has a number of its own
abbrev pub EffectGoes : Effect → List Order → Type 0
EffectGoes Nothing os = Unit {0}
EffectGoes (Opens o) os = IsNone (find (numbered o.number) os)
EffectGoes (Changes names change) os = Each (λ o. names o ≡ true → Goes o (change o)) os

grows-same : (ls : List Line) → Grows ls ls
grows-same [] = tt
grows-same (l ∷ ls) = ((refl, refl), grows-same ls)

grows-map : (g : Line → Line) → ((l : Line) → ((g l).way ≡ l.way) × (line_name (g l) ≡ line_name l))
    → (ls : List Line) → Grows ls (map g ls)
grows-map g same [] = tt
grows-map g same (l ∷ ls) = (same l, grows-map g same ls)

grows-push : (l : Line) (ls : List Line) → Grows ls (ls ++ l ∷ [])
grows-push l [] = tt
grows-push l (m ∷ ms) = ((refl, refl), grows-push l ms)

same_if : (b : Bool) (g : Line → Line) (l : Line) → ((g l).way ≡ l.way) × (line_name (g l) ≡ line_name l)
    → ((if b then g l else l).way ≡ l.way) × (line_name (if b then g l else l) ≡ line_name l)
same_if true g l same = same
same_if false g l same = (refl, refl)

pub not_aborted : (s : State) → open_state s ≡ true → s ≢ Aborted
not_aborted s e d = true≢false (sym e ∙ ap open_state d)

-- other lines
lined_goes : (o : Order) (ls : List Line) → Grows o.lines ls → is_open o ≡ true → Goes o (record o { lines = ls })
lined_goes o ls lines unended = record {
  number = refl;
  kind = refl;
  until = refl;
  unended = unended;
  firm = λ e. e;
  loose = λ s. absurd (not_aborted o.state unended s);
  lines = lines;
}

hold_goes : (l : OpenLine) (o : Order) → is_open o ≡ true → Goes o (add_hold l o)
hold_goes l o unended = grind (arith, ints, common_steps, grows-map, same_if, grows-push)

pub lines_go : (f : Name) (g : Line → Line) (o : Order)
    → ((l : Line) → ((g l).way ≡ l.way) × (line_name (g l) ≡ line_name l)) → is_open o ≡ true
    → Goes o (change_lines f g o)
lines_go f g o same unended = lined_goes o _ (grows-map _ (λ l. same_if _ g l (same l)) o.lines) unended

pub state_goes : (s : State) (o : Order) → (s ≡ Aborted → o.firm ≡ false) → is_open o ≡ true → Goes o (set_state s o)
state_goes s o loose unended = record {
  number = refl;
  kind = refl;
  until = refl;
  unended = unended;
  firm = λ e. e;
  loose = loose;
  lines = grows-same o.lines;
}

pub firm_goes : (o : Order) → is_open o ≡ true → Goes o (set_firm o)
firm_goes o unended = record {
  number = refl;
  kind = refl;
  until = refl;
  unended = unended;
  firm = λ e. refl;
  loose = λ s. absurd (not_aborted o.state unended s);
  lines = grows-same o.lines;
}

pub expired : (now : ℕ) (o : Order) → expires now o ≡ true → (is_open o ≡ true) × (o.firm ≡ false)
expired now o e = grind arith

pub commits : Committed ≢ Aborted
commits e = cc

none_there : (x : Option Order) → (IsSome x → ⊥) → IsNone x
none_there x h = grind arith

-- the order under a number changes, of which its checks know this
one_goes : (A : Ledger) (n : ℕ) (change : Order → Order) (P : Order → Type 0) → NumbersInOrder A
    → ((o : Order) → P o → Goes o (change o)) → IsSomeAnd (order_numbered A n) P
    → Each (λ o. (o.number == n) ≡ true → Goes o (change o)) A.orders
one_goes A n change P sorted go there = each-imp (λ o is e. go o (is e)) A.orders (at_number P n A.orders sorted there)

pub effect_goes : (A : Ledger) (c : Command) → NumbersInOrder A → FirstFailure (checks A c) None
    → EffectGoes (effect c) A.orders
effect_goes A c sorted h = by c (all_pass (checks A c) h)
  where
    by : (c : Command) → AllPass (checks A c) → EffectGoes (effect c) A.orders
    by (command.Open n until lines) p = none_there _ p.1.1.0
    by (command.Transfer n until a from to q) p = none_there _ p.1.1.0
    by (command.More n way b a q) p =
        one_goes A n _ _ sorted (hold_goes (record { way = way; branch = b; article = a; qty = q }))
        (open_there _ p.1.0 p.1.1.0)
    by (command.Use n b a q) p = one_goes A n _ _ sorted
        (λ o e. lines_go (name_of b a) (raise_used q) o (λ l. (refl, refl)) e) (open_there _ p.1.0 p.1.1.0)
    by (command.Release n b a q) p = one_goes A n _ _ sorted
        (λ o e. lines_go (name_of b a) (lower_held q) o (λ l. (refl, refl)) e) (open_there _ p.1.0 p.1.1.0)
    by (command.Commit n) p =
        one_goes A n _ _ sorted (λ o. state_goes Committed o (λ s. absurd (commits s))) (open_there _ p.0 p.1.0)
    by (command.Abort n) p =
        one_goes A n _ _ sorted (λ o x. state_goes Aborted o (λ s. x.1) x.0) (loose_there _ p.0 p.1.0 p.1.1.0)
    by (command.Firm n) p = one_goes A n _ _ sorted firm_goes (open_there _ p.1.0 p.1.1.0)
    by (command.Expire now) p =
        each (λ o e. let x = expired now o e in state_goes Aborted o (λ s. x.1) x.0) A.orders
    by c p = tt

-- ---- the order under a number, and the numbers

-- where orders change that keep their numbers
pub found_changed : (n : ℕ) (names : Order → Bool) (change : Order → Order) (os : List Order)
    → Each (λ o. names o ≡ true → (change o).number ≡ o.number) os
    → find (numbered n) (orders_after (Changes names change) os)
    ≡ option_map (λ o. if names o then change o else o) (find (numbered n) os)
found_changed n names change [] same = refl
found_changed n names change (o ∷ os) same = let more = found_changed n names change os same.1 in grind arith

-- where one is put in
pub found_opened : (n : ℕ) (o : Order) (os : List Order) → IsNone (find (numbered o.number) os)
    → find (numbered n) (orders_after (Opens o) os) ≡ (if o.number == n then Some o else find (numbered n) os)
found_opened n o [] none = refl
found_opened n o (m ∷ os) none = let more = found_opened n o os in grind arith

pub keeps_numbers : (names : Order → Bool) (change : Order → Order) (os : List Order)
    → Each (λ o. names o ≡ true → Goes o (change o)) os → Each (λ o. names o ≡ true → (change o).number ≡ o.number) os
keeps_numbers names change os goes = each-imp (λ o go e. (go e).number) os goes

-- what the order under a number keeps where it goes on, it keeps
pub kept_under_number : (P : Order → Type 0) (n : ℕ) (e : Effect) (os : List Order) → EffectGoes e os
    → ((b a : Order) → Goes b a → P b → P a) → IsSomeAnd (find (numbered n) os) P
    → IsSomeAnd (find (numbered n) (orders_after e os)) P
kept_under_number P n Nothing os goes keeps there = there
kept_under_number P n (Opens o) os goes keeps there =
    subst (λ x. IsSomeAnd x P) (sym (found_opened n o os goes)) (by (o.number == n) refl)
  where
    by : (b : Bool) → (o.number == n) ≡ b → IsSomeAnd (if b then Some o else find (numbered n) os) P
    by true e = absurd (none (find (numbered n) os) there
        (subst (λ k. IsNone (find (numbered k) os)) (number_is o.number n e) goes))
      where
        none : (x : Option Order) → IsSomeAnd x P → IsNone x → ⊥
        none x is e = grind arith
    by false e = there
kept_under_number P n (Changes names change) os goes keeps there =
    subst (λ x. IsSomeAnd x P) (sym (found_changed n names change os (keeps_numbers names change os goes)))
    (by (find (numbered n) os) refl there)
  where
    one : (o : Order) (b : Bool) → names o ≡ b → (names o ≡ true → Goes o (change o)) → P o
        → P (if b then change o else o)
    one o true e go p = keeps o (change o) (go e) p
    one o false e go p = p

    by : (x : Option Order) → find (numbered n) os ≡ x → IsSomeAnd x P
        → IsSomeAnd (option_map (λ o. if names o then change o else o) x) P
    by None e there = there
    by (Some o) e there = one o (names o) refl (each-found _ (numbered n) o os goes e) there

numbers_kept : (names : Order → Bool) (change : Order → Order) (os : List Order)
    → Each (λ o. names o ≡ true → (change o).number ≡ o.number) os
    → map (λ o. o.number) (orders_after (Changes names change) os) ≡ map (λ o. o.number) os
numbers_kept names change [] same = refl
numbers_kept names change (o ∷ os) same = let more = numbers_kept names change os same.1 in grind arith

pub numbers_after : (e : Effect) (os : List Order) → EffectGoes e os
    → IsStrictlySortedBy nat_cmp (map (λ o. o.number) os)
    → IsStrictlySortedBy nat_cmp (map (λ o. o.number) (orders_after e os))
numbers_after Nothing os goes sorted = sorted
numbers_after (Opens o) os goes sorted =
    sorted-insert nat_cmp nat_cmp_total (λ o. o.number) (λ a b. nat_lt a.number b.number) (λ a b. lt_is a.number b.number) o os
    (each-imp (λ m x. not_equal o.number m.number x) os
    (none_found (numbered o.number) os (none_if_not_some _ (λ some. true≢false (sym some ∙ goes))))) sorted
numbers_after (Changes names change) os goes sorted =
    subst (IsStrictlySortedBy nat_cmp) (sym (numbers_kept names change os (keeps_numbers names change os goes))) sorted

-- the steps of a change, and the orders after it
abbrev pub turns : (Order → Bool) → (Order → Order) → List Order → List Step
turns names change os = steps (Changes names change) os

abbrev pub after_turns : (Order → Bool) → (Order → Order) → List Order → List Order
after_turns names change os = orders_after (Changes names change) os

-- what the lines of an order count for, by their steps
abbrev pub shares_from : Option Order → Order → ℕ → List Line → List Line → List ShareStep
shares_from b a nr bs ls = map (share_step (record { before = b; after = a })) (line_steps nr bs ls)

-- a step of an order that the change names
abbrev pub step_if : Bool → Order → Order → List Step
step_if b o new = if b then turn o new ∷ [] else []

pub changes_each : (P : Step → Type 0) (names : Order → Bool) (change : Order → Order) (os : List Order)
    → Each (λ o. names o ≡ true → P (turn o (change o))) os → Each P (turns names change os)
changes_each P names change [] h = tt
changes_each P names change (o ∷ os) h = grind (arith, ints, common_steps, (changes_each P names change os h.1))

abbrev pub StepGoes : Step → Type 0
StepGoes s = MatchOption s.before (Unit {0}) (λ b. Goes b s.after)

pub steps_go : (A : Ledger) (c : Command) → NumbersInOrder A → FirstFailure (checks A c) None
    → Each StepGoes (steps_of A c)
steps_go A c sorted h = grind (arith, ints, common_steps, effect_goes, steps, changes_each)

-- ---- one order

-- the steps of a command that changes the order under a number
pub one_step : (n : ℕ) (change : Order → Order) (os : List Order)
    → IsStrictlySortedBy nat_cmp (map (λ o. o.number) os)
    → steps (Changes (numbered n) change) os ≡ option_map_or (λ o. turn o (change o) ∷ []) (find (numbered n) os) []
unfolding IsStrictlySortedBy
one_step n change [] sorted = refl
one_step n change (o ∷ os) sorted = by (o.number == n) refl (one_step n change os sorted.1)
  where
    none : (ms : List Order) → Each (λ m. (m.number == n) ≡ false) ms → steps (Changes (numbered n) change) ms ≡ []
    none [] all = refl
    none (m ∷ ms) all = rw all.0 (none ms all.1)

    by : (b : Bool) → (o.number == n) ≡ b
        → steps (Changes (numbered n) change) os
        ≡ option_map_or (λ o. turn o (change o) ∷ []) (find (numbered n) os) []
        → step_if b o (change o) ++ steps (Changes (numbered n) change) os
        ≡ option_map_or (λ o. turn o (change o) ∷ []) (if b then Some o else find (numbered n) os) []
    by true e more = ap (λ (ss : List Step). turn o (change o) ∷ ss) (none os (none_after n o os e sorted.0))
    by false e more = more

-- ---- sums over lines

-- a part that counts nothing for no share, and what is held by its amount
pub record IsPart (part : Part) : Type 0 where
  pub nothing : (w : Way) → part w no_share ≡ pos 0
  pub more : (w : Way) (m n : ℕ)
      → part w (record { settled = 0; held = m + n })
      ≡ part w (record { settled = 0; held = m }) +ℤ part w (record { settled = 0; held = n })

pub no_settled : (w : Way) → signed w 0 ≡ pos 0
no_settled w = grind arith

no_take : (w : Way) → pos (if_take w 0) ≡ pos 0
no_take w = grind arith

no_add : (w : Way) → pos (if_add w 0) ≡ pos 0
no_add w = grind arith

pub settled_counts : IsPart settled_part
settled_counts = record { nothing = no_settled; more = λ w m n. let none = no_settled w in omega (arith, ints) }

pub take_counts : IsPart take_part
take_counts = record { nothing = no_take; more = more }
  where
    more : (w : Way) (m n : ℕ) → pos (if_take w (m + n)) ≡ pos (if_take w m) +ℤ pos (if_take w n)
    more w m n = grind (arith, ints)

pub add_counts : IsPart add_part
add_counts = record { nothing = no_add; more = more }
  where
    more : (w : Way) (m n : ℕ) → pos (if_add w (m + n)) ≡ pos (if_add w m) +ℤ pos (if_add w n)
    more w m n = grind (arith, ints)

if_zero : (b : Bool) (z : ℤ) → z ≡ pos 0 → (if b then z else pos 0) ≡ pos 0
if_zero b z e = grind arith

-- an order that is not settled has moved nothing by whatever lines
pub unsettled_none : (test : Line → Bool) (o : Order) → is_settled o ≡ false
    → total (λ l. if test l then settled_part l.way (share_of o.state o.firm l) else pos 0) o.lines ≡ pos 0
unsettled_none test o e = grind (arith, ints, common_steps, total-zero, each, if_zero, no_settled)

-- ---- sums over steps

-- g of the order before, if there was one
abbrev pub before : (Order → ℤ) → Step → ℤ
before g s = option_map_or g s.before (pos 0)

-- a sum over the orders, after the steps and before them
pub steps_add : (g : Order → ℤ) (e : Effect) (os : List Order)
    → total g (orders_after e os) +ℤ total (before g) (steps e os) ≡ total g os +ℤ total (λ s. g s.after) (steps e os)
steps_add g Nothing os = refl
steps_add g (Opens o) os = let new = total-insert g (λ a b. nat_lt a.number b.number) o os in omega (arith, ints)
steps_add g (Changes names change) os = go os
  where
    go : (os : List Order)
        → total g (after_turns names change os) +ℤ total (before g) (turns names change os)
        ≡ total g os +ℤ total (λ s. g s.after) (turns names change os)
    go [] = refl
    go (o ∷ os) = by (names o) (go os)
      where
        by : (b : Bool)
            → total g (after_turns names change os) +ℤ total (before g) (turns names change os)
            ≡ total g os +ℤ total (λ s. g s.after) (turns names change os)
            → (g (if b then change o else o) +ℤ total g (after_turns names change os)) +ℤ total (before g)
            (step_if b o (change o) ++ turns names change os)
            ≡ (g o +ℤ total g os) +ℤ total (λ s. g s.after) (step_if b o (change o) ++ turns names change os)
        by true more = omega (arith, ints)
        by false more = omega (arith, ints)

-- ..where no order has the number
pub none_changes : (g : Order → ℤ) (change : Order → Order) (n : ℕ) (os : List Order)
    → IsStrictlySortedBy nat_cmp (map (λ o. o.number) os) → find (numbered n) os ≡ None
    → total g (orders_after (Changes (numbered n) change) os) ≡ total g os
none_changes g change n os sorted none =
    let add = steps_add g (Changes (numbered n) change) os in
    let is = one_step n change os sorted ∙ ap (λ x. option_map_or (λ o. turn o (change o) ∷ []) x []) none in
    let was = ap (total (before g)) is in let now = ap (total (λ s. g s.after)) is in
    omega (arith, ints)

-- ..and where the one that has it changes
pub one_changes : (g : Order → ℤ) (change : Order → Order) (n : ℕ) (o : Order) (os : List Order)
    → IsStrictlySortedBy nat_cmp (map (λ o. o.number) os) → find (numbered n) os ≡ Some o
    → total g (orders_after (Changes (numbered n) change) os) +ℤ g o ≡ total g os +ℤ g (change o)
one_changes g change n o os sorted found =
    let add = steps_add g (Changes (numbered n) change) os in
    let is = one_step n change os sorted ∙ ap (λ x. option_map_or (λ o. turn o (change o) ∷ []) x []) found in
    let was = ap (total (before g)) is in let now = ap (total (λ s. g s.after)) is in
    omega (arith, ints)

-- ---- what the lines of a step add up to

module _ (part : Part) (is : IsPart part) (f : Name) where
  -- what the lines of steps counted for before
  abbrev before_on : List ShareStep → ℤ
  before_on xs = total (λ x. if same_name f x.name then part x.way x.before else pos 0) xs

  -- what they count for then
  abbrev pub after_on : List ShareStep → ℤ
  after_on xs = total (λ x. if same_name f x.name then part x.way x.after else pos 0) xs

  difference : (xs : List ShareStep) → added_on part f xs +ℤ before_on xs ≡ after_on xs
  difference [] = refl
  difference (x ∷ xs) = by (same_name f x.name) (difference xs)
    where
      by : (b : Bool) → added_on part f xs +ℤ before_on xs ≡ after_on xs
          → ((if b then part x.way x.after -ℤ part x.way x.before else pos 0) +ℤ added_on part f xs)
          +ℤ ((if b then part x.way x.before else pos 0) +ℤ before_on xs)
          ≡ (if b then part x.way x.after else pos 0) +ℤ after_on xs
      by true more = omega (arith, ints)
      by false more = omega (arith, ints)

  lines_after : (b : Option Order) (a : Order) (nr : ℕ) (bs ls : List Line)
      → after_on (shares_from b a nr bs ls)
      ≡ total (λ l. if on f l then part l.way (share_of a.state a.firm l) else pos 0) ls
  lines_after b a nr bs [] = refl
  lines_after b a nr [] (l ∷ ls) = grind (arith, ints, common_steps, (lines_after b a (nr + 1) [] ls))
  lines_after b a nr (m ∷ bs) (l ∷ ls) = grind (arith, ints, common_steps, (lines_after b a (nr + 1) bs ls))

  -- a new line counted for nothing
  new_before : (b : Option Order) (a : Order) (nr : ℕ) (ls : List Line)
      → before_on (shares_from b a nr [] ls) ≡ pos 0
  new_before b a nr [] = refl
  new_before b a nr (l ∷ ls) = grind (arith, ints, common_steps, (new_before b a (nr + 1) ls), if_zero)

  lines_before : (o a : Order) (nr : ℕ) (bs ls : List Line) → Grows bs ls
      → before_on (shares_from (Some o) a nr bs ls)
      ≡ total (λ m. if on f m then part m.way (share_of o.state o.firm m) else pos 0) bs
  lines_before o a nr [] ls grows = new_before (Some o) a nr ls
  lines_before o a nr (m ∷ ms) [] grows = absurd grows
  lines_before o a nr (m ∷ ms) (l ∷ ls) grows =
      λ i. (if same_name f (grows.0.1 i) then part (grows.0.0 i) (share_of o.state o.firm m) else pos 0)
      +ℤ lines_before o a (nr + 1) ms ls grows.1 i

  step_before : (s : Step) → StepGoes s → before_on (shares_of_step s) ≡ before (part_of part f) s
  step_before s goes = by s.before goes
    where
      by : (b : Option Order) → MatchOption b (Unit {0}) (λ b. Goes b s.after)
          → before_on (shares_from b s.after 1 (option_map_or (λ o. o.lines) b []) s.after.lines)
          ≡ option_map_or (part_of part f) b (pos 0)
      by None goes = new_before None s.after 1 s.after.lines
      by (Some b) goes = lines_before b s.after 1 b.lines s.after.lines goes.lines

  -- what steps count for before them, and what they add
  pub before_is : (ss : List Step) → Each StepGoes ss
      → before_on (flat_map shares_of_step ss) ≡ total (before (part_of part f)) ss
  before_is ss goes = total-flat _ shares_of_step ss ∙ total-eq _ _ ss (each-imp step_before ss goes)

  after_is : (ss : List Step) → after_on (flat_map shares_of_step ss) ≡ total (λ s. part_of part f s.after) ss
  after_is ss = total-flat _ shares_of_step ss ∙ total-eq _ _ ss
      (each (λ s. lines_after s.before s.after 1 _ s.after.lines) ss)

  pub orders_add : (e : Effect) (os : List Order) → Each StepGoes (steps e os)
      → total (part_of part f) (orders_after e os)
      ≡ total (part_of part f) os +ℤ added_on part f (flat_map shares_of_step (steps e os))
  orders_add e os goes =
      let sums = steps_add (part_of part f) e os in
      let less = difference (flat_map shares_of_step (steps e os)) in
      let was = before_is (steps e os) goes in
      let is_then = after_is (steps e os) in
      omega (arith, ints)

-- ---- a move at once

-- The command does nothing but move the value of that field, which is its own.
pub record MovesAlone (c : Command) (m : Name × Way × ℕ) : Type 0 where
  pub own : own_field c ≡ Some m.0
  pub unordered : effect c ≡ Nothing
  pub fields : (fields : List Field) → fields_after c fields ≡ fields

pub moves_alone : (c : Command) (m : Name × Way × ℕ) → moved_at_once c ≡ Some m → MovesAlone c m
moves_alone c m e = record { own = grind arith; unordered = grind arith; fields = λ fields. grind arith }

-- ---- the numbers of the next ledger

pub moves_next : (A : Ledger) (c : Command) (f : Name)
    → total (λ m. if same_name f m.field then m.amount else pos 0) (next A c).moves
    ≡ total (λ m. if same_name f m.field then m.amount else pos 0) A.moves +ℤ moved_by_command f c
moves_next A c f = grind (arith, ints, common_steps, total-push)

module _ (A : Ledger) (c : Command) (goes : Each StepGoes (steps_of A c)) where
  parts_next : (part : Part) (f : Name) → IsPart part
      → total (part_of part f) (next A c).orders ≡ total (part_of part f) A.orders +ℤ added_on part f (share_steps A c)
  parts_next part f is = orders_add part is f (effect c) A.orders goes

  pub value_next : (f : Field)
      → settled (next A c) f
      ≡ (settled A f +ℤ moved_by_command f.name c) +ℤ added_on settled_part f.name (share_steps A c)
  value_next f =
      let moves = moves_next A c f.name in
      let used = parts_next settled_part f.name settled_counts in
      omega (arith, ints)

  pub takes_next : (f : Name) → held_to_take (next A c) f ≡ held_to_take A f +ℤ added_on take_part f (share_steps A c)
  takes_next f = parts_next take_part f take_counts

  pub adds_next : (f : Name) → held_to_add (next A c) f ≡ held_to_add A f +ℤ added_on add_part f (share_steps A c)
  adds_next f = parts_next add_part f add_counts

-- ---- a stock that does not change

pub state_same : (s t : State) → open_state s ≡ true → open_state t ≡ true → t ≡ s
state_same Open Open d e = refl
state_same Open Committed d e = absurd (true≢false (sym e))
state_same Open Aborted d e = absurd (true≢false (sym e))
state_same Committed t d e = absurd (true≢false (sym d))
state_same Aborted t d e = absurd (true≢false (sym d))

pub not_not : (b : Bool) → not b ≡ false → b ≡ true
not_not true e = refl
not_not false e = absurd (true≢false e)

pub and_not : (a b : Bool) → a ≡ true → (a && not b) ≡ false → b ≡ true
and_not a true e h = refl
and_not a false e h = absurd (true≢false (sym (rw e refl) ∙ h))

-- each line of a step whose stock does not change is counted as before
abbrev pub StaysAlike : ShareStep → Type 0
StaysAlike x = x.changes ≡ false → x.after ≡ x.before

-- a line whose stock does not change, in the states and with the marks before and then
line_alike : (s t : State) (x y : Bool) (m l : Line) → open_state s ≡ true → (x ≡ true → y ≡ true)
    → ((open_state s && not (open_state t)) || (y && not x) || not (m.held == l.held)
    || (y && (not (m.held == l.held) || not (m.used == l.used))))
    ≡ false
    → share_of t y l ≡ share_of s x m
line_alike Open Open true y m l unended firm e = rw (firm refl) (grind (arith, number_is))
line_alike Open Open false true m l unended firm e = absurd (true≢false e)
line_alike Open Open false false m l unended firm e = grind (arith, number_is)
line_alike Open Committed x y m l unended firm e = absurd (true≢false e)
line_alike Open Aborted x y m l unended firm e = absurd (true≢false e)
line_alike Committed t x y m l unended firm e = absurd (true≢false (sym unended))
line_alike Aborted t x y m l unended firm e = absurd (true≢false (sym unended))

lines_alike : (b a : Order) (nr : ℕ) (bs ls : List Line) → Goes b a
    → Each StaysAlike (shares_from (Some b) a nr bs ls)
lines_alike b a nr bs [] goes = tt
lines_alike b a nr [] (l ∷ ls) goes =
    ((λ e. absurd (true≢false (sym (new_changes b a) ∙ e))), lines_alike b a (nr + 1) [] ls goes)
  where
    new_changes : (b a : Order)
        → ((is_open b && not (is_open a)) || (a.firm && not b.firm) || true || (a.firm && true)) ≡ true
    new_changes b a = grind arith
lines_alike b a nr (m ∷ ms) (l ∷ ls) goes =
    (line_alike b.state a.state b.firm a.firm m l goes.unended goes.firm, lines_alike b a (nr + 1) ms ls goes)

new_alike : (a : Order) (nr : ℕ) (ls : List Line) → Each StaysAlike (shares_from None a nr [] ls)
new_alike a nr [] = tt
new_alike a nr (l ∷ ls) = ((λ e. absurd (true≢false e)), new_alike a (nr + 1) ls)

step_alike : (s : Step) → StepGoes s → Each StaysAlike (shares_of_step s)
step_alike s goes = by s.before goes
  where
    by : (b : Option Order) → MatchOption b (Unit {0}) (λ b. Goes b s.after)
        → Each StaysAlike (shares_of_step (record { before = b; after = s.after }))
    by None goes = new_alike s.after 1 s.after.lines
    by (Some b) goes = lines_alike b s.after 1 b.lines s.after.lines goes

pub alike : (A : Ledger) (c : Command) → Each StepGoes (steps_of A c) → Each StaysAlike (share_steps A c)
alike A c goes = each-flat StaysAlike shares_of_step (steps_of A c) (each-imp step_alike (steps_of A c) goes)

-- ---- fields whose numbers stay

any-flat : {X Y : Type 0} (t : Y → Bool) (f : X → List Y) (xs : List X)
    → list_any t (flat_map f xs) ≡ list_any (λ x. list_any t (f x)) xs
any-flat t f [] = refl
any-flat t f (x ∷ xs) = grind (arith, ints, common_steps, (any-flat t f xs))

-- a field is touched where it is the command's own, or some line on it changes its stock
pub touched : (A : Ledger) (c : Command) (f : Name)
    → changes_field A c f
    ≡ (option_map_or (same_name f) (own_field c) false || list_any
    (λ s. list_any (λ l. on f l.after && changes_stock s l) (lines_of s)) (steps_of A c))
touched A c f =
    own (own_field c) (map line_name (flat_map stock_lines (steps_of A c)))
    ∙ ap (λ b. option_map_or (same_name f) (own_field c) false || b)
    (any-map (same_name f) line_name (flat_map stock_lines (steps_of A c)) ∙ any-flat (on f) stock_lines
    (steps_of A c) ∙ any_same _ _ (steps_of A c) (each (λ s. of_lines s (lines_of s)) (steps_of A c)))
  where
    own : (x : Option Name) (names : List Name)
        → list_any (same_name f) (option_to_list x ++ names)
        ≡ (option_map_or (same_name f) x false || list_any (same_name f) names)
    own None names = refl
    own (Some n) names = refl

    of_lines : (s : Step) (ls : List LineStep)
        → list_any (on f) (map (λ l. l.after) (filter (changes_stock s) ls))
        ≡ list_any (λ l. on f l.after && changes_stock s l) ls
    of_lines s [] = refl
    of_lines s (l ∷ ls) = by (changes_stock s l) (of_lines s ls)
      where
        by : (b : Bool)
            → list_any (on f) (map (λ l. l.after) (filter (changes_stock s) ls))
            ≡ list_any (λ l. on f l.after && changes_stock s l) ls
            → list_any (on f) (map (λ l. l.after) (cond b (l ∷ filter (changes_stock s) ls) (filter (changes_stock s) ls)))
            ≡ (on f l.after && b) || list_any (λ l. on f l.after && changes_stock s l) ls
        by true more = grind arith
        by false more = grind arith

-- some line on the field changes its stock
pub changes_share : (A : Ledger) (c : Command) (f : Name)
    → list_any (λ x. same_name f x.name && x.changes) (share_steps A c)
    ≡ list_any (λ s. list_any (λ l. on f l.after && changes_stock s l) (lines_of s)) (steps_of A c)
changes_share A c f = grind (arith, ints, common_steps, any-flat, any_same, each, any-map)

nothing_added : (part : Part) (f : Name) (x : ShareStep) → StaysAlike x
    → (same_name f x.name && x.changes) ≡ false
    → (if same_name f x.name then part x.way x.after -ℤ part x.way x.before else pos 0) ≡ pos 0
nothing_added part f x alike e = grind (arith, ints, common_steps, alike)

pub none_added : (part : Part) (f : Name) (xs : List ShareStep) → Each StaysAlike xs
    → list_any (λ x. same_name f x.name && x.changes) xs ≡ false → added_on part f xs ≡ pos 0
none_added part f xs alike e =
    total-zero _ xs (each-both (λ x a k. nothing_added part f x a k) xs alike (any_none _ xs e))

abbrev pub SameNumbers : Ledger → Ledger → Field → Type 0
SameNumbers A B f = (settled B f ≡ settled A f) × (held_to_take B f.name ≡ held_to_take A f.name)
    × (held_to_add B f.name ≡ held_to_add A f.name)

pub same_numbers : (A : Ledger) (c : Command) (f : Field) → Good A → FirstFailure (checks A c) None
    → changes_field A c f.name ≡ false → SameNumbers A (next A c) f
same_numbers A c f good passed e =
    grind (
      arith,
      ints,
      common_steps,
      or_false,
      touched,
      steps_go,
      alike,
      changes_share,
      value_next,
      takes_next,
      adds_next,
      none_added,
      moves_alone,
    )
