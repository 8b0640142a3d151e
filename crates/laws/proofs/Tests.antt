-- Tests of a command's checks that compute. Each gives the proof of what it found, one way or the other: the tests are
-- `abbrev`s, which unfold, and the proofs in them are not.
use Rattle.ledger.proofs.Prelude.{Add, Bool, Check, Command, Each, IsFalse, IsNone, IsSomeAnd, IsTrue, Ledger, List}
use Rattle.ledger.proofs.Prelude.{MAX_ORDER_LINES, Name, None, OpenLine, Option, Order, Some, Take, Way, [], arith}
use Rattle.ledger.proofs.Prelude.{bound, checks, false, field_named, full, held_to_add, held_to_take, ints, is_open}
use Rattle.ledger.proofs.Prelude.{is_transfer, length, line_checks, line_name, line_on, nat_le, nat_lt, new_order, next}
use Rattle.ledger.proofs.Prelude.{on, open_orders, order_checks, order_numbered, places, pos, refl, settled, subst, sym}
use Rattle.ledger.proofs.Prelude.{transfer_lines, true, true≢false, with_order, ℕ, ℤ, ◌++◌, ◌+ℤ◌, ◌+◌, ◌-ℤ◌, ◌<ℤ◌, ◌<◌}
use Rattle.ledger.proofs.Prelude.{◌↔◌, ◌∷◌, ◌≡◌, ◌≢◌, ◌≤◌}
use Rattle.ledger.specs.declared.order.Line.{Line}
use Rattle.ledger.specs.declared.limits.TheConstants.{MAX_PLACES}
use Rattle.ledger.specs.declared.order.Kind.TheVariants.{Plain, Transfer}
use Rattle.words.specs.declared.command.Command.TheVariants as command
use Rattle.std.specs.Prelude.{int_lt, is_some}
use Rattle.ledger.specs.declared.limits.TheConstants.{MAX_FIELDS, MAX_ORDERS}
use Rattle.ledger.specs.Answers.{ended, no_order, not_held, over_use}
use Rattle.ledger.proofs.Bounds.{Sound, falls_below_iff, rises_above_iff}
use Rattle.ledger.proofs.Sums.{each-imp}
use Rattle.ledger.proofs.FieldNames.{OneOn, name_is}

-- what a test finds; a bound is unknown at a ledger whose orders are not seen to be sound
pub data Tested (P : Type 0) : Type 0 where
  holds : P → Tested P
  fails : (P → ⊥) → Tested P
  unknown : Tested P

-- ---- numbers and Booleans

pub less-true : (m n : ℕ) → nat_lt m n ≡ true → m < n
less-true m n e = grind arith

pub less-false : (m n : ℕ) → nat_lt m n ≡ false → m < n → ⊥
less-false m n e h = grind arith

pub upto-true : (m n : ℕ) → nat_le m n ≡ true → m ≤ n
upto-true m n e = grind arith

pub upto-false : (m n : ℕ) → nat_le m n ≡ false → m ≤ n → ⊥
upto-false m n e h = grind arith

pub less_z-true : (a b : ℤ) → int_lt a b ≡ true → a <ℤ b
less_z-true a b e = omega (arith, ints)

pub less_z-false : (a b : ℤ) → int_lt a b ≡ false → a <ℤ b → ⊥
less_z-false a b e h = omega (arith, ints)

pub false-true : false ≡ true → ⊥
false-true e = true≢false (sym e)

pub take-add : Take ≡ Add → ⊥
take-add e = cc

pub add-take : Add ≡ Take → ⊥
add-take e = cc

abbrev pub by_bool : {P : Type 0} → (b : Bool) → (b ≡ true → P) → (b ≡ false → P → ⊥) → Tested P
by_bool true f g = holds (f refl)
by_bool false f g = fails (g refl)

abbrev pub if_less : (m n : ℕ) → Tested (m < n)
if_less m n = by_bool (nat_lt m n) (less-true m n) (less-false m n)

abbrev pub if_upto : (m n : ℕ) → Tested (m ≤ n)
if_upto m n = by_bool (nat_le m n) (upto-true m n) (upto-false m n)

abbrev pub if_less_z : (a b : ℤ) → Tested (a <ℤ b)
if_less_z a b = by_bool (int_lt a b) (less_z-true a b) (less_z-false a b)

abbrev pub if_is : (b c : Bool) → Tested (b ≡ c)
if_is true true = holds refl
if_is false false = holds refl
if_is true false = fails true≢false
if_is false true = fails false-true

abbrev pub if_ways_differ : (w v : Way) → Tested (w ≢ v)
if_ways_differ Take Take = fails (λ h. h refl)
if_ways_differ Add Add = fails (λ h. h refl)
if_ways_differ Take Add = holds take-add
if_ways_differ Add Take = holds add-take

-- ---- tests of several parts

abbrev pub if_both : {P Q : Type 0} → Tested P → Tested Q → Tested (P × Q)
if_both (holds p) (holds q) = holds (p, q)
if_both (holds p) (fails q) = fails (λ h. q h.1)
if_both (holds p) unknown = unknown
if_both (fails p) t = fails (λ h. p h.0)
if_both unknown t = unknown

abbrev pub if_not : {P : Type 0} → Tested P → Tested (P → ⊥)
if_not (holds p) = fails (λ h. h p)
if_not (fails p) = holds p
if_not unknown = unknown

abbrev pub if_some_and : {X : Type 0} (P : X → Type 0) (o : Option X) → ((x : X) → Tested (P x)) → Tested (IsSomeAnd o P)
if_some_and P None t = fails (λ h. h)
if_some_and P (Some x) t = t x

abbrev pub if_each : {X : Type 0} (P : X → Type 0) (xs : List X) → ((x : X) → Tested (P x)) → Tested (Each P xs)
if_each P [] t = holds tt
if_each P (x ∷ xs) t = if_both (t x) (if_each P xs t)

abbrev pub if_iff : {P Q : Type 0} → P ↔ Q → Tested Q → Tested P
if_iff e (holds q) = holds (e.1 q)
if_iff e (fails q) = fails (λ p. q (e.0 p))
if_iff e unknown = unknown

-- a test that rests on another fact
abbrev pub if_known : {P Q : Type 0} → Tested P → (P → Tested Q) → Tested Q
if_known (holds p) t = t p
if_known (fails p) t = unknown
if_known unknown t = unknown

-- ---- the bounds of a ledger

-- no two lines are on one field
abbrev pub Apart : List Line → Type 0
Apart [] = Unit {0}
Apart (l ∷ ls) = Each (λ m. on (line_name l) m ≡ false) ls × Apart ls

one_if_apart : (f : Name) (ls : List Line) → Apart ls → OneOn f ls
one_if_apart f [] d = tt
one_if_apart f (l ∷ ls) d =
    (λ e. subst (λ g. Each (λ m. on g m ≡ false) ls) (sym (name_is f (line_name l) e)) d.0, one_if_apart f ls d.1)

-- what makes each order sound, in a form that can be tested
abbrev pub Sounds : Ledger → Type 0
Sounds A = Each (λ o. Each (λ l. l.used ≤ l.held) o.lines × Apart o.lines) A.orders

pub sounds : (A : Ledger) → Sounds A → Each Sound A.orders
sounds A h = each-imp (λ o p. record { used = p.0; one = λ f. one_if_apart f o.lines p.1 }) A.orders h

abbrev pub if_apart : (ls : List Line) → Tested (Apart ls)
if_apart [] = holds tt
if_apart (l ∷ ls) = if_both (if_each (λ m. on (line_name l) m ≡ false) ls (λ m. if_is (on (line_name l) m) false)) (if_apart ls)

abbrev pub if_sounds : (A : Ledger) → Tested (Sounds A)
if_sounds A =
    if_each (λ o. Each (λ l. l.used ≤ l.held) o.lines × Apart o.lines) A.orders
    (λ o. if_both (if_each (λ l. l.used ≤ l.held) o.lines (λ l. if_upto l.used l.held)) (if_apart o.lines))

abbrev pub if_bound : (w : Way) (B : Ledger) (f : Name) (i : ℕ) → Tested (bound w B f i).fails
if_bound Take B f i =
    if_known (if_sounds B) (λ s. if_iff (falls_below_iff B (sounds B s) f)
    (if_some_and _ (field_named B f) (λ e. if_less_z (settled B e -ℤ held_to_take B e.name) (pos e.lo))))
if_bound Add B f i =
    if_known (if_sounds B) (λ s. if_iff (rises_above_iff B (sounds B s) f)
    (if_some_and _ (field_named B f) (λ e. if_less_z (pos e.hi) (settled B e +ℤ held_to_add B e.name))))

-- ---- the checks of a command

-- a test of each check
abbrev pub AllTested : List Check → Type 0
AllTested [] = Unit {0}
AllTested (c ∷ cs) = Tested c.fails × AllTested cs

abbrev pub if_full : (A : Ledger) (more : ℕ) → Tested (MAX_PLACES < places A + open_orders A + more)
if_full A more = if_less MAX_PLACES (places A + open_orders A + more)

-- the order under the number has some fact
abbrev pub if_order : (A : Ledger) (n : ℕ) (P : Order → Type 0) → ((o : Order) → Tested (P o))
    → Tested (IsSomeAnd (order_numbered A n) P)
if_order A n P t = if_some_and P (order_numbered A n) t

abbrev pub if_no_order : (A : Ledger) (n : ℕ) → Tested (IsNone (order_numbered A n))
if_no_order A n = if_is (is_some (order_numbered A n)) false

abbrev pub if_ended : (A : Ledger) (n : ℕ) → Tested (IsSomeAnd (order_numbered A n) (λ o. IsFalse (is_open o)))
if_ended A n = if_order A n (λ o. IsFalse (is_open o)) (λ o. if_is (is_open o) false)

abbrev pub if_firm : (A : Ledger) (n : ℕ) → Tested (IsSomeAnd (order_numbered A n) (λ o. IsTrue o.firm))
if_firm A n = if_order A n (λ o. IsTrue o.firm) (λ o. if_is o.firm true)

-- the order's line on the field has some fact
abbrev pub if_line : (A : Ledger) (n : ℕ) (f : Name) (P : Line → Type 0) → ((l : Line) → Tested (P l))
    → Tested (IsSomeAnd (order_numbered A n) (λ o. IsSomeAnd (line_on o f) P))
if_line A n f P t = if_order A n (λ o. IsSomeAnd (line_on o f) P) (λ o. if_some_and P (line_on o f) t)

-- the checks of a use and of a release
abbrev pub part_tested : (A : Ledger) (n : ℕ) (f : Name) (q : ℕ)
    → AllTested (full A 1 ∷ no_order A n ∷ ended A n ∷ not_held A n f ∷ over_use A n f q ∷ [])
part_tested A n f q = (
  if_full A 1,
  (
    if_no_order A n,
    (
      if_ended A n,
      (
        if_order A n (λ o. IsNone (line_on o f)) (λ o. if_is (is_some (line_on o f)) false),
        (if_line A n f (λ l. l.held < l.used + q) (λ l. if_less l.held (l.used + q)), tt),
      ),
    ),
  ),
)

-- the checks of the lines of an order
abbrev pub lines_tested : (A : Ledger) (order : List OpenLine → Order) (before ls : List OpenLine)
    → AllTested (line_checks A order before ls)
lines_tested A order before [] = tt
lines_tested A order before (l ∷ ls) = let f : Name = record { branch = l.branch; article = l.article } in (
  if_is (is_some (line_on (order before) f)) true,
  (
    if_is (is_some (field_named A f)) false,
    (if_bound l.way (with_order (order (before ++ l ∷ [])) A) f (length before + 1), lines_tested A order (before ++ l ∷ []) ls),
  ),
)

-- the checks of a new order
abbrev pub order_tested : (A : Ledger) (n until : ℕ) (order : List OpenLine → Order) (ls : List OpenLine)
    → AllTested (order_checks A n until ++ line_checks A order [] ls)
order_tested A n until order ls = (
  if_full A 2,
  (
    if_upto MAX_ORDERS (length A.orders),
    (if_is (is_some (order_numbered A n)) true, (if_upto until A.clock, lines_tested A order [] ls)),
  ),
)

-- the checks of a raise
abbrev pub more_tested : (A : Ledger) (n : ℕ) (w : Way) (f : Name) (q : ℕ)
    → AllTested (checks A (command.More n w f.branch f.article q))
more_tested A n w f q = (
  if_full A 1,
  (
    if_no_order A n,
    (
      if_ended A n,
      (
        if_firm A n,
        (
          if_order A n (λ o. IsTrue (is_transfer o)) (λ o. if_is (is_transfer o) true),
          (
            if_is (is_some (field_named A f)) false,
            (
              if_line A n f (λ l. l.way ≢ w) (λ l. if_ways_differ l.way w),
              (
                if_order A n (λ o. IsNone (line_on o f) × (MAX_ORDER_LINES ≤ length o.lines))
                    (λ o. if_both (if_is (is_some (line_on o f)) false) (if_upto MAX_ORDER_LINES (length o.lines))),
                (if_bound w (next A (command.More n w f.branch f.article q)) f 0, tt),
              ),
            ),
          ),
        ),
      ),
    ),
  ),
)

abbrev pub tested : (A : Ledger) (c : Command) → AllTested (checks A c)
tested A (command.Field b a lo hi start) = (
  if_full A 1,
  (
    if_upto MAX_FIELDS (length A.fields),
    (
      if_is (is_some (field_named A (record { branch = b; article = a }))) true,
      (if_not (if_both (if_upto lo start) (if_upto start hi)), tt),
    ),
  ),
)
tested A (command.Deliver b a q) = let f : Name = record { branch = b; article = a } in
    (if_full A 1, (if_is (is_some (field_named A f)) false, (if_bound Add (next A (command.Deliver b a q)) f 0, tt)))
tested A (command.Writeoff b a q) = let f : Name = record { branch = b; article = a } in
    (if_full A 1, (if_is (is_some (field_named A f)) false, (if_bound Take (next A (command.Writeoff b a q)) f 0, tt)))
tested A (command.Rebound b a lo hi) =
    let f : Name = record { branch = b; article = a } in let B : Ledger = next A (command.Rebound b a lo hi) in
    (if_full A 1, (if_is (is_some (field_named A f)) false, (if_less hi lo, (if_bound Take B f 0, (if_bound Add B f 0, tt)))))
tested A (command.Open n until lines) = order_tested A n until (new_order n Plain until) lines
tested A (command.Transfer n until a from to q) = order_tested A n until (new_order n Transfer until) (transfer_lines a from to q)
tested A (command.More n w b a q) = more_tested A n w (record { branch = b; article = a }) q
tested A (command.Use n b a q) = part_tested A n (record { branch = b; article = a }) q
tested A (command.Release n b a q) = part_tested A n (record { branch = b; article = a }) q
tested A (command.Commit n) = (if_no_order A n, (if_ended A n, tt))
tested A (command.Abort n) = (if_no_order A n, (if_ended A n, (if_firm A n, tt)))
tested A (command.Firm n) = (if_full A 1, (if_no_order A n, (if_ended A n, (if_firm A n, tt))))
tested A (command.Expire now) = (if_full A 1, (if_less now A.clock, tt))
