-- A command that names an order changes each field's settled value by what the order moves there, and no other command
-- changes what it has moved.
use Rattle.ledger.proofs.Prelude.{Answers, Bool, Changes, Command, Effect, Field, Good, IsNone, IsStrictlySortedBy}
use Rattle.ledger.proofs.Prelude.{Ledger, List, Name, None, Nothing, OpenLine, Opens, Option, Order, Reply, Request}
use Rattle.ledger.proofs.Prelude.{Some, add_hold, ap, arith, effect, expires, false, find, if◌then◌else◌, ints}
use Rattle.ledger.proofs.Prelude.{is_settled, map, moved_by_command, nat_cmp, nat_lt, numbered, on, option_map}
use Rattle.ledger.proofs.Prelude.{option_map_or, orders_after, part_of, pos, refl, set_state, settled, settled_part}
use Rattle.ledger.proofs.Prelude.{subst, sym, total, true, ℕ, ℤ, ◌+ℤ◌, ◌==◌, ◌∙◌, ◌≡◌, ◌≢◌}
use Rattle.words.specs.declared.command.Command.TheVariants as command
use Rattle.ledger.specs.declared.order.State.TheVariants.{Aborted}
use Rattle.ledger.proofs.Lists.{found_passes}
use Rattle.ledger.proofs.Passing.{answered}
use Rattle.ledger.proofs.Steps.{EffectGoes, effect_goes, found_changed, found_opened, keeps_numbers, moves_next}
use Rattle.ledger.proofs.Steps.{none_changes, one_changes, unsettled_none}
use Rattle.ledger.proofs.Sums.{each, total-insert}
use Rattle.laws.specs.Deals.{Names, moved_under}
use Rattle.laws.proofs.OneOrder.{beside, number_is, other_number, same_number}
use Rattle.laws.proofs.Together.{none_is}

abbrev moved_of : Name → Option Order → ℤ
moved_of f x = option_map_or (part_of settled_part f) x (pos 0)

abbrev under : ℕ → List Order → Option Order
under n os = find (numbered n) os

-- ---- the order that a command names

-- the effect opens or changes the order under the number
abbrev IsOn : ℕ → Effect → Type 0
IsOn n Nothing = ⊥
IsOn n (Opens o) = o.number ≡ n
IsOn n (Changes names change) = names ≡ numbered n

is_on : (c : Command) (n : ℕ) → Names c n → IsOn n (effect c)
is_on (command.Open m v ls) n is = is
is_on (command.Transfer m v a from to q) n is = is
is_on (command.More m way b a q) n is = ap numbered is
is_on (command.Use m b a q) n is = ap numbered is
is_on (command.Release m b a q) n is = ap numbered is
is_on (command.Commit m) n is = ap numbered is
is_on (command.Abort m) n is = ap numbered is
is_on (command.Firm m) n is = ap numbered is
is_on c n is = absurd is

itself : (a b : ℕ) → a ≡ b → (a == b) ≡ true
itself a b e = grind arith

no_move : (f : Name) (c : Command) (n : ℕ) → Names c n → moved_by_command f c ≡ pos 0
no_move f c n is = grind arith

module _ (f : Name) (n : ℕ) (os : List Order) (sorted : IsStrictlySortedBy nat_cmp (map (λ o. o.number) os)) where
  abbrev g : Order → ℤ
  g o = part_of settled_part f o

  -- it moves the difference
  abbrev Evens : List Order → Type 0
  Evens new = total g new +ℤ moved_of f (under n os) ≡ total g os +ℤ moved_of f (under n new)

  changed : (change : Order → Order) → EffectGoes (Changes (numbered n) change) os → (x : Option Order) → under n os ≡ x
      → Evens (orders_after (Changes (numbered n) change) os)
  changed change goes x is = by x is
    where
      after : (x : Option Order) → under n os ≡ x
          → under n (orders_after (Changes (numbered n) change) os) ≡ option_map (λ o. if numbered n o then change o else o) x
      after x is = found_changed n (numbered n) change os (keeps_numbers (numbered n) change os goes) ∙ ap (option_map _) is

      by : (x : Option Order) → under n os ≡ x → Evens (orders_after (Changes (numbered n) change) os)
      by None is = let a = none_changes g change n os sorted is in let b = ap (moved_of f) is in
          let c = ap (moved_of f) (after None is) in omega (arith, ints)
      by (Some o) is =
          let a = one_changes g change n o os sorted is in let b = ap (moved_of f) is in
          let c = ap (moved_of f) (after (Some o) is
          ∙ ap (λ b. Some (if b then change o else o)) (found_passes (numbered n) o os is)) in omega (arith, ints)

  evens : (e : Effect) → IsOn n e → EffectGoes e os → Evens (orders_after e os)
  evens Nothing is goes = absurd is
  evens (Opens o) is goes =
      let a = total-insert g (λ a b. nat_lt a.number b.number) o os in
      let b = ap (moved_of f) (none_is (under n os) (subst (λ k. IsNone (under k os)) is goes)) in
      let c = ap (moved_of f) (found_opened n o os goes ∙ ap (λ b. if b then Some o else under n os) (itself o.number n is)) in
      omega (arith, ints)
  evens (Changes names change) is goes = subst (λ t.
      EffectGoes (Changes t change) os → Evens (orders_after (Changes t change) os))
      (sym is) (λ goes. changed change goes (under n os) refl) goes

pub moves_alone : (A : Ledger) (r : Request) (reply : Reply) (B : Ledger) (n : ℕ) (f : Field) → Good A → Names r.command n
    → Answers A r reply B → settled B f +ℤ moved_under A n f.name ≡ settled A f +ℤ moved_under B n f.name
moves_alone A r reply B n f good names h =
    answered A r reply B (λ M. settled M f +ℤ moved_under A n f.name ≡ settled A f +ℤ moved_under M n f.name) h refl
    (λ passed.
    let sums = evens f.name n A.orders good.orders_in_order (effect r.command) (is_on r.command n names)
    (effect_goes A r.command good.orders_in_order passed) in
    let moves = moves_next A r.command f.name in let none = no_move f.name r.command n names in omega (arith, ints))

-- ---- other commands

-- the effect leaves what the order under the number has moved on the field
abbrev IsBeside : Name → ℕ → Effect → Type 0
IsBeside f n Nothing = Unit {0}
IsBeside f n (Opens o) = (o.number == n) ≡ false
IsBeside f n (Changes names change) = ((o : Order) → (change o).number ≡ o.number)
    × ((o : Order) → o.number ≡ n → names o ≡ true → part_of settled_part f (change o) ≡ part_of settled_part f o)

-- an order of another number is not that one
apart : (X : Order → Type 0) (m n : ℕ) → m ≢ n → (o : Order) → o.number ≡ n → numbered m o ≡ true → X o
apart X m n not o is named = absurd (not (sym (same_number o.number m named) ∙ is))

more_number : (l : OpenLine) (o : Order) → (add_hold l o).number ≡ o.number
more_number l o = grind arith

loose_if : (now : ℕ) (o : Order) → expires now o ≡ true → is_settled o ≡ false
loose_if now o e = grind arith

is_beside : (f : Name) (n : ℕ) (c : Command) → (Names c n → ⊥) → IsBeside f n (effect c)
is_beside f n (command.Open m v ls) not = other_number m n not
is_beside f n (command.Transfer m v a from to q) not = other_number m n not
is_beside f n (command.More m way b a q) not = (more_number _, apart _ m n not)
is_beside f n (command.Use m b a q) not = ((λ o. refl), apart _ m n not)
is_beside f n (command.Release m b a q) not = ((λ o. refl), apart _ m n not)
is_beside f n (command.Commit m) not = ((λ o. refl), apart _ m n not)
is_beside f n (command.Abort m) not = ((λ o. refl), apart _ m n not)
is_beside f n (command.Firm m) not = ((λ o. refl), apart _ m n not)
is_beside f n (command.Expire now) not = (
  (λ o. refl),
  λ o is e.
      unsettled_none (on f) (set_state Aborted o) refl ∙ sym (unsettled_none (on f) o (loose_if now o e)),
)
is_beside f n c not = tt

leaves : (f : Name) (n : ℕ) (e : Effect) (os : List Order) → IsBeside f n e
    → moved_of f (under n (orders_after e os)) ≡ moved_of f (under n os)
leaves f n Nothing os beside = refl
leaves f n (Opens o) os other = ap (moved_of f) (beside n o other os)
leaves f n (Changes names change) os beside =
    ap (moved_of f) (found_changed n names change os (each (λ o _. beside.0 o) os)) ∙ by (under n os) refl
  where
    one : (o : Order) (b : Bool) → names o ≡ b → o.number ≡ n
        → part_of settled_part f (if b then change o else o) ≡ part_of settled_part f o
    one o true e is = beside.1 o is e
    one o false e is = refl

    by : (x : Option Order) → under n os ≡ x
        → moved_of f (option_map (λ o. if names o then change o else o) x) ≡ moved_of f x
    by None e = refl
    by (Some o) e = one o (names o) refl (number_is n o os e)

pub others_leave_it : (A : Ledger) (r : Request) (reply : Reply) (B : Ledger) (n : ℕ) (f : Name) → (Names r.command n → ⊥)
    → Answers A r reply B → moved_under B n f ≡ moved_under A n f
others_leave_it A r reply B n f not h = answered A r reply B (λ M. moved_under M n f ≡ moved_under A n f) h refl
    (λ passed. leaves f n (effect r.command) A.orders (is_beside f n r.command not))
