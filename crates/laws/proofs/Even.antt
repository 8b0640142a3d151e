-- What the orders of a deal move at all desks together, and what its own commands do to stock.
use Rattle.ledger.proofs.Prelude.{Add, Bool, Each, Field, Good, IsNone, List, OpenLine, Way, [], ap, arith, bytes_eq}
use Rattle.ledger.proofs.Prelude.{false, if◌then◌else◌, inl, inr, ints, not, option_map_or, order_numbered, part_of}
use Rattle.ledger.proofs.Prelude.{pos, refl, settled, settled_part, signed, subst, sym, total, true, ℕ, ℤ, ◌+ℤ◌, ◌∷◌}
use Rattle.ledger.proofs.Prelude.{◌≡◌, ◌≤ℤ◌, ◌⊎◌}
use Rattle.std.specs.List.{AllZip}
use Rattle.ledger.proofs.Goodness.{good_answer}
use Rattle.ledger.proofs.Sums.{each-both, each-imp, total-eq, total-le, total-zero}
use Rattle.laws.specs.Deals.{AtFirst, AtOther, ChangesByOrder, Course, Deal, HasCommitted, IsAnswered, IsNew, IsOver}
use Rattle.laws.specs.Deals.{IsOwn, IsTransfer, Side, Turn, article_moved, article_of_lines, moved_in_all, moved_under}
use Rattle.laws.specs.Deals.{other_guards}
use Rattle.laws.proofs.AllOrNothing.{all_moved, committed_or_not, none_moved}
use Rattle.laws.proofs.Ends.{aborted_if, some_there}
use Rattle.laws.proofs.Stock.{moves_alone}
use Rattle.laws.proofs.Together.{Beside, Stands, none_is}
use Rattle.laws.proofs.Zips.{all_in_turn, all_same, each_one, one_relates, zip_with}
use Rattle.laws.proofs.AllOrNothing.{both_ends}

-- ---- at all desks together

abbrev is_of : List ℕ → List ℕ → List ℕ → Bool
is_of a branch article = bytes_eq article a

not_less : (ls : List OpenLine) (a : List ℕ) → Each (λ l. l.way ≡ Add) ls → pos 0 ≤ℤ article_of_lines a ls
not_less [] a adds = omega (arith, ints)
not_less (l ∷ ls) a adds =
    sums (if bytes_eq l.article a then signed l.way l.qty else pos 0) (article_of_lines a ls)
    (one (bytes_eq l.article a)) (not_less ls a adds.1)
  where
    sums : (x y : ℤ) → pos 0 ≤ℤ x → pos 0 ≤ℤ y → pos 0 ≤ℤ (x +ℤ y)
    sums x y h k = omega (arith, ints)

    up : (w : Way) → w ≡ Add → pos 0 ≤ℤ signed w l.qty
    up w e = subst (λ w. pos 0 ≤ℤ signed w l.qty) (sym e) (omega (arith, ints))

    one : (b : Bool) → pos 0 ≤ℤ (if b then signed l.way l.qty else pos 0)
    one true = up l.way adds.0
    one false = omega (arith, ints)

module _ (d : Deal) (a : List ℕ) (now : Stands d) where
  -- nothing is moved at an order that is not committed
  none_at : (s : Side) → Beside d.number d.until d.first s → (HasCommitted d.number s → ⊥) → article_moved d.number a s ≡ pos 0
  none_at s b not =
      none_moved (is_of a) s.lines (λ v. v ≡ d.until) (order_numbered s.ledger d.number) b.opened not

  first_none : (HasCommitted d.number d.first → ⊥) → article_moved d.number a d.first ≡ pos 0
  first_none not = none_moved (is_of a) d.first.lines (λ v. Unit {0}) (order_numbered d.first.ledger d.number)
      now.first.opened not

  first_all : HasCommitted d.number d.first → article_moved d.number a d.first ≡ article_of_lines a d.first.lines
  first_all is = all_moved (is_of a) d.first.lines (λ v. Unit {0}) (order_numbered d.first.ledger d.number)
      now.first.opened is (now.first.used is)

  all_at : (s : Side) → Beside d.number d.until d.first s → HasCommitted d.number s
      → article_moved d.number a s ≡ article_of_lines a s.lines
  all_at s b is = all_moved (is_of a) s.lines (λ v. v ≡ d.until) (order_numbered s.ledger d.number)
      b.opened is (b.used (b.committed is))

  nothing : (HasCommitted d.number d.first → ⊥) → moved_in_all d a ≡ pos 0
  nothing not = sums _ _ (first_none not) (total-zero (article_moved d.number a) d.others
      (each-imp (λ s b. none_at s b (λ h. not (b.committed h))) d.others now.others))
    where
      sums : (x y : ℤ) → x ≡ pos 0 → y ≡ pos 0 → x +ℤ y ≡ pos 0
      sums x y h k = omega (arith, ints)

  -- no more than its lines at an order that only adds
  at_most : (s : Side) → Beside d.number d.until d.first s → Each (λ l. l.way ≡ Add) s.lines
      → article_moved d.number a s ≤ℤ article_of_lines a s.lines
  at_most s b adds = by (committed_or_not (order_numbered s.ledger d.number))
    where
      same : (x y : ℤ) → x ≡ y → x ≤ℤ y
      same x y e = omega (arith, ints)

      under : (x y : ℤ) → x ≡ pos 0 → pos 0 ≤ℤ y → x ≤ℤ y
      under x y e h = omega (arith, ints)

      by : HasCommitted d.number s ⊎ (HasCommitted d.number s → ⊥) → article_moved d.number a s ≤ℤ article_of_lines a s.lines
      by (inl is) = same (article_moved d.number a s) (article_of_lines a s.lines) (all_at s b is)
      by (inr not) = under (article_moved d.number a s) (article_of_lines a s.lines) (none_at s b not) (not_less s.lines a adds)

  pub missing : IsTransfer d → moved_in_all d a ≤ℤ pos 0
  missing transfer = by (committed_or_not (order_numbered d.first.ledger d.number))
    where
      same : (x : ℤ) → x ≡ pos 0 → x ≤ℤ pos 0
      same x e = omega (arith, ints)

      sums : (x y u v : ℤ) → x ≡ u → y ≤ℤ v → u +ℤ v ≡ pos 0 → (x +ℤ y) ≤ℤ pos 0
      sums x y u v e h k = omega (arith, ints)

      by : HasCommitted d.number d.first ⊎ (HasCommitted d.number d.first → ⊥) → moved_in_all d a ≤ℤ pos 0
      by (inl is) = sums (article_moved d.number a d.first) (total (article_moved d.number a) d.others)
          (article_of_lines a d.first.lines) (total (λ s. article_of_lines a s.lines) d.others) (first_all is)
          (total-le (article_moved d.number a) (λ s. article_of_lines a s.lines) d.others
          (each-both at_most d.others now.others transfer.adds)) (transfer.even a)
      by (inr not) = same (moved_in_all d a) (nothing not)

  -- where all orders are over
  over_at : HasCommitted d.number d.first → (s : Side) → Beside d.number d.until d.first s → IsOver d.number s
      → article_moved d.number a s ≡ article_of_lines a s.lines
  over_at is s b over = by (committed_or_not (order_numbered s.ledger d.number))
    where
      by : HasCommitted d.number s ⊎ (HasCommitted d.number s → ⊥) → article_moved d.number a s ≡ article_of_lines a s.lines
      by (inl there) = all_at s b there
      by (inr not) = absurd (both_ends (order_numbered d.first.ledger d.number) is (b.aborted
          (aborted_if (order_numbered s.ledger d.number) (some_there (order_numbered s.ledger d.number) _ (b.used is)) not over)))

  pub even : IsTransfer d → Each (IsOver d.number) d.others → moved_in_all d a ≡ pos 0
  even transfer over = by (committed_or_not (order_numbered d.first.ledger d.number))
    where
      sums : (x y u v : ℤ) → x ≡ u → y ≡ v → u +ℤ v ≡ pos 0 → x +ℤ y ≡ pos 0
      sums x y u v e h k = omega (arith, ints)

      by : HasCommitted d.number d.first ⊎ (HasCommitted d.number d.first → ⊥) → moved_in_all d a ≡ pos 0
      by (inl is) = sums _ _ _ _ (first_all is) (total-eq (article_moved d.number a) (λ s. article_of_lines a s.lines) d.others
          (each-both (over_at is) d.others now.others over)) (transfer.even a)
      by (inr not) = nothing not

-- ---- where nothing else comes

-- from s to t each field's value changes by what the order has moved there more
abbrev Moves : ℕ → Side → Side → Type 0
Moves n s t =
    (f : Field)
    → settled t.ledger f +ℤ moved_under s.ledger n f.name ≡ settled s.ledger f +ℤ moved_under t.ledger n f.name

same : (n : ℕ) (s : Side) → Moves n s s
same n s f = refl

in_turn : (n : ℕ) (s t u : Side) → Moves n s t → Moves n t u → Moves n s u
in_turn n s t u h k f = adds (settled s.ledger f) (settled t.ledger f) (settled u.ledger f)
    (moved_under s.ledger n f.name) (moved_under t.ledger n f.name) (moved_under u.ledger n f.name) (h f) (k f)
  where
    adds : (a b c x y z : ℤ) → b +ℤ x ≡ a +ℤ y → c +ℤ y ≡ b +ℤ z → c +ℤ x ≡ a +ℤ z
    adds a b c x y z h k = omega (arith, ints)

-- every desk's ledger is good
abbrev pub AreGood : Deal → Type 0
AreGood d = Good d.first.ledger × Each (λ s. Good s.ledger) d.others

abbrev MovesAll : Deal → Deal → Type 0
MovesAll d e = Moves d.number d.first e.first × AllZip (Moves d.number) d.others e.others

own_along : (d : Deal) (turns : List Turn) (e : Deal) → AreGood d → Each (IsOwn d.number) turns → Course d turns e → MovesAll d e
own_along d [] e good own h = subst (MovesAll d) (sym h)
    (same d.number d.first, all_same (Moves d.number) (same d.number) (in_turn d.number) d.others)
own_along d (AtFirst r reply ∷ turns) e good own (t, h, more) =
    let one : Moves d.number d.first t = λ f. moves_alone d.first.ledger r reply t.ledger d.number f good.0 own.0.0 h.answers in
    let still = good_answer d.first.ledger r reply t.ledger good.0 own.0.1 own.0.2 h.answers in
    let rest = own_along (record d { first = t }) turns e (still, good.1) own.1 more in
    (in_turn d.number d.first t e.first one rest.0, rest.1)
own_along d (AtOther r reply ∷ turns) e good own (ts, h, more) =
    let one = one_relates (Moves d.number) (same d.number) (in_turn d.number)
    (IsAnswered d.number (other_guards d) r reply) (λ s. Good s.ledger)
    (λ s t k fine f. moves_alone s.ledger r reply t.ledger d.number f fine own.0.0 k.answers) d.others ts h good.1 in
    let still = each_one (IsAnswered d.number (other_guards d) r reply) (λ s. Good s.ledger)
    (λ s t k fine. good_answer s.ledger r reply t.ledger fine own.0.1 own.0.2 k.answers) d.others ts h good.1 in
    let rest = own_along (record d { others = ts }) turns e (good.0, still) own.1 more in
    (rest.0, all_in_turn (Moves d.number) (same d.number) (in_turn d.number) d.others ts e.others one rest.1)

from_nothing : (n : ℕ) (s t : Side) → IsNone (order_numbered s.ledger n) → Moves n s t → ChangesByOrder n s t
from_nothing n s t none moves f =
    adds (settled s.ledger f) (settled t.ledger f) (moved_under s.ledger n f.name) (moved_under t.ledger n f.name) (moves f)
    (ap (λ x. option_map_or (part_of settled_part f.name) x (pos 0)) (none_is (order_numbered s.ledger n) none))
  where
    adds : (a c x z : ℤ) → c +ℤ x ≡ a +ℤ z → x ≡ pos 0 → c ≡ a +ℤ z
    adds a c x z h e = omega (arith, ints)

pub alone : (d : Deal) (turns : List Turn) (e : Deal) → IsNew d → Course d turns e → AreGood d → Each (IsOwn d.number) turns
    → ChangesByOrder d.number d.first e.first × AllZip (ChangesByOrder d.number) d.others e.others
alone d turns e new h good own = let k = own_along d turns e good own h in (
  from_nothing d.number d.first e.first new.0 k.0,
  zip_with (λ s. IsNone (order_numbered s.ledger d.number)) (Moves d.number) (ChangesByOrder d.number)
      (λ s t none moves. from_nothing d.number s t none moves) d.others e.others new.1 k.1,
)
