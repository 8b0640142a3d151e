-- All that makes a ledger good but its kept keys and its safety, and where it stays though orders change.
use Rattle.ledger.proofs.Prelude.{Bool, Changes, Each, Effect, Equal, Good, IsDistinct, IsGoodField, IsGoodLine}
use Rattle.ledger.proofs.Prelude.{IsGoodMove, IsGoodOrder, IsMoment, IsSome, IsStrictlySortedBy, IsTotalOrder, Kept}
use Rattle.ledger.proofs.Prelude.{Ledger, Line, List, MatchOption, MatchOrdering, Move, Name, None, Option, Order}
use Rattle.ledger.proofs.Prelude.{Ordering, Some, Step, [], ap, arith, bytes_decides, bytes_eq, common_steps, count_by}
use Rattle.ledger.proofs.Prelude.{false, field_named, if◌then◌else◌, ints, is_eq, is_eq-slice_cmp, is_open, length}
use Rattle.ledger.proofs.Prelude.{line_name, map, name_cmp, nat_cmp, nat_list_cmp_total, on_total, open_orders}
use Rattle.ledger.proofs.Prelude.{ordering_then, places, ranks, refl, same_name, slice_cmp, steps, subst, suc, sym}
use Rattle.ledger.proofs.Prelude.{then_total, true, true≢false, ℕ, ◌&&◌, ◌+◌, ◌<◌, ◌∙◌, ◌∷◌, ◌≡◌, ◌≤◌}
use Rattle.escrow.specs.Ranges.{IsOrderNo}
use Rattle.ledger.proofs.Sums.{each-both, each-imp, each-map}
use Rattle.ledger.proofs.Lists.{count-map, length-of-map}
use Rattle.ledger.proofs.FieldNames.{OneOn, same_self}
use Rattle.ledger.proofs.Falls.{LinesFall, OrderFalls, StepFalls, after_each, before_each}
use Rattle.ledger.proofs.Steps.{EffectGoes, Goes, Grows, after_turns, numbers_after, turns}

-- orders of names, keys and numbers

pub name_cmp_total : IsTotalOrder name_cmp
name_cmp_total = then_total (on_total (λ f. f.branch) nat_list_cmp_total)
    (on_total (λ f. f.article) nat_list_cmp_total)

both_equal : (a b : Ordering) → ordering_then a b ≡ Equal → (a ≡ Equal) × (b ≡ Equal)
both_equal x b e = grind arith

equal_text : (xs ys : List ℕ) → slice_cmp nat_cmp xs ys ≡ Equal → bytes_eq xs ys ≡ true
equal_text xs ys e = sym (is_eq-slice_cmp xs ys) ∙ ap is_eq e

pub both_true : (a b : Bool) → a ≡ true → b ≡ true → (a && b) ≡ true
both_true x b e h = cc

pub equal_name : (f g : Name) → name_cmp f g ≡ Equal → same_name f g ≡ true
equal_name f g e = grind (arith, ints, common_steps, both_equal, both_true, equal_text)

pub equal_number : (a b : ℕ) → nat_cmp a b ≡ Equal → a ≡ b
equal_number a b e = subst (λ r. MatchOrdering r (a < b) (a ≡ b) (b < a)) e (ranks a b)

pub other_key : (k key : List ℕ) → bytes_eq k key ≡ false → slice_cmp nat_cmp key k ≡ Equal → ⊥
other_key k key e h =
    let d : key ≡ k = (bytes_decides key k).0 (equal_text key k h) in
    true≢false (sym ((bytes_decides k key).1 (sym d)) ∙ e)

-- what stays

abbrev pub StillThere : Ledger → Ledger → Type 0
StillThere A B = (f : Name) → IsSome (field_named A f) → IsSome (field_named B f)

pub line_kept : (A B : Ledger) → StillThere A B → (l : Line) → IsGoodLine A l → IsGoodLine B l
line_kept A B still l x = record { field = still (line_name l) x.field; held = x.held; used = x.used }

pub order_kept : (A B : Ledger) → StillThere A B → (o : Order) → IsGoodOrder A o → IsGoodOrder B o
order_kept A B still o x = record {
  number = x.number;
  until = x.until;
  some = x.some;
  few = x.few;
  lines = each-imp
      (line_kept A B still) o.lines x.lines;
  apart = x.apart;
  transfer = x.transfer;
  firm = x.firm;
}

pub move_kept : (A B : Ledger) → StillThere A B → places A ≤ places B → (m : Move) → IsGoodMove A m → IsGoodMove B m
move_kept A B still more m x =
    record { first = x.first; last = (let a = x.last in omega arith); field = still m.field x.field; size = x.size }

-- no two lines are on one field, where at most one line is on each
pub apart_lines : (ls : List Line) → ((g : Name) → OneOn g ls) → IsDistinct same_name (map line_name ls)
unfolding IsDistinct
apart_lines [] one = tt
apart_lines (l ∷ ls) one = (
  each-map (λ n. same_name (line_name l) n ≡ false) line_name ls ((one (line_name l)).0 (same_self (line_name l))),
  apart_lines ls (λ g. (one g).1),
)

-- all of a good ledger but its kept keys and its safety
pub record Parts (B : Ledger) : Type 0 where
  pub clock : IsMoment B.clock
  pub fields : Each IsGoodField B.fields
  pub fields_in_order : IsStrictlySortedBy name_cmp (map (λ f. f.name) B.fields)
  pub few_fields : length B.fields ≤ 10000
  pub moves : Each (IsGoodMove B) B.moves
  pub moves_in_order : IsStrictlySortedBy nat_cmp (map (λ m. m.place) B.moves)
  pub orders : Each (IsGoodOrder B) B.orders
  pub orders_in_order : IsStrictlySortedBy nat_cmp (map (λ o. o.number) B.orders)
  pub few_orders : length B.orders ≤ 100000
  pub room : places B + open_orders B ≤ 200000

pub not_many : (m n : ℕ) → (m ≤ n → ⊥) → n + 1 ≤ m
not_many m n h = omega arith

-- the ledger with each order changed
abbrev pub changed : (Order → Order) → ℕ → List Kept → Ledger → Ledger
changed h clock kept A =
    record { clock = clock; fields = A.fields; moves = A.moves; orders = map h A.orders; kept = kept }

pub changing : (A : Ledger) (names : Order → Bool) (change : Order → Order) (clock : ℕ) (kept : List Kept) → Good A
    → IsMoment clock → length kept ≡ places A + 1 → EffectGoes (Changes names change) A.orders
    → Each (IsGoodOrder (changed (λ o. if names o then change o else o) clock kept A))
    (after_turns names change A.orders)
    → places A + count_by is_open (after_turns names change A.orders) + 1 ≤ 200000
    → Parts (changed (λ o. if names o then change o else o) clock kept A)
changing A names change clock kept g moment more goes orders room =
    grind (
      arith,
      (numbers_after (Changes names change) A.orders goes g.orders_in_order),
      (length-of-map (λ o. if names o then change o else o) A.orders),
      each-imp,
      move_kept,
    )

-- ---- commands that ask for no stock

lines_good : (A B : Ledger) → StillThere A B → (bs ls : List Line) → Grows bs ls → LinesFall bs ls
    → Each (IsGoodLine A) bs → Each (IsGoodLine B) ls
lines_good A B still [] [] grows falls good = tt
lines_good A B still [] (l ∷ ls) grows falls good = absurd falls
lines_good A B still (b ∷ bs) [] grows falls good = absurd falls
lines_good A B still (b ∷ bs) (l ∷ ls) grows falls good =
    let less = falls.0.0 in let most = good.0.held in (
      record {
        field = subst (λ n. IsSome (field_named B n)) (sym grows.0.1) (still (line_name b) good.0.field);
        held = omega arith;
        used = falls.0.2;
      },
      lines_good A B still bs ls grows.1 falls.1 good.1,
    )

same_length : (bs ls : List Line) → LinesFall bs ls → length ls ≡ length bs
same_length [] [] falls = refl
same_length [] (l ∷ ls) falls = absurd falls
same_length (b ∷ bs) [] falls = absurd falls
same_length (b ∷ bs) (l ∷ ls) falls = ap suc (same_length bs ls falls.1)

order_good : (A B : Ledger) → StillThere A B → (b a : Order) → OrderFalls b a → IsGoodOrder A b → IsGoodOrder B a
order_good A B still b a falls x = grind (arith, ints, common_steps, same_length, lines_good, apart_lines)

step_good : (A B : Ledger) → StillThere A B → (s : Step) → StepFalls s
    → MatchOption s.before (Unit {0}) (IsGoodOrder A) → IsGoodOrder B s.after
step_good A B still s falls good = by s.before falls good
  where
    by : (b : Option Order) → MatchOption b ⊥ (λ b. OrderFalls b s.after) → MatchOption b (Unit {0}) (IsGoodOrder A)
        → IsGoodOrder B s.after
    by None falls good = absurd falls
    by (Some b) falls good = order_good A B still b s.after falls good

pub closing : (A : Ledger) (names : Order → Bool) (change : Order → Order) (clock : ℕ) (kept : List Kept) → Good A
    → IsMoment clock → length kept ≡ places A + 1 → EffectGoes (Changes names change) A.orders
    → Each StepFalls (turns names change A.orders)
    → places A + count_by is_open (after_turns names change A.orders) + 1 ≤ 200000
    → Parts (changed (λ o. if names o then change o else o) clock kept A)
closing A names change clock kept g moment more goes falls room =
    let B : Ledger = changed (λ o. if names o then change o else o) clock kept A in
    let e : Effect = Changes names change in
    changing A names change clock kept g moment more goes
    (after_each (IsGoodOrder B) e A.orders (each-imp (order_kept A B (λ f y. y)) A.orders g.orders)
    (each-both (λ s h x. step_good A B (λ f y. y) s h x) (steps e A.orders) falls
    (before_each (IsGoodOrder A) e A.orders g.orders))) room

-- no order is opened
pub fewer_open : (names : Order → Bool) (change : Order → Order) (os : List Order)
    → EffectGoes (Changes names change) os → count_by is_open (after_turns names change os) ≤ count_by is_open os
fewer_open names change os goes = grind (arith, ints, common_steps, count-map, each-imp)
