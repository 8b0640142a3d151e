-- A deal comes to an end by commits and aborts.
use Rattle.ledger.proofs.Prelude.{[], ◌+◌, ◌∙◌, ◌∷◌, ◌≡◌, ◌≤◌, ◌⊎◌, Bool, Done, Each, IsSome, IsSomeAnd, IsTrue, List}
use Rattle.ledger.proofs.Prelude.{None, Option, Order, Reply, Some, arith, false, inl, inr, is_open, is_settled, length}
use Rattle.ledger.proofs.Prelude.{order_numbered, places, refl, subst, sym, true, true≢false, ℕ}
use Rattle.words.specs.declared.command.Command.{Command}
use Rattle.words.specs.declared.command.Command.TheVariants as command
use Rattle.ledger.proofs.Sums.{each-both}
use Rattle.laws.specs.Deals.{AllMoved, AtFirst, AtOther, ComesToAnEnd, Course, Deal, HasCommitted, HasMovedAll}
use Rattle.laws.specs.Deals.{IsAborted, IsAnswered, IsCommitted, IsEnd, IsFree, IsOver, IsUnderWay, NothingMoved, Side}
use Rattle.laws.specs.Deals.{Turn, first_guards, other_guards}
use Rattle.laws.proofs.Together.{Beside, Stands, at_first, stands_along}
use Rattle.laws.proofs.AllOrNothing.{committed_beside, committed_or_not, both_ends, moved_all, moved_nothing}
use Rattle.laws.proofs.AllOrNothing.{not_committed, under}

-- the deal with these other sides
abbrev pub with_others : Deal → List Side → Deal
with_others d ss = record d { others = ss }

-- ---- turns at some of the others are turns at one more

abbrev pub IsAtOther : Turn → Type 0
IsAtOther (AtFirst r reply) = ⊥
IsAtOther (AtOther r reply) = Unit {0}

pub beside_one : (d : Deal) (s : Side) (ss : List Side) (turns : List Turn) (ts : List Side) → Each IsAtOther turns
    → Course (with_others d ss) turns (with_others d ts) → Course (with_others d (s ∷ ss)) turns (with_others d (s ∷ ts))
beside_one d s ss [] ts others h = λ i. with_others d (s ∷ (h i).others)
beside_one d s ss (AtFirst r reply ∷ turns) ts others h = absurd others.0
beside_one d s ss (AtOther r reply ∷ turns) ts others (us, one, more) =
    (s ∷ us, inr (refl, one), beside_one d s us turns ts others.1 more)

-- ---- at one of the others

-- the order there is over, or by one command
abbrev OneEnds : Deal → Side → Type 0
OneEnds d s = (t : Side) × IsOver d.number t × ((t ≡ s) ⊎ ((c : Command) × (key : List ℕ) × (place : ℕ)
    × IsAnswered d.number (other_guards d) (under key c) (Done place) s t
    × ((c ≡ command.Commit d.number) ⊎ (c ≡ command.Abort d.number))))

pub over_if : (x : Option Order) → (IsSomeAnd x IsCommitted ⊎ IsSomeAnd x IsAborted) → IsSomeAnd x (λ o. IsTrue (is_open o)) → ⊥
over_if None (inl h) live = h
over_if None (inr h) live = h
over_if (Some o) (inl h) live = true≢false (sym live ∙ h.0)
over_if (Some o) (inr h) live = true≢false (sym live ∙ h.0)

pub over_or_not : (x : Option Order) → IsSomeAnd x (λ o. IsTrue (is_open o)) ⊎ (IsSomeAnd x (λ o. IsTrue (is_open o)) → ⊥)
over_or_not None = inr (λ h. h)
over_or_not (Some o) = by (is_open o) refl
  where
    by : (b : Bool) → is_open o ≡ b → IsTrue (is_open o) ⊎ (IsTrue (is_open o) → ⊥)
    by true e = inl e
    by false e = inr (λ h. true≢false (sym h ∙ e))

-- an order that is there, and neither open nor committed
pub aborted_if : (x : Option Order) → IsSome x → (IsSomeAnd x IsCommitted → ⊥) → (IsSomeAnd x (λ o. IsTrue (is_open o)) → ⊥)
    → IsSomeAnd x IsAborted
aborted_if None there not over = absurd (true≢false (sym there))
aborted_if (Some o) there not over = by (is_open o) (is_settled o) refl refl
  where
    by : (live settled : Bool) → is_open o ≡ live → is_settled o ≡ settled → IsAborted o
    by true b a c = absurd (over a)
    by false true a c = absurd (not (a, c))
    by false false a c = (a, c)

pub some_there : (x : Option Order) (P : Order → Type 0) → IsSomeAnd x P → IsSome x
some_there None P h = absurd h
some_there (Some o) P h = refl

module _ (d : Deal) (key : List ℕ) (s : Side) (free : IsFree key s) (b : Beside d.number d.until d.first s) where
  commits : HasCommitted d.number d.first → HasMovedAll d.number s ⊎ IsUnderWay d.number s → OneEnds d s
  commits is (inl all) = (s, over_if (order_numbered s.ledger d.number) (inl all.committed), inl refl)
  commits is (inr way) = let k = way.commits key free in (
    record s { ledger = k.0 },
    over_if (order_numbered k.0 d.number) (inl k.2.committed),
    inr (command.Commit d.number, key, _, record { may = λ _. is; answers = k.1; lines = refl }, inl refl),
  )

  aborts : (HasCommitted d.number d.first → ⊥) → IsOver d.number d.first
      → IsSomeAnd (order_numbered s.ledger d.number) (λ o. IsTrue (is_open o)) → OneEnds d s
  aborts not over live =
      let k = (moved_nothing d.number (λ v. v ≡ d.until) s b.opened (λ h. not (b.committed h))).aborts live key free in
      let first_there = b.there (some_there (order_numbered s.ledger d.number) (λ o. IsTrue (is_open o)) live) in (
        record s { ledger = k.0 },
        over_if (order_numbered k.0 d.number) (inr k.2),
        inr (
          command.Abort d.number,
          key,
          _,
          record {
            may = λ _. aborted_if (order_numbered d.first.ledger d.number) first_there not over;
            answers = k.1;
            lines = refl;
          },
          inr refl,
        ),
      )

  one_ends : IsOver d.number d.first → OneEnds d s
  one_ends over = by (committed_or_not (order_numbered d.first.ledger d.number))
      (over_or_not (order_numbered s.ledger d.number))
    where
      by : HasCommitted d.number d.first ⊎ (HasCommitted d.number d.first → ⊥)
          → IsSomeAnd (order_numbered s.ledger d.number) (λ o. IsTrue (is_open o)) ⊎ IsOver d.number s → OneEnds d s
      by (inl is) live = commits is (committed_beside d s is b)
      by (inr not) (inl live) = aborts not over live
      by (inr not) (inr done) = (s, done, inl refl)

-- ---- at each of the others

record OthersEnd (d : Deal) (ss : List Side) : Type 0 where
  turns : List Turn
  ts : List Side
  course : Course (with_others d ss) turns (with_others d ts)
  others : Each IsAtOther turns
  ends : Each (IsEnd d.number) turns
  few : length turns ≤ length ss
  over : Each (IsOver d.number) ts

fewer : (x y : ℕ) → x ≤ y → x ≤ y + 1
fewer x y h = omega arith

more_few : (t : Turn) (turns : List Turn) (s : Side) (ss : List Side) → length turns ≤ length ss
    → length (t ∷ turns) ≤ length (s ∷ ss)
more_few t turns s ss h = omega arith

still_few : (turns : List Turn) (s : Side) (ss : List Side) → length turns ≤ length ss → length turns ≤ length (s ∷ ss)
still_few turns s ss h = omega arith

others_end : (d : Deal) (ss : List Side) → Each (OneEnds d) ss → OthersEnd d ss
others_end d [] all = record { turns = []; ts = []; course = refl; others = tt; ends = tt; few = omega arith; over = tt }
others_end d (s ∷ ss) ((t, over, by), all) = one (others_end d ss all) by
  where
    one : OthersEnd d ss → (t ≡ s) ⊎ ((c : Command) × (key : List ℕ) × (place : ℕ)
        × IsAnswered d.number (other_guards d) (under key c) (Done place) s t
        × ((c ≡ command.Commit d.number) ⊎ (c ≡ command.Abort d.number))) → OthersEnd d (s ∷ ss)
    one k (inl same) = record {
      turns = k.turns;
      ts = s ∷ k.ts;
      course = beside_one d s ss k.turns k.ts k.others k.course;
      others = k.others;
      ends = k.ends;
      few = still_few k.turns s ss k.few;
      over = (subst (IsOver d.number) same over, k.over);
    }
    one k (inr (c, key, place, answered, end)) = record {
      turns = AtOther (under key c) (Done place) ∷ k.turns;
      ts = t ∷ k.ts;
      course = (t ∷ ss, inl (answered, refl), beside_one d t ss k.turns k.ts k.others k.course);
      others = (tt, k.others);
      ends = ((end, (place, refl)), k.ends);
      few = more_few (AtOther (under key c) (Done place)) k.turns s ss k.few;
      over = (over, k.over);
    }

-- ---- all of them

-- an order that is beside a committed one, and not open
pub all_moved : (d : Deal) → Stands d → HasCommitted d.number d.first → Each (IsOver d.number) d.others → AllMoved d
all_moved d now is over = (
  moved_all d.number (λ v. Unit {0}) d.first now.first.opened is (now.first.used is),
  each-both (λ s b done. one s b done) d.others now.others over,
)
  where
    one : (s : Side) → Beside d.number d.until d.first s → IsOver d.number s → HasMovedAll d.number s
    one s b done = by (committed_or_not (order_numbered s.ledger d.number))
      where
        by : HasCommitted d.number s ⊎ (HasCommitted d.number s → ⊥) → HasMovedAll d.number s
        by (inl there) = moved_all d.number (λ v. v ≡ d.until) s b.opened there (b.used is)
        by (inr not) = absurd (both_ends (order_numbered d.first.ledger d.number) is (b.aborted
            (aborted_if (order_numbered s.ledger d.number)
            (some_there (order_numbered s.ledger d.number) _ (b.used is)) not done)))

pub so_or_so : (d : Deal) → Stands d → Each (IsOver d.number) d.others → NothingMoved d ⊎ AllMoved d
so_or_so d now over = elim (committed_or_not (order_numbered d.first.ledger d.number)) [
  | inl is ↦ inr (all_moved d now is over)
  | inr not ↦ inl (not_committed d now not)
]

-- the first is over
pub record AfterFirst (d : Deal) : Type 0 where
  pub turns : List Turn
  pub ts : List Side
  pub course : Course d turns (with_others d ts)
  pub ends : Each (IsEnd d.number) turns
  pub few : length turns ≤ length d.others
  pub over : Each (IsOver d.number) ts
  pub so : NothingMoved (with_others d ts) ⊎ AllMoved (with_others d ts)

pub after_first : (d : Deal) (key : List ℕ) → Stands d → IsOver d.number d.first → Each (IsFree key) d.others → AfterFirst d
after_first d key now over free =
    let k = others_end d d.others (each-both (λ s b f. one_ends d key s f b over) d.others now.others free) in record {
      turns = k.turns;
      ts = k.ts;
      course = k.course;
      ends = k.ends;
      few = k.few;
      over = k.over;
      so = so_or_so (with_others d k.ts) (stands_along d k.turns (with_others d k.ts) k.course now) k.over;
    }

module _ (d : Deal) (key : List ℕ) (now : Stands d) (free_first : IsFree key d.first) (free : Each (IsFree key) d.others) where
  ended : IsOver d.number d.first → ComesToAnEnd d
  ended over = let k = after_first d key now over free in record {
    turns = k.turns;
    end = with_others d k.ts;
    course = k.course;
    ends = k.ends;
    few = fewer (length k.turns) (length d.others) k.few;
    over = (over, k.over);
    so = k.so;
  }

  given_up : IsSomeAnd (order_numbered d.first.ledger d.number) (λ o. IsTrue (is_open o)) → ComesToAnEnd d
  given_up live =
      let not = not_while_open (order_numbered d.first.ledger d.number) live in
      let k = (moved_nothing d.number (λ v. Unit {0}) d.first now.first.opened not).aborts live key free_first in
      let t : Side = record d.first { ledger = k.0 } in
      let request = under key (command.Abort d.number) in
      let reply : Reply = Done (places d.first.ledger + 1) in
      let answered : IsAnswered d.number (first_guards d) request reply d.first t =
      record { may = λ _. tt; answers = k.1; lines = refl } in
      let over = over_if (order_numbered k.0 d.number) (inr k.2) in
      let rest = after_first (record d { first = t }) key
      (at_first d request reply t now answered) over free in record {
        turns = AtFirst request reply ∷ rest.turns;
        end = record d { first = t; others = rest.ts };
        course = (t, answered, rest.course);
        ends = ((refl, (places d.first.ledger + 1, refl)), rest.ends);
        few = one_more (AtFirst request reply) rest.turns (length d.others) rest.few;
        over = (over, rest.over);
        so = rest.so;
      }
    where
      not_while_open : (x : Option Order) → IsSomeAnd x (λ o. IsTrue (is_open o)) → IsSomeAnd x IsCommitted → ⊥
      not_while_open None live is = is
      not_while_open (Some o) live is = true≢false (sym live ∙ is.0)

      one_more : (t : Turn) (turns : List Turn) (n : ℕ) → length turns ≤ n → length (t ∷ turns) ≤ n + 1
      one_more t turns n h = omega arith

  pub comes_to_an_end : ComesToAnEnd d
  comes_to_an_end = elim (over_or_not (order_numbered d.first.ledger d.number)) [
    | inl live ↦ given_up live
    | inr over ↦ ended over
  ]
