-- Wherever a course stops, all of the deal is moved, or nothing is.
use Rattle.ledger.proofs.Prelude.{Bool, Each, FirstFailure, IfSome, IsFalse, IsNone, IsSomeAnd, IsTrue, Ledger, List}
use Rattle.ledger.proofs.Prelude.{Name, None, OpenLine, Option, Order, Request, Some, [], accept, ap, arith, checks}
use Rattle.ledger.proofs.Prelude.{effect, false, find, if◌then◌else◌, inl, inr, is_open, is_settled, map, name_of, not}
use Rattle.ledger.proofs.Prelude.{numbered, option_map, option_map_or, order_numbered, pos, refl, same_name}
use Rattle.ledger.proofs.Prelude.{settled_part, share_of, signed, subst, sym, total, true, true≢false, ℕ, ℤ, ◌+ℤ◌, ◌==◌}
use Rattle.ledger.proofs.Prelude.{◌∙◌, ◌∷◌, ◌≡◌, ◌⊎◌}
use Rattle.words.specs.declared.command.Command.{Command}
use Rattle.words.specs.declared.command.Command.TheVariants as command
use Rattle.ledger.specs.declared.order.Line.{Line}
use Rattle.ledger.proofs.Runs.{accepted_answered}
use Rattle.ledger.proofs.Lists.{found_passes}
use Rattle.ledger.proofs.Steps.{found_changed, unsettled_none}
use Rattle.ledger.proofs.Sums.{each, each-imp}
use Rattle.laws.specs.Deals.{AllMovedOrUnderWay, AllUsed, Deal, HasAborted, HasCommitted, HasMovedAll, HasMovedNothing}
use Rattle.laws.specs.Deals.{HasUsed, IsAborted, IsCommitted, IsTaken, IsUnderWay, NothingMoved, Side}
use Rattle.laws.proofs.OneOrder.{AsOpened, changes, held_line}
use Rattle.laws.proofs.Together.{Beside, Stands}

-- ---- what an order has moved

-- by its lines that pass the test
abbrev pub moved_where : (List ℕ → List ℕ → Bool) → Option Order → ℤ
moved_where test x = option_map_or (λ o. total
    (λ l. if test l.branch l.article then settled_part l.way (share_of o.state o.firm l) else pos 0) o.lines) x (pos 0)

abbrev pub asked_where : (List ℕ → List ℕ → Bool) → List OpenLine → ℤ
asked_where test ls = total (λ l. if test l.branch l.article then signed l.way l.qty else pos 0) ls

-- the test of a field
abbrev pub is_on : Name → List ℕ → List ℕ → Bool
is_on f branch article = same_name f (name_of branch article)

module _ (test : List ℕ → List ℕ → Bool) where
  used_as_held : (ls : List Line) → Each (λ l. l.used ≡ l.held) ls
      → total (λ l. if test l.branch l.article then signed l.way l.used else pos 0) ls ≡ asked_where test (map held_line ls)
  used_as_held [] all = refl
  used_as_held (l ∷ ls) all =
      λ i. (if test l.branch l.article then signed l.way (all.0 i) else pos 0) +ℤ used_as_held ls all.1 i

  pub all_moved : (lines : List OpenLine) (Lasts : ℕ → Type 0) (x : Option Order) → IfSome x (AsOpened lines Lasts)
      → IsSomeAnd x IsCommitted → IsSomeAnd x AllUsed → moved_where test x ≡ asked_where test lines
  all_moved lines Lasts None opened committed used = absurd committed
  all_moved lines Lasts (Some o) opened committed used =
      ap (λ b. total (λ l. if test l.branch l.article then signed l.way (if b then l.used else 0) else pos 0) o.lines)
      committed.1
      ∙ used_as_held o.lines used ∙ ap (asked_where test) opened.held

  pub none_moved : (lines : List OpenLine) (Lasts : ℕ → Type 0) (x : Option Order) → IfSome x (AsOpened lines Lasts)
      → (IsSomeAnd x IsCommitted → ⊥) → moved_where test x ≡ pos 0
  none_moved lines Lasts None opened not = refl
  none_moved lines Lasts (Some o) opened not = by (is_open o) (is_settled o) refl refl
    where
      by : (live settled : Bool) → is_open o ≡ live → is_settled o ≡ settled → moved_where test (Some o) ≡ pos 0
      by live false a b = unsettled_none (λ l. test l.branch l.article) o b
      by false true a b = absurd (not (a, b))
      by true true a b = absurd (true≢false (sym b ∙ opened.unsettled a))

-- ---- an end is accepted, also at a full desk

pub not_none : (x : Option Order) (o : Order) → x ≡ Some o → IsNone x → ⊥
not_none x o e h = grind arith

pub not_closed : (x : Option Order) (o : Order) → x ≡ Some o → is_open o ≡ true → IsSomeAnd x (λ o. IsFalse (is_open o)) → ⊥
not_closed x o e live h = grind arith

not_firm : (x : Option Order) (o : Order) → x ≡ Some o → o.firm ≡ false → IsSomeAnd x (λ o. IsTrue o.firm) → ⊥
not_firm x o e loose h = grind arith

pub commit_passes : (A : Ledger) (n : ℕ) (o : Order) → order_numbered A n ≡ Some o → is_open o ≡ true
    → FirstFailure (checks A (command.Commit n)) None
commit_passes A n o e live = inr (not_none (order_numbered A n) o e, inr (not_closed (order_numbered A n) o e live, refl))

pub abort_passes : (A : Ledger) (n : ℕ) (o : Order) → order_numbered A n ≡ Some o → is_open o ≡ true → o.firm ≡ false
    → FirstFailure (checks A (command.Abort n)) None
abort_passes A n o e live loose = inr (
  not_none (order_numbered A n) o e,
  inr (not_closed (order_numbered A n) o e live, inr (not_firm (order_numbered A n) o e loose, refl)),
)

-- the request for the command under the key
abbrev pub under : List ℕ → Command → Request
under key c = record { key = key; command = c }

-- the order under the number then
pub changed : (A : Ledger) (n : ℕ) (c : Command) (o : Order) → ((o : Order) → (changes (effect c) o).number ≡ o.number)
    → order_numbered A n ≡ Some o
    → find (λ o. o.number == n) (map (λ o. if numbered n o then changes (effect c) o else o) A.orders)
    ≡ Some (changes (effect c) o)
changed A n c o same e = found_changed n (numbered n) (changes (effect c)) A.orders (each (λ o _. same o) A.orders)
    ∙ ap (option_map _) e ∙ ap (λ b. Some (if b then changes (effect c) o else o)) (found_passes (numbered n) o A.orders e)

module _ (n : ℕ) (lines : List OpenLine) (Lasts : ℕ → Type 0) (A : Ledger) (o : Order) (e : order_numbered A n ≡ Some o)
    (opened : AsOpened lines Lasts o) (live : is_open o ≡ true) (key : List ℕ) where
  abbrev aborted : Order
  aborted = changes (effect (command.Abort n)) o

  abbrev committed : Order
  committed = changes (effect (command.Commit n)) o

  pub has_aborted : HasAborted n (record { lines = lines; ledger = accept A (under key (command.Abort n)) })
  has_aborted = subst (λ x. IsSomeAnd x IsAborted) (sym (changed A n (command.Abort n) o (λ o. refl) e)) (refl, refl)

  pub has_committed : HasCommitted n (record { lines = lines; ledger = accept A (under key (command.Commit n)) })
  has_committed = subst (λ x. IsSomeAnd x IsCommitted) (sym (changed A n (command.Commit n) o (λ o. refl) e)) (refl, refl)

  pub moves_all : AllUsed o → HasMovedAll n (record { lines = lines; ledger = accept A (under key (command.Commit n)) })
  moves_all used = record {
    moved = λ f. ap (moved_where (is_on f)) (changed A n (command.Commit n) o (λ o. refl) e)
        ∙ all_moved (is_on f) lines Lasts (Some committed) behind (refl, refl) used;
    committed = has_committed;
  }
    where
      behind : AsOpened lines Lasts committed
      behind = record {
        held = opened.held;
        plain = opened.plain;
        loose = opened.loose;
        unsettled = λ h. absurd (true≢false (sym h));
        lasts = opened.lasts;
      }

-- ---- one side

-- whether it is committed
pub committed_or_not : (x : Option Order) → IsSomeAnd x IsCommitted ⊎ (IsSomeAnd x IsCommitted → ⊥)
committed_or_not None = inr (λ h. h)
committed_or_not (Some o) = by (is_open o) (is_settled o) refl refl
  where
    by : (live settled : Bool) → is_open o ≡ live → is_settled o ≡ settled → IsCommitted o ⊎ (IsCommitted o → ⊥)
    by false true a b = inl (a, b)
    by true b a c = inr (λ h. true≢false (sym a ∙ h.0))
    by a false b c = inr (λ h. true≢false (sym h.1 ∙ c))

module _ (n : ℕ) (Lasts : ℕ → Type 0) (s : Side) (opened : IfSome (order_numbered s.ledger n) (AsOpened s.lines Lasts)) where
  pub moved_nothing : (HasCommitted n s → ⊥) → HasMovedNothing n s
  moved_nothing not = record {
    moved = λ f. none_moved (is_on f) s.lines Lasts (order_numbered s.ledger n) opened not;
    aborts = λ live. by (order_numbered s.ledger n) refl live opened;
  }
    where
      by : (x : Option Order) → order_numbered s.ledger n ≡ x → IsSomeAnd x (λ o. IsTrue (is_open o))
          → IfSome x (AsOpened s.lines Lasts) → IsTaken s (command.Abort n) (HasAborted n)
      by None e live opened = absurd live
      by (Some o) e live opened = λ key free. (
        accept s.ledger (under key (command.Abort n)),
        accepted_answered s.ledger (under key (command.Abort n)) (free, abort_passes s.ledger n o e live opened.loose),
        has_aborted n s.lines Lasts s.ledger o e opened live key,
      )

  pub moved_all : HasCommitted n s → HasUsed n s → HasMovedAll n s
  moved_all committed used = record {
    moved = λ f. all_moved (is_on f) s.lines Lasts (order_numbered s.ledger n) opened committed used;
    committed = committed;
  }

  pub under_way : (HasCommitted n s → ⊥) → (HasAborted n s → ⊥) → HasUsed n s → IsUnderWay n s
  under_way not back used = record {
    moved = λ f. none_moved (is_on f) s.lines Lasts (order_numbered s.ledger n) opened not;
    commits = by (order_numbered s.ledger n) refl not back used opened;
  }
    where
      taken : (o : Order) → order_numbered s.ledger n ≡ Some o → is_open o ≡ true → AllUsed o → AsOpened s.lines Lasts o
          → IsTaken s (command.Commit n) (HasMovedAll n)
      taken o e live used opened = λ key free. (
        accept s.ledger (under key (command.Commit n)),
        accepted_answered s.ledger (under key (command.Commit n)) (free, commit_passes s.ledger n o e live),
        moves_all n s.lines Lasts s.ledger o e opened live key used,
      )

      by : (x : Option Order) → order_numbered s.ledger n ≡ x → (IsSomeAnd x IsCommitted → ⊥) → (IsSomeAnd x IsAborted → ⊥)
          → IsSomeAnd x AllUsed → IfSome x (AsOpened s.lines Lasts) → IsTaken s (command.Commit n) (HasMovedAll n)
      by None e not back used opened = absurd used
      by (Some o) e not back used opened = cases (is_open o) (is_settled o) refl refl
        where
          cases : (live settled : Bool) → is_open o ≡ live → is_settled o ≡ settled
              → IsTaken s (command.Commit n) (HasMovedAll n)
          cases true b a c = taken o e a used opened
          cases false true a c = absurd (not (a, c))
          cases false false a c = absurd (back (a, c))

-- ---- all of them

pub both_ends : (x : Option Order) → IsSomeAnd x IsCommitted → IsSomeAnd x IsAborted → ⊥
both_ends None a b = a
both_ends (Some o) a b = true≢false (sym a.1 ∙ b.1)

pub not_committed : (d : Deal) → Stands d → (HasCommitted d.number d.first → ⊥) → NothingMoved d
not_committed d now not = (
  moved_nothing d.number (λ v. Unit {0}) d.first now.first.opened not,
  each-imp (λ s b. moved_nothing d.number (λ v. v ≡ d.until) s b.opened (λ h. not (b.committed h))) d.others now.others,
)

pub committed_beside : (d : Deal) (s : Side) → HasCommitted d.number d.first → Beside d.number d.until d.first s
    → HasMovedAll d.number s ⊎ IsUnderWay d.number s
committed_beside d s is b = by (committed_or_not (order_numbered s.ledger d.number))
  where
    by : HasCommitted d.number s ⊎ (HasCommitted d.number s → ⊥) → HasMovedAll d.number s ⊎ IsUnderWay d.number s
    by (inl there) = inl (moved_all d.number (λ v. v ≡ d.until) s b.opened there (b.used is))
    by (inr not) = inr (under_way d.number (λ v. v ≡ d.until) s b.opened not
        (λ back. both_ends (order_numbered d.first.ledger d.number) is (b.aborted back)) (b.used is))

pub is_committed : (d : Deal) → Stands d → HasCommitted d.number d.first → AllMovedOrUnderWay d
is_committed d now is = (
  moved_all d.number (λ v. Unit {0}) d.first now.first.opened is (now.first.used is),
  each-imp (λ s b. committed_beside d s is b) d.others now.others,
)

pub all_or_nothing : (d : Deal) → Stands d → NothingMoved d ⊎ AllMovedOrUnderWay d
all_or_nothing d now = elim (committed_or_not (order_numbered d.first.ledger d.number)) [
  | inl is ↦ inr (is_committed d now is)
  | inr not ↦ inl (not_committed d now not)
]
