-- From a good ledger every future keeps the bounds and the commits.
use Rattle.ledger.proofs.Prelude.{Answers, AnswersNew, AsksNoStock, Done, Each, Field, Good, IsHonoured, IsNone, IsTrue}
use Rattle.ledger.proofs.Prelude.{IsWithin, Kept, KeyReused, Ledger, List, MatchOption, Option, Order, Refused, Reply}
use Rattle.ledger.proofs.Prelude.{Request, Some, accept, arith, if◌then◌else◌, ints, is_open, kept_under}
use Rattle.ledger.proofs.Prelude.{order_numbered, places, same_command, settled, ℕ, ◌+◌, ◌≡◌}
use Rattle.words.specs.declared.command.Command.TheVariants as command
use Rattle.ledger.specs.Future.{HonoursAlways}
use Rattle.ledger.proofs.Sums.{each-imp}
use Rattle.ledger.proofs.Bounds.{HasRoom, held_least}
use Rattle.ledger.proofs.Lists.{find_self}
use Rattle.ledger.proofs.Passing.{along, answered}
use Rattle.ledger.proofs.Falls.{Fit, fit-accept, fit_from_good}

pub fit-answer : (A : Ledger) (r : Request) (reply : Reply) (B : Ledger) → AsksNoStock r.command → Fit A
    → Answers A r reply B → Fit B
fit-answer A r reply B w fit h = answered A r reply B Fit h fit (fit-accept A r.key r.command w fit)

settled_within : (A : Ledger) (f : Field) → HasRoom A f → IsWithin f.lo f.hi (settled A f)
settled_within A f r =
    let held = held_least A f.name in let take = held.0 in let add = held.1 in let low = r.0 in let high = r.1 in
    (omega (arith, ints), omega (arith, ints))

commits : (A : Ledger) → Fit A → Each (λ o. IsTrue (is_open o) → (key : List ℕ) → IsNone (kept_under A key)
    → (C : Ledger)
    × Answers A (record { key = key; command = command.Commit o.number }) (Done (places A + 1)) C) A.orders
commits A fit = each-imp (λ o e. commit o e) A.orders (find_self A.orders fit.numbers)
  where
    commit : (o : Order) → order_numbered A o.number ≡ Some o → IsTrue (is_open o) → (key : List ℕ)
        → IsNone (kept_under A key)
        → (C : Ledger) × Answers A (record { key = key; command = command.Commit o.number }) (Done (places A + 1)) C
    commit o e t key none =
        (accept A (record { key = key; command = command.Commit o.number }), answer (kept_under A key) none)
      where
        answer : (k : Option Kept) → IsNone k
            → MatchOption k (AnswersNew A (record { key = key; command = command.Commit o.number })
            (Done (places A + 1)) (accept A (record { key = key; command = command.Commit o.number })))
            (λ k. (Done (places A + 1)
            ≡ (if same_command k.command (command.Commit o.number) then Done k.place else Refused KeyReused 0))
            × (accept A (record { key = key; command = command.Commit o.number }) ≡ A))
        answer b none = grind arith

pub stands_if_fit : (A : Ledger) → Fit A → IsHonoured A
stands_if_fit A fit = record { within = each-imp (λ f r. settled_within A f r) A.fields fit.room; commits = commits A fit }

pub honours_always : (A : Ledger) → Good A → HonoursAlways A
honours_always A g rs w replies B h = stands_if_fit B (along (λ r. AsksNoStock r.command) Fit
    (λ A r p M w h fit. fit-answer A r p M w fit h) A rs replies B w h (fit_from_good A g))
