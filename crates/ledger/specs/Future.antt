-- What may still come for the open orders, and what it means that all of them can be honoured. Each beginning of a
-- future is a future, too. So what is said about the end of every future holds after each step.
use Rattle.std.specs.Prelude.{ℕ, ◌+◌, ◌≡◌, ◌≢◌, List, IsTrue, IsNone}
use Rattle.std.specs.List.{AllByRecursion as Each}
use Rattle.words.specs.declared.command.Command.{Command}
use Rattle.words.specs.declared.command.Command.TheVariants.{Field, Deliver, Writeoff, Rebound, Open, Transfer, More}
use Rattle.words.specs.declared.command.Command.TheVariants.{Use, Release, Commit, Abort, Firm, Expire}
use Rattle.words.specs.declared.command.Request.{Request}
use Rattle.words.specs.declared.reply.Reply.{Reply}
use Rattle.words.specs.declared.reply.Reply.TheVariants.{Done}
use Rattle.ledger.specs.declared.order.State.TheVariants.{Aborted}
use Rattle.ledger.specs.Ledger.{Ledger, Order, places, is_open, kept_under}
use Rattle.escrow.specs.Choices.{IsWithin}
use Rattle.ledger.specs.Outcomes.{settled}
use Rattle.ledger.specs.Answers.{Answers, Runs}

-- a use, a release, a commit, an abort, a `firm` or an expiry
abbrev pub AsksNoStock : Command → Type 0
AsksNoStock (Field b a lo hi start) = ⊥
AsksNoStock (Deliver b a q) = ⊥
AsksNoStock (Writeoff b a q) = ⊥
AsksNoStock (Rebound b a lo hi) = ⊥
AsksNoStock (Open n until lines) = ⊥
AsksNoStock (Transfer n until a from to q) = ⊥
AsksNoStock (More n way b a q) = ⊥
AsksNoStock (Use n b a q) = Unit {0}
AsksNoStock (Release n b a q) = Unit {0}
AsksNoStock (Commit n) = Unit {0}
AsksNoStock (Abort n) = Unit {0}
AsksNoStock (Firm n) = Unit {0}
AsksNoStock (Expire now) = Unit {0}

-- the order is firm, and was not aborted
abbrev pub StaysFirm : Order → Type 0
StaysFirm o = IsTrue o.firm × (o.state ≢ Aborted)

-- the command may settle what that order uses: it is a commit, a `firm` or a use of that order
abbrev pub Settles : Command → ℕ → Type 0
Settles (Commit m) n = m ≡ n
Settles (Firm m) n = m ≡ n
Settles (Use m b a q) n = m ≡ n
Settles (Field b a lo hi start) n = ⊥
Settles (Deliver b a q) n = ⊥
Settles (Writeoff b a q) n = ⊥
Settles (Rebound b a lo hi) n = ⊥
Settles (Open m until lines) n = ⊥
Settles (Transfer m until a from to q) n = ⊥
Settles (More m way b a q) n = ⊥
Settles (Release m b a q) n = ⊥
Settles (Abort m) n = ⊥
Settles (Expire now) n = ⊥

-- only uses, releases, commits, aborts, `firm` and expiries
abbrev pub IsFuture : List Request → Type 0
IsFuture requests = Each (λ r. AsksNoStock r.command) requests

-- Every field is within its bounds, and no open order is refused its commit, under a key that is not kept. This says
-- nothing about a use, which needs a free place.
pub record IsHonoured (B : Ledger) : Type 0 where
  pub within : Each (λ f. IsWithin f.lo f.hi (settled B f)) B.fields
  pub commits : Each (λ o. IsTrue (is_open o) → (key : List ℕ) → IsNone (kept_under B key)
      → (C : Ledger) × Answers B (record { key = key; command = Commit o.number }) (Done (places B + 1)) C) B.orders

-- every future can be answered to its end, and the ledger there is honoured
abbrev pub Honours : Ledger → Type 0
Honours A = (requests : List Request) → IsFuture requests → (replies : List Reply) × (B : Ledger)
    × Runs A requests replies B × IsHonoured B

-- the ledger after every future is honoured, by whatever replies that future is answered
abbrev pub HonoursAlways : Ledger → Type 0
HonoursAlways A =
    (requests : List Request) → IsFuture requests → (replies : List Reply) (B : Ledger) → Runs A requests replies B
    → IsHonoured B
