-- Where a run that was cut may be resumed, and what the caller then gets.
use Rattle.std.specs.Prelude.{◌≡◌, ◌⊎◌, ◌≤◌, ◌+◌, ◌-◌, ◌++◌, ℕ, List, [], ◌∷◌, length, take}
use Rattle.words.specs.declared.command.Request.{Request}
use Rattle.words.specs.declared.reply.Reply.{Reply}
use Rattle.ledger.specs.Answers.{After, Runs}
use Rattle.ledger.specs.Ledger.{Ledger}
use Rattle.ledger.specs.Rows.{Content}
use Rattle.desk.specs.Desk.{LeavesEither}

-- B is the ledger after the requests before number k, counted from 1, or after request k, too, if there is one: the
-- caller does not know its reply, and it may be done or not.
abbrev pub ResumableAt : Ledger → List Request → ℕ → Ledger → Type 0
ResumableAt A requests k B = After A requests (k - 1) B ⊎ ((k ≤ length requests) × After A requests k B)

-- The replies belong to the run of the requests from A: they are those from number k on, as many as there are. B is a
-- ledger at which the request behind them may be resumed.
pub record Resumes (A : Ledger) (requests : List Request) (k : ℕ) (replies : List Reply) (B : Ledger) : Type 0 where
  pub before : List Reply
  pub last : Ledger
  pub counted : length before + 1 ≡ k
  pub run : Runs A (take (length before + length replies) requests) (before ++ replies) last
  pub resumable : ResumableAt A requests (k + length replies) B

-- a stop leaves nothing but rows of ledgers at which request k may be resumed
pub record LeavesResumable (leaves : List Content → Type 0) (A : Ledger) (requests : List Request)
    (k : ℕ) : Type 0 where
  pub first : Ledger
  pub second : Ledger
  pub first_resumable : ResumableAt A requests k first
  pub second_resumable : ResumableAt A requests k second
  pub either : LeavesEither leaves first second

-- the run is resumed again and again, each time with the request behind the last reply, and each time gives replies
abbrev pub ResumesAgain : Ledger → List Request → ℕ → List (List Reply) → Ledger → Type 0
ResumesAgain A requests k [] B = ResumableAt A requests k B
ResumesAgain A requests k (replies ∷ more) B =
    (M : Ledger) × Resumes A requests k replies M × ResumesAgain A requests (k + length replies) more B
