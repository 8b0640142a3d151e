-- Requests that are carried out together: a batch is kept in one transaction.
use Rattle.std.specs.Prelude.{◌≡◌, ◌⊎◌, ◌≤◌, ◌+◌, ◌-◌, ◌*◌, All, false, true, ℕ, List, [], ◌∷◌, ◌++◌, drop, length, take}
use Rattle.std.specs.List.{AllByRecursion as Each}
use Rattle.words.specs.declared.command.Request.{Request}
use Rattle.words.specs.declared.reply.Reply.{Reply}
use Rattle.words.specs.declared.reply.Reply.TheVariants.{Done}
use Rattle.ledger.specs.Answers.{After, Answers, IsAccepted, Runs}
use Rattle.ledger.specs.Good.{Good}
use Rattle.ledger.specs.Ledger.{Ledger}
use Rattle.ledger.specs.Rows.{Content, IsRowsOf}
use Rattle.ledger.specs.declared.rows.Change.{Change}
use Rattle.ledger.specs.Tables.{rows_among}
use Rattle.keep.specs.Content.{IsTheRow, with_changes}
use Rattle.desk.specs.Desk.{DeskState, HasAccepted, LeavesEither}
use Rattle.desk.specs.Replies.{request_line}
use Rattle.desk.specs.Text.{RepliesAll, items_of}
use Rattle.desk.specs.declared.reply.TheConstants.{LONGEST_LINE}
use Rattle.desk.specs.declared.together.Batch.{Batch}

-- the reply says that the request is done, now or before
abbrev pub IsDone : Reply → Type 0
IsDone reply = (place : ℕ) × (reply ≡ Done place)

-- The requests lead from A to B with these replies. The first of them are done, and those behind change nothing: none is
-- accepted behind one that is refused.
pub record IsBatch (A : Ledger) (requests : List Request) (replies : List Reply) (B : Ledger) : Type 0 where
  pub first : List Request
  pub behind : List Request
  pub told : List Reply
  pub refused : List Reply
  pub requests_are : requests ≡ first ++ behind
  pub replies_are : replies ≡ told ++ refused
  pub done : Runs A first told B
  pub all_done : Each IsDone told
  pub rest : Runs B behind refused B

-- The replies are those to the first requests, up to the ledger `mid`. Then the store failed at the commit of a batch
-- of the requests behind them, one of which is accepted, and a stop leaves the rows before the batch or those behind
-- it.
pub record FailsAt (old : DeskState) (requests : List Request) (replies : List Reply) (new : DeskState) : Type 0 where
  pub mid : Ledger
  pub run : Runs old.ledger (take (length replies) requests) replies mid
  pub count : ℕ
  pub some : 1 ≤ count
  pub none_unasked : length replies + count ≤ length requests
  pub untold : List Reply
  pub batch : IsBatch mid (take count (drop (length replies) requests)) untold new.ledger
  pub accepted : HasAccepted mid (take count (drop (length replies) requests))
  pub either : new.is_honest → LeavesEither new.leaves mid new.ledger

-- B is the ledger after the requests before number k, counted from 1, or after a batch of those from number k on,
-- too: the caller does not know the replies of that batch, and it may be kept or not.
abbrev pub ResumableWithin : Ledger → List Request → ℕ → Ledger → Type 0
ResumableWithin A requests k B =
    (M : Ledger) × After A requests (k - 1) M
    × ((B ≡ M) ⊎ ((count : ℕ) × (untold : List Reply) × IsBatch M (take count (drop (k - 1) requests)) untold B))

-- The replies belong to the run of the requests from A: they are those from number k on, as many as there are. B is a
-- ledger at which the request behind them may be resumed, where a batch may have been kept.
pub record ResumesWithin (A : Ledger) (requests : List Request) (k : ℕ) (replies : List Reply) (B : Ledger) : Type 0 where
  pub before : List Reply
  pub last : Ledger
  pub counted : length before + 1 ≡ k
  pub run : Runs A (take (length before + length replies) requests) (before ++ replies) last
  pub resumable : ResumableWithin A requests (k + length replies) B

-- the run is resumed again and again, each time with the request behind the last reply, and each time gives replies
abbrev pub ResumesWithinAgain : Ledger → List Request → ℕ → List (List Reply) → Ledger → Type 0
ResumesWithinAgain A requests k [] B = ResumableWithin A requests k B
ResumesWithinAgain A requests k (replies ∷ more) B =
    (M : Ledger) × ResumesWithin A requests k replies M × ResumesWithinAgain A requests (k + length replies) more B

-- lists of requests are carried out whole, one after the other; these are the replies to each list, and B is the
-- ledger after all of them
abbrev pub RunsInLists : Ledger → List (List Request) → List (List Reply) → Ledger → Type 0
RunsInLists A [] [] B = B ≡ A
RunsInLists A (requests ∷ lists) (replies ∷ given) B =
    (M : Ledger) × Runs A requests replies M × RunsInLists M lists given B
RunsInLists A [] (replies ∷ given) B = ⊥
RunsInLists A (requests ∷ lists) [] B = ⊥

-- ---- how a batch is made (private)

-- The requests so far lead from A to B as a batch, whose changes make the rows of B out of those of A. Where no
-- request is refused, all are done; where none is accepted, nothing has changed.
pub record BatchSoFar (A : Ledger) (requests : List Request) (batch : Batch) (B : Ledger) : Type 0 where
  pub is_batch : IsBatch A requests batch.run.replies.items B
  pub rows : (C : Content) → IsRowsOf A C → IsRowsOf B (with_changes batch.changes.items C)
  pub desk : All IsTheRow (rows_among batch.changes.items).desk
  pub all_done : batch.has_refused ≡ false → Runs A requests batch.run.replies.items B × Each IsDone batch.run.replies.items
  pub some : batch.has_refused ≡ true → 1 ≤ length batch.run.replies.items
  pub none : batch.run.replies.items ≡ [] → batch.changes.items ≡ []
  pub accepted : HasAccepted A requests ⊎ ((B ≡ A) × (batch.changes.items ≡ []))
  pub lines : RepliesAll A (items_of requests) batch.run.lines.items B
  pub short : length batch.run.lines.items ≤ length batch.run.replies.items * LONGEST_LINE
  pub good : Good B

-- one request more, which leads from A to B: the batch has a reply more and perhaps changes more, and behind a
-- refused request nothing is done
pub record Joins (A : Ledger) (request : Request) (old new : Batch) (B : Ledger) : Type 0 where
  pub reply : Reply
  pub replies : new.run.replies.items ≡ old.run.replies.items ++ reply ∷ []
  pub line : new.run.lines.items ≡ old.run.lines.items ++ request_line request.key reply
  pub short : length new.run.lines.items ≤ length old.run.lines.items + LONGEST_LINE
  pub answer : Answers A request reply B
  pub more : List Change
  pub changes : new.changes.items ≡ old.changes.items ++ more
  pub rows : (C : Content) → IsRowsOf A C → IsRowsOf B (with_changes more C)
  pub desk : All IsTheRow (rows_among more).desk
  pub done : new.has_refused ≡ false → IsDone reply × (old.has_refused ≡ false)
  pub nothing : new.has_refused ≡ true → B ≡ A
  pub accepted : IsAccepted A request ⊎ ((B ≡ A) × (more ≡ []))
  pub good : Good B

-- nothing has changed
pub record IsAsBefore (A : Ledger) (old new : Batch) (B : Ledger) : Type 0 where
  pub ledger : B ≡ A
  pub replies : new.run.replies.items ≡ old.run.replies.items
  pub lines : new.run.lines.items ≡ old.run.lines.items
  pub changes : new.changes.items ≡ old.changes.items
  pub refused : new.has_refused ≡ old.has_refused
