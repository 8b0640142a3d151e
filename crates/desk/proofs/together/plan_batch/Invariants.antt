-- the requests so far make a batch
use Rattle.std.proofs.Common.{◌≡◌, length, take}
use Rattle.desk.specs.Together.{BatchSoFar}
use Rattle.desk.proofs.together.plan_batch.Given as goal

abbrev pub invariant-loop-request : goal.invariant-loop-request
invariant-loop-request l =
    BatchSoFar l.initial.book.ledger (take l.request-index l.requests) l.batch l.book.ledger
    × (length l.batch.run.replies.items ≡ l.request-index)
