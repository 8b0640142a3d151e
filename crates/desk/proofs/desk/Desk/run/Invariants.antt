-- the requests so far are answered, and the desk goes on as it began; a stopped one answers none
use Rattle.std.proofs.Common.{◌≡◌, [], length, take, IsTrue}
use Rattle.ledger.specs.Answers.{Runs}
use Rattle.desk.specs.Desk.{Goes}
use Rattle.desk.specs.Text.{RepliesAll, items_of}
use Rattle.desk.specs.declared.run.Ending.TheVariants.{All}
use Rattle.desk.proofs.desk.Desk.run.Given as goal

abbrev pub invariant-loop-request : goal.invariant-loop-request
invariant-loop-request g l =
    Runs l.initial.self.ledger (take l.request-index l.requests) l.run.replies.items l.self.ledger
    × (length l.run.replies.items ≡ l.request-index)
    × (g.K.Keep.stopped l.self.keep ≡ g.K.Keep.stopped l.initial.self.keep)
    × (IsTrue (g.K.Keep.stopped l.initial.self.keep) → l.run.replies.items ≡ [])
    × Goes g.K.Keep l.initial.self l.self
    × RepliesAll l.initial.self.ledger (items_of (take l.request-index l.requests)) l.run.lines.items l.self.ledger
    × (l.run.ending ≡ All)
