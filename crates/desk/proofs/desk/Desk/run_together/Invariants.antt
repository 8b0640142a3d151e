-- the requests so far are answered and kept, and there is room for the replies to the others and their lines
use Rattle.std.proofs.Common.{◌≡◌, ◌≤◌, ◌-◌, false, length}
use Rattle.desk.specs.Desk.{Goes}
use Rattle.desk.specs.Lists.{HasRoom}
use Rattle.desk.specs.declared.run.Ending.TheVariants.{All}
use Rattle.desk.proofs.Batches.{Tells}
use Rattle.desk.proofs.desk.Desk.run_together.Given as goal

abbrev pub invariant-loop-alloc : goal.invariant-loop-alloc
invariant-loop-alloc g l =
    Tells l.fn.self.ledger l.requests l.run.replies.items l.run.lines.items l.self.ledger
    × (length l.run.replies.items ≤ length l.requests)
    × HasRoom (length l.requests - length l.run.replies.items) l.run
    × (g.K.Keep.stopped l.self.keep ≡ false)
    × Goes g.K.Keep l.fn.self l.self
    × (l.run.ending ≡ All)

abbrev pub decreases-loop-alloc : goal.decreases-loop-alloc
decreases-loop-alloc g l = length l.requests - length l.run.replies.items
