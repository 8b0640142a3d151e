-- the requests so far are answered and kept, and their lines written
use Rattle.std.proofs.Common.{◌≡◌, ◌≤◌, ◌-◌, false, length, take}
use Rattle.desk.specs.Desk.{Goes}
use Rattle.desk.specs.Script.{WritesLines}
use Rattle.desk.specs.Text.{items_of}
use Rattle.desk.proofs.lists.answer_lists.Given as goal

abbrev pub invariant-loop-done : goal.invariant-loop-done
invariant-loop-done g l =
    WritesLines l.fn.desk.ledger (items_of (take l.done l.requests)) l.desk.ledger (g.W.Write.contents l.fn.writer)
    (g.W.Write.contents l.writer)
    × (l.done ≤ length l.requests)
    × (g.K.Keep.stopped l.desk.keep ≡ false)
    × Goes g.K.Keep l.fn.desk l.desk

abbrev pub decreases-loop-done : goal.decreases-loop-done
decreases-loop-done g l = length l.requests - l.done
