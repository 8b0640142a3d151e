-- the branches so far, with those of the fields to come, are all
use Rattle.std.proofs.Common.{◌<◌}
use Rattle.web.proofs.FieldBranches.{InOrder, IsAllWith}
use Rattle.web.proofs.branches.branches_of.Given as goal

abbrev pub invariant-loop-index : goal.invariant-loop-index
invariant-loop-index l =
    IsAllWith l.before l.book.ledger.fields l.index l.branches.items × (0 < l.index → InOrder l.book.ledger.fields)
