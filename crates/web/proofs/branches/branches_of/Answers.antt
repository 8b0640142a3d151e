use Rattle.std.proofs.Common.{arith}
use Rattle.web.proofs.FieldBranches.{all_listed, next_listed}
use Rattle.web.proofs.branches.branches_of.Goals as goal

pub loop-index-preserved : goal.loop-index-preserved
loop-index-preserved c =
    let (all, sorted) = c.loop-index.invariant in
    let i = c.loop-index.index in
    let done = c.loop-index.branches.items in
    let new = c.push_new.new.branches.items in (
      next_listed c.args.book.now.ledger i c.loop-index.before done new c.in-Some.view c.in-Some.ensures.found all
          c.in_ok-push_new.ensures,
      λ some. c.in-Some.ensures.order,
    )

pub returns : goal.returns
returns c =
    let (all, sorted) = c.loop-index.invariant in
    all_listed c.args.book.now.ledger.fields c.loop-index.index c.loop-index.before c.loop-index.branches.items
    (omega arith) all sorted
