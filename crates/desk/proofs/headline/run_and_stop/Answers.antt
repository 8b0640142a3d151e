use Rattle.std.proofs.Common.{◌∙◌, subst, sym}
use Rattle.desk.specs.Headline.{IsFoundAfter, LeavesRowsOf}
use Rattle.desk.proofs.FoundAfter.{run_left}
use Rattle.desk.proofs.headline.run_and_stop.Goals as goal

pub returns-clause-left : goal.returns-clause-left
returns-clause-left g c honest =
    let A = c.args.desk.ledger in
    let rs = c.args.requests.now in
    let run = c.run-run.result in
    let same = sym c.into_keep.ensures.keep in
    let still = subst g.K.Keep.is_honest c.into_keep.ensures.keep honest in
    let left = run_left A c.run-run.new.self.ledger rs run _ _ c.into_keep.ensures.good c.run-run.ensures.replies
    (λ went. c.run-run.ensures.goes.stored (c.run-run.ensures.stop.going went ∙ c.requires) still)
    c.run-run.ensures.all
    (λ is. c.run-run.ensures.either c.requires is still) in
    subst (λ k. LeavesRowsOf (g.K.Keep.leaves k) (IsFoundAfter A rs run)) same left

pub returns-clause-replies : goal.returns-clause-replies
returns-clause-replies g c =
    let run = c.run-run.ensures in
    record { last = c.run-run.new.self.ledger; replies = run.replies; lines = run.lines; all = run.all }

pub returns-clause-behind : goal.returns-clause-behind
returns-clause-behind g c =
    let run = c.run-run in (run.new.self, sym c.into_keep.ensures.keep, run.ensures.goes, run.ensures.replies)
