use Rattle.std.proofs.Common.{◌≡◌, arith, rules}
use Rattle.std.specs.Prelude.{◌⊎◌, IfErr, IfOk}
use Rattle.desk.specs.Opening.{keeper_after}
use Rattle.desk.specs.Headline.{IsFoundAfter, LeavesRowsOf, answered}
use Rattle.desk.proofs.FoundAfter.{behind_of, refused_still, rest_of, resumed_of, some_of, whole_of}
use Rattle.desk.proofs.Resumption.{few}
use Rattle.desk.specs.declared.fault.OpenFault.TheVariants.{Memory, Store}
use Rattle.desk.proofs.headline.run_cut_and_resume.Goals as goal

pub go_on-requires-clause-within : goal.go_on-requires-clause-within
go_on-requires-clause-within g c =
    let run = c.run_cut_and_open-run.result.0 in
    let is_run = c.run_cut_and_open-run.ensures.replies in
    let none_unasked = few c.args.desk.ledger is_run.last c.args.requests.now run.replies.items is_run.replies in
    let size : c.len-first.result ≡ answered run = search rules in
    omega arith

pub returns-in-Some-clause-resumed : goal.returns-in-Some-clause-resumed
returns-in-Some-clause-resumed g c =
    let A = c.args.desk.ledger in
    let rs = c.args.requests.now in
    let run = c.run_cut_and_open-run.result.0 in
    let Honest = g.K.Keep.is_honest in
    let size : c.len-first.result ≡ answered run = search rules in
    let found =
    some_of (λ r. Honest (keeper_after r) → IfOk r (λ desk. ∥ IsFoundAfter A rs run desk.ledger ∥₁)) c.in-Some.is
    c.run_cut_and_open-run.ensures.found in
    resumed_of Honest A rs run c.in-Some.opened c.go_on.result _ (omega arith) found c.go_on.ensures.resumed

pub returns-in-Some-clause-whole : goal.returns-in-Some-clause-whole
returns-in-Some-clause-whole g c =
    let rs = c.args.requests.now in
    let run = c.run_cut_and_open-run.result.0 in
    let size : c.len-first.result ≡ answered run = search rules in
    let is_run = c.run_cut_and_open-run.ensures.replies in
    whole_of g.K.Keep.is_honest c.args.desk.ledger rs run c.in-Some.opened c.go_on.result is_run.last is_run.replies
    (returns-in-Some-clause-resumed g c)
    (rest_of c.go_on.result _ _ _ (omega arith) c.go_on.ensures.rest)

pub returns-in-Some-clause-behind : goal.returns-in-Some-clause-behind
returns-in-Some-clause-behind g c =
    let A = c.args.desk.ledger in
    let rs = c.args.requests.now in
    let run = c.run_cut_and_open-run.result.0 in
    let Honest = g.K.Keep.is_honest in
    let size : c.len-first.result ≡ answered run = search rules in
    let found =
    some_of (λ r. Honest (keeper_after r) → IfOk r (λ desk. ∥ IsFoundAfter A rs run desk.ledger ∥₁)) c.in-Some.is
    c.run_cut_and_open-run.ensures.found in
    behind_of Honest A rs run c.in-Some.opened g.K.Keep c.go_on.result _ (omega arith) found c.go_on.ensures.behind

pub returns-in-Some-clause-refused : goal.returns-in-Some-clause-refused
returns-in-Some-clause-refused g c =
    let A = c.args.desk.ledger in
    let rs = c.args.requests.now in
    let run = c.run_cut_and_open-run.result.0 in
    let Honest = g.K.Keep.is_honest in
    let refused =
    some_of (λ r. Honest (keeper_after r) → IfErr r (λ e. (e.0 ≡ Memory) ⊎ (e.0 ≡ Store))) c.in-Some.is
    c.run_cut_and_open-run.ensures.refused in
    let left =
    some_of (λ r.
    Honest (keeper_after r) → ∥ LeavesRowsOf (g.K.Keep.leaves (keeper_after r)) (IsFoundAfter A rs run) ∥₁)
    c.in-Some.is c.run_cut_and_open-run.ensures.left in
    refused_still Honest A rs run c.in-Some.opened g.K.Keep.leaves c.go_on.result refused left c.go_on.ensures.refused

pub returns-in-Some-clause-stop : goal.returns-in-Some-clause-stop
returns-in-Some-clause-stop g c =
    let (last, tells, off, runs) = c.run_cut_and_open-run.ensures.stop in (last, tells, off.goes, runs)
