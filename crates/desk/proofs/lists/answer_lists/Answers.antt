use Rattle.std.proofs.Common.{◌≡◌, ◌∙◌, ◌≤◌, ◌-◌, List, ap, arith, drop, false, length, refl, rules, subst, sym, take}
use Rattle.std.proofs.Math.Seq.{take-length}
use Rattle.words.specs.declared.command.Request.{Request}
use Rattle.ledger.proofs.TestResults.{passed_up}
use Rattle.desk.specs.Desk.{desk_state}
use Rattle.desk.specs.Script.{WritesLines}
use Rattle.desk.specs.Text.{items_of}
use Rattle.desk.proofs.GoesOn.{goes_on}
use Rattle.desk.proofs.ListLines.{answered_further, cut_behind, length_take_most, may_requests, stopped_before}
use Rattle.desk.proofs.lists.answer_lists.Goals as goal

pub returns-then-is_stopped-clause-cut : goal.returns-then-is_stopped-clause-cut
returns-then-is_stopped-clause-cut g c =
    let some : 1 ≤ length c.args.requests.now = search rules in
    stopped_before _ c.args.requests.now _ _ (sym c.is_stopped.ensures.stopped ∙ c.if-is_stopped.true) some

pub answer_list-requires-clause-few : goal.answer_list-requires-clause-few
answer_list-requires-clause-few g c =
    let short = length_take_most (c.min-end.result - c.loop-done.done) (drop c.loop-done.done c.args.requests.now) in
    grind (arith, short, c.most_of-most.ensures.most, c.saturating_add.ensures, c.min-end.ensures)

pub returns-in_err-done-clause-cut : goal.returns-in_err-done-clause-cut
returns-in_err-done-clause-cut g c =
    let (so_far, within, going, goes) = c.loop-done.invariant in
    let n = c.loop-done.done in
    let k = c.min-end.result - n in
    let some : List Request = take k (drop n c.args.requests.now) in
    let was : g.K.Keep.stopped c.args.desk.now.keep ≡ false = search rules in
    passed_up c.from_residual.result c.in_err-done.field-0.0 _ c.from_residual.ensures.1
    (cut_behind _ _ _ _ _ c.args.requests.now some n k _ _ _ was going refl so_far c.in_err-done.ensures.cut)

pub returns-in_err-done-clause-goes : goal.returns-in_err-done-clause-goes
returns-in_err-done-clause-goes g c = goes_on _ _ _ _ c.loop-done.invariant.3 c.answer_list.ensures.goes

pub loop-done-preserved : goal.loop-done-preserved
loop-done-preserved g c =
    let (so_far, within, going, goes) = c.loop-done.invariant in
    let n = c.loop-done.done in
    let k = c.min-end.result - n in
    let some : List Request = take k (drop n c.args.requests.now) in
    let short = length_take_most k (drop n c.args.requests.now) in
    let counted = c.in_ok-done.ensures.some in (
      answered_further c.args.desk.now.ledger c.loop-done.desk.ledger c.answer_list.new.desk.ledger c.args.requests.now
          some n k c.in_ok-done.field-0 _ _ _ refl counted.1 so_far c.in_ok-done.ensures.whole,
      grind (arith, short, counted.1, c.min-end.ensures),
      c.in_ok-done.ensures.going,
      goes_on _ _ _ _ goes c.answer_list.ensures.goes,
    )

pub returns-clause-whole : goal.returns-clause-whole
returns-clause-whole g c =
    let (so_far, within, going, goes) = c.loop-done.invariant in
    let end : c.loop-done.done ≡ length c.args.requests.now = search rules in
    let was : g.K.Keep.stopped c.args.desk.now.keep ≡ false = search rules in
    record {
      told =
          subst (λ (rs : List Request). WritesLines c.args.desk.now.ledger (items_of rs) c.loop-done.desk.ledger
          (g.W.Write.contents c.args.writer.now) (g.W.Write.contents c.loop-done.writer))
          (ap (λ n. take n c.args.requests.now) end ∙ take-length c.args.requests.now) so_far;
      may = may_requests (desk_state g.K.Keep c.args.desk.now) c.args.requests.now was;
      same = going ∙ sym was;
    }
