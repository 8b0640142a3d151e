use Rattle.std.proofs.Common.{◌+◌, ◌-◌, ◌∙◌, ◌≡◌, ◌≢◌, ◌<◌, ◌≤◌, List, ap, arith, drop, length, refl, rules, subst, sym}
use Rattle.std.proofs.lemmas.List.{length-append, length-drop}
use Rattle.words.specs.declared.command.Request.{Request}
use Rattle.words.specs.declared.reply.Reply.{Reply}
use Rattle.desk.specs.Desk.{desk_state}
use Rattle.desk.specs.Lists.{HasRoom}
use Rattle.desk.specs.declared.run.Ending.TheVariants.{All, Stopped}
use Rattle.desk.proofs.Batches.{batch_tells, fails_further, fewer_left, nothing_told, slice_is, some_unanswered}
use Rattle.desk.proofs.Batches.{tells_further, told_so_far}
use Rattle.desk.proofs.GoesOn.{goes_on}
use Rattle.desk.proofs.desk.Desk.run_together.Goals as goal

pub returns-then-is_empty-clause-replies : goal.returns-then-is_empty-clause-replies
returns-then-is_empty-clause-replies g c =
    let tells = nothing_told c.args.self.now.ledger c.args.requests.now _ _ c.new.ensures.replies c.new.ensures.lines in
    (_, tells.0, (λ _. refl), tells.1)

pub returns-then-is_stopped-clause-replies : goal.returns-then-is_stopped-clause-replies
returns-then-is_stopped-clause-replies g c =
    let tells =
    nothing_told c.args.self.now.ledger c.args.requests.now _ _ c.new-then-is_stopped.ensures.replies
    c.new-then-is_stopped.ensures.lines in
    (_, tells.0, (λ _. refl), tells.1)

pub returns-in_default-clause-replies : goal.returns-in_default-clause-replies
returns-in_default-clause-replies g c =
    let tells =
    nothing_told c.args.self.now.ledger c.args.requests.now _ _
    (c.make_room.ensures.replies ∙ c.new-run.ensures.replies)
    (c.make_room.ensures.lines ∙ c.new-run.ensures.lines) in
    (_, tells.0, (λ _. refl), tells.1)

pub returns-then-ne-clause-replies : goal.returns-then-ne-clause-replies
returns-then-ne-clause-replies g c =
    let size = c.len-in-loop-alloc.ensures ∙ c.loop-alloc.run.replies.ok.0 in
    let batch = c.run_batch-batch.ensures in
    told_so_far c.args.self.now.ledger c.loop-alloc.self.ledger c.run_batch-batch.new.self.ledger c.args.requests.now
    c.len-in-loop-alloc.result c.loop-alloc.run.replies.items c.run_batch-batch.result.replies.items
    c.join.new.self.replies.items
    c.loop-alloc.run.lines.items c.run_batch-batch.result.lines.items c.join.new.self.lines.items c.join.new.self.ending
    size c.loop-alloc.invariant.0 c.join.ensures.replies c.join.ensures.lines
    (λ going.
    let went : c.run_batch-batch.result.ending ≢ Stopped = λ is. going (c.join.ensures.ending ∙ is) in
    batch_tells _ _ c.args.requests.now c.len-in-loop-alloc.result _ _ (batch.kept went) (batch.lines went))
    (λ is. let failed = batch.failed (sym c.join.ensures.ending ∙ is) in (failed.0, failed.1))

pub loop-alloc-preserved : goal.loop-alloc-preserved
loop-alloc-preserved g c =
    let rs = c.args.requests.now in
    let ps = c.loop-alloc.run.replies.items in
    let qs = c.run_batch-batch.result.replies.items in
    let batch = c.run_batch-batch.ensures in
    let size : c.len-in-loop-alloc.result ≡ length ps = c.len-in-loop-alloc.ensures ∙ c.loop-alloc.run.replies.ok.0 in
    let all : c.join.new.self.ending ≡ All = search rules in
    let going : c.run_batch-batch.result.ending ≢ Stopped = λ is. let both = sym all ∙ c.join.ensures.ending ∙ is in cc in
    let few = subst (λ (xs : List Request). length qs ≤ length xs) (slice_is rs c.len-in-loop-alloc.result) batch.few.0 in
    let dropped : length (drop c.len-in-loop-alloc.result rs) ≡ length rs - c.len-in-loop-alloc.result =
    length-drop c.len-in-loop-alloc.result rs in
    let longer : length c.join.new.self.replies.items ≡ length ps + length qs =
    ap (λ (xs : List Reply). length xs) c.join.ensures.replies ∙ length-append ps qs in
    let (tells, within, room, going_before, goes, ending) = c.loop-alloc.invariant in
    let rest : length rs - length ps ≡ length qs + (length rs - length c.join.new.self.replies.items) = omega arith in (
      tells_further c.args.self.now.ledger c.loop-alloc.self.ledger c.run_batch-batch.new.self.ledger rs
          c.len-in-loop-alloc.result ps qs _ _ _ _ size tells c.join.ensures.replies c.join.ensures.lines
          (batch_tells _ _ rs c.len-in-loop-alloc.result _ _ (batch.kept going) (batch.lines going)),
      omega arith,
      c.join.ensures.room (length rs - length c.join.new.self.replies.items)
          (subst (λ n. HasRoom n c.loop-alloc.run)
          (rest
          ∙ ap (λ n. n + (length rs - length c.join.new.self.replies.items))
          (sym c.run_batch-batch.result.replies.ok.0)) room),
      batch.stop.going going ∙ going_before,
      goes_on _ _ _ _ goes batch.goes,
      all,
    )

pub returns-then-ne-clause-goes : goal.returns-then-ne-clause-goes
returns-then-ne-clause-goes g c = goes_on _ _ _ _ c.loop-alloc.invariant.4 c.run_batch-batch.ensures.goes

pub returns-then-ne-clause-failed : goal.returns-then-ne-clause-failed
returns-then-ne-clause-failed g c going is =
    let failed = c.run_batch-batch.ensures.failed (sym c.join.ensures.ending ∙ is) in
    fails_further (desk_state g.K.Keep c.args.self.now) (desk_state g.K.Keep c.loop-alloc.self)
    (desk_state g.K.Keep c.run_batch-batch.new.self) c.args.requests.now c.len-in-loop-alloc.result
    c.loop-alloc.run.replies.items c.run_batch-batch.result.replies.items c.join.new.self.replies.items
    (c.len-in-loop-alloc.ensures ∙ c.loop-alloc.run.replies.ok.0) c.join.ensures.replies failed.0
    c.loop-alloc.invariant.1 c.loop-alloc.invariant.0.0 failed.2

pub returns-then-ne-clause-all : goal.returns-then-ne-clause-all
returns-then-ne-clause-all g c =
    let other : c.join.new.self.ending ≢ All = search rules in (
      (λ is. absurd (other is)),
      (λ whole. absurd (some_unanswered c.args.requests.now c.len-in-loop-alloc.result c.loop-alloc.run.replies.items
          c.run_batch-batch.result.replies.items c.join.new.self.replies.items
          (c.len-in-loop-alloc.ensures ∙ c.loop-alloc.run.replies.ok.0) c.join.ensures.replies
          (c.run_batch-batch.ensures.more (λ is. other (c.join.ensures.ending ∙ is))) whole)),
    )

pub loop-alloc-smaller : goal.loop-alloc-smaller
loop-alloc-smaller g c =
    let all : c.join.new.self.ending ≡ All = search rules in
    fewer_left c.args.requests.now c.len-in-loop-alloc.result c.loop-alloc.run.replies.items
    c.run_batch-batch.result.replies.items c.join.new.self.replies.items
    (c.len-in-loop-alloc.ensures ∙ c.loop-alloc.run.replies.ok.0) c.join.ensures.replies
    (subst (λ n. n < length c.args.requests.now) (c.len.ensures ∙ sym c.len-in-loop-alloc.ensures)
    c.loop-alloc-test.true)
    (c.run_batch-batch.ensures.some (sym c.join.ensures.ending ∙ all))
