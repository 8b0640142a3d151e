use Rattle.std.proofs.Common.{◌+◌, ◌++◌, ◌∙◌, ◌∷◌, ◌≡◌, [], List, ap, length, refl, subst, sym, take}
use Rattle.std.proofs.lemmas.List.{length-append, take_more}
use Rattle.words.specs.declared.command.Request.{Request}
use Rattle.words.specs.declared.reply.Reply.{Reply}
use Rattle.desk.specs.Together.{BatchSoFar}
use Rattle.desk.proofs.Batches.{batch_new, joined_more}
use Rattle.desk.proofs.together.plan_batch.Goals as goal

pub loop-request-init : goal.loop-request-init
loop-request-init c = (
  batch_new c.args.book.now.ledger _ c.requires c.new.ensures.replies c.new.ensures.lines c.new-2.ensures.items refl,
  ap (λ (ps : List Reply). length ps) c.new.ensures.replies,
)

pub loop-request-preserved : goal.loop-request-preserved
loop-request-preserved c =
    let requests = c.args.requests.now in
    let i = c.loop-request.request-index in
    let r = c.request-item.result in
    let joins = c.join.ensures.joined c.in-In.is in
    let longer : take (i + 1) requests ≡ take i requests ++ r ∷ [] =
    take_more requests i r c.loop-request-test.true ∙ ap (λ (x : Request). take i requests ++ x ∷ []) (sym c.request-item.is) in (
      subst (λ (rs : List Request). BatchSoFar c.args.book.now.ledger rs c.join.new.batch c.join.new.book.ledger) (sym longer)
          (joined_more c.args.book.now.ledger c.loop-request.book.ledger c.join.new.book.ledger (take i requests) r
          c.loop-request.batch c.join.new.batch c.loop-request.invariant.0 joins),
      ap (λ (ps : List Reply). length ps) joins.replies
          ∙ length-append c.loop-request.batch.run.replies.items (joins.reply ∷ [])
          ∙ ap (λ n. n + 1) c.loop-request.invariant.1,
    )
