use Rattle.std.proofs.Common.{◌∙◌, ap, refl, subst, sym, true≢false}
use Rattle.words.specs.declared.reply.Reply.TheVariants.{Done, Refused}
use Rattle.book.specs.PlanAnswers.{Plans}
use Rattle.book.specs.declared.book.plan.Planned.TheVariants as planned
use Rattle.desk.proofs.Batches.{joined_told}
use Rattle.desk.proofs.together.join.Goals as goal

pub returns-in-Ok-clause-joined : goal.returns-in-Ok-clause-joined
returns-in-Ok-clause-joined c is =
    let told : Plans c.args.book.now.ledger c.args.request.now (planned.Again c.in-Ok-Again.place) =
    subst (Plans c.args.book.now.ledger c.args.request.now) c.in-Ok-Again.field-0-is
    c.in-Ok-Again.ensures.planned in
    joined_told c.args.book.now.ledger c.args.request.now (Done c.in-Ok-Again.place) c.args.batch.now c.tell.new.self
    c.requires told.1
    c.in-Ok.ensures.reply c.in-Ok.ensures.line (ap (λ changes. changes.items) c.tell.ensures.others.0)
    (λ going. ((c.in-Ok-Again.place, refl), sym c.tell.ensures.others.1 ∙ going)) c.tell.ensures.short

pub returns-in-Ok-tell-clause-joined : goal.returns-in-Ok-tell-clause-joined
returns-in-Ok-tell-clause-joined c is =
    let told : Plans c.args.book.now.ledger c.args.request.now (planned.Refused c.in-Ok-Refused.refusal c.in-Ok-Refused.line) =
    subst (Plans c.args.book.now.ledger c.args.request.now) c.in-Ok-Refused.field-0-is c.in-Ok-Refused.ensures.planned in
    joined_told c.args.book.now.ledger c.args.request.now (Refused c.in-Ok-Refused.refusal c.in-Ok-Refused.line) _ _
    c.requires told
    c.in-Ok-tell.ensures.reply c.in-Ok-tell.ensures.line
    (ap (λ changes. changes.items) c.tell-in-Ok-Refused.ensures.others.0) (λ going. absurd (true≢false going))
    c.tell-in-Ok-Refused.ensures.short
