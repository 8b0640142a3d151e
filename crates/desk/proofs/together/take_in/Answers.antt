use Rattle.std.proofs.Common.{[], ◌++◌, ◌∙◌, ◌∷◌, List, ap, arith, sym}
use Rattle.words.specs.declared.reply.Reply.TheVariants.{Done}
use Rattle.std.specs.Vec.{vec_capacity, vec_len}
use Rattle.desk.specs.Replies.{request_line}
use Rattle.ledger.specs.Ledger.{Ledger}
use Rattle.ledger.specs.Next.{accept}
use Rattle.ledger.specs.declared.rows.Change.{Change}
use Rattle.desk.proofs.Batches.{joined_accepted, same_count}
use Rattle.desk.proofs.together.take_in.Goals as goal

pub append-requires : goal.append-requires
append-requires c =
    let size = same_count c.adopt.result.items c.changes.result.now (c.adopt.ensures.rows ∙ sym c.changes.ensures) in
    let room = c.in-Ok.ensures.ok in
    let same = c.tell.ensures.others.0 in
    let len = ap vec_len same in
    let capacity = ap vec_capacity same in
    omega (arith, size, room, len, capacity)

pub returns-clause-joined : goal.returns-clause-joined
returns-clause-joined c is =
    joined_accepted c.args.book.now.ledger c.adopt.new.self.ledger c.args.plan c.adopt.result.items _ _ c.requires.good
    c.requires.key c.requires.command c.requires.fits c.adopt.ensures.rows
    (c.adopt.ensures.next ∙ ap (λ (A : Ledger). accept A c.args.plan.request) c.make_room.ensures.same)
    c.adopt.ensures.good c.requires.going (c.tell.ensures.others.1 ∙ c.requires.going)
    (c.in-Ok-tell.ensures.reply ∙ ap (λ n. c.args.batch.now.run.replies.items ++ Done n ∷ []) c.place.ensures)
    (c.in-Ok-tell.ensures.line
    ∙ ap (λ n. c.args.batch.now.run.lines.items ++ request_line c.args.key (Done n)) c.place.ensures
    ∙ ap (λ key. c.args.batch.now.run.lines.items ++ request_line key (Done c.args.plan.place)) c.requires.named)
    (c.append.ensures.items
    ∙ ap (λ (changes : List Change). changes ++ c.adopt.result.items)
    (ap (λ changes. changes.items) c.tell.ensures.others.0 ∙ c.reserve.ensures.items)) c.tell.ensures.short
