use Rattle.std.proofs.Common.{◌∙◌, refl, subst, sym}
use Rattle.std.proofs.lemmas.Result.{IfOk-weaker}
use Rattle.ledger.specs.Good.{Good}
use Rattle.desk.specs.Desk.{desk_state, snapshot}
use Rattle.web.specs.Replies.{reply_of_stopped}
use Rattle.web.proofs.CommandAnswers.{replies_stopped}
use Rattle.web.proofs.ViewAnswers.{going_shown}
use Rattle.web.proofs.calls.answer_view.Goals as goal

pub returns-then-is_stopped : goal.returns-then-is_stopped
returns-then-is_stopped g c =
    let at = snapshot (desk_state g.K.Keep c.args.desk.now) in
    let reply = reply_of_stopped c.args.ask.now in (
      reply,
      replies_stopped at c.args.ask.now reply (sym c.is_stopped.ensures.stopped ∙ c.if-is_stopped.true) refl,
      c.answer_of_stopped.ensures,
    )

pub show_view-requires-clause-good : goal.show_view-requires-clause-good
show_view-requires-clause-good g c = subst Good (sym c.book.ensures.ledger) c.book.ensures.good

pub returns : goal.returns
returns g c =
    let at = snapshot (desk_state g.K.Keep c.args.desk.now) in
    let going = sym c.is_stopped.ensures.stopped ∙ c.if-is_stopped.false in
    IfOk-weaker c.show_view.result _ _
    (λ text shown. going_shown at c.book.result.now.ledger c.args.ask.now text going c.book.ensures.ledger shown)
    c.show_view.ensures
