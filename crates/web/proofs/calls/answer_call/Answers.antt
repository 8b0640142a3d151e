use Rattle.std.proofs.Common.{Err, ap, refl}
use Rattle.desk.specs.Desk.{desk_state}
use Rattle.web.specs.Answers.{reply_answer}
use Rattle.web.specs.declared.ask.Ask.TheVariants as ask
use Rattle.web.proofs.CommandAnswers.{called_stopped, goes_on}
use Rattle.web.proofs.calls.answer_call.Goals as goal

pub returns-in-Ok-clause-answers : goal.returns-in-Ok-clause-answers
returns-in-Ok-clause-answers g c =
    let (reply, answers, made) = c.in-Ok.ensures.told in
    let (before, after) = c.in-Ok.ensures.going in
    goes_on _ _ _ (ask.Call c.args.request.now) (reply_answer reply) before after (reply, answers, refl) made

pub returns-in-Err-Stopped-clause-answers : goal.returns-in-Err-Stopped-clause-answers
returns-in-Err-Stopped-clause-answers g c =
    let is = ap Err c.in-Err-Stopped.field-0-is in
    let (halted, same) = c.in-Err-Stopped.ensures.stopped is in
    called_stopped _ _ c.args.request.now c.answer-in-Err-Stopped.result halted same
    (c.in-Err-Stopped.ensures.either is) (λ e. ap (desk_state g.K.Keep) (c.in-Err-Stopped.ensures.goes.untouched e))
    c.answer-in-Err-Stopped.ensures
