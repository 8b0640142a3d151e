use Rattle.std.proofs.Common.{◌∙◌, ap, sym}
use Rattle.web.specs.Answers.{answer_bytes}
use Rattle.web.specs.Replies.{reply_of_stopped}
use Rattle.web.specs.declared.ask.Ask.{Ask}
use Rattle.web.proofs.ViewAnswers.{stopped_else}
use Rattle.web.proofs.calls.answer_of_stopped.Goals as goal

pub returns-in-BadCall : goal.returns-in-BadCall
returns-in-BadCall c = c.answer.ensures ∙ ap (λ (a : Ask). answer_bytes (reply_of_stopped a)) (sym c.in-BadCall.is)

pub returns-in-Nothing : goal.returns-in-Nothing
returns-in-Nothing c = c.answer-in-Nothing.ensures ∙ ap (λ (a : Ask). answer_bytes (reply_of_stopped a)) (sym c.in-Nothing.is)

pub returns-in_default : goal.returns-in_default
returns-in_default c =
    c.answer-in_default.ensures
    ∙ ap answer_bytes (stopped_else c.args.ask.now c.in_default.not-BadCall c.in_default.not-Nothing)
