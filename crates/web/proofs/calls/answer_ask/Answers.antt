use Rattle.std.proofs.Common.{refl}
use Rattle.web.proofs.CommandAnswers.{nothing_done, viewed}
use Rattle.web.proofs.calls.answer_ask.Goals as goal

pub returns-in-Ok-clause-answers : goal.returns-in-Ok-clause-answers
returns-in-Ok-clause-answers g c = viewed _ c.args.ask.now c.in-Ok.answer c.in-Ok.ensures

pub returns-in-Err-clause-answers : goal.returns-in-Err-clause-answers
returns-in-Err-clause-answers g c = λ m asks. nothing_done _ _ _ refl c.answer.ensures m
