use Rattle.web.proofs.answer.reply_answer.Goals as goal

pub returns-in-Done : goal.returns-in-Done
returns-in-Done c = rw c.in-Done.is c.done_answer.ensures

pub returns-in-Refused : goal.returns-in-Refused
returns-in-Refused c = rw c.in-Refused.is c.refused_answer.ensures
