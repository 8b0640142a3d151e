use Rattle.rounds.proofs.Orders.{answers_grow, one_order, questions_grow}
use Rattle.rounds.proofs.laws.rounds_are_one_order.Goals as goal

pub returns-clause-order : goal.returns-clause-order
returns-clause-order g c = λ loss history start now are. one_order g.D.Dialogue.language loss start history now are

pub returns-clause-questions : goal.returns-clause-questions
returns-clause-questions g c = λ history connection. questions_grow history connection

pub returns-clause-answers : goal.returns-clause-answers
returns-clause-answers g c = λ history connection. answers_grow history connection
