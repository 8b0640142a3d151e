use Rattle.web.specs.Answers.{json_answer, none_answer}
use Rattle.web.specs.Objects.{field_object}
use Rattle.web.proofs.ViewAnswers.{no_field, some_field}
use Rattle.web.proofs.views.show_field.Goals as goal

pub returns-in_ok-field_answer-in-Some : goal.returns-in_ok-field_answer-in-Some
returns-in_ok-field_answer-in-Some c = (
  json_answer 200 (field_object c.in-Some.view),
  some_field c.args.book.now.ledger c.args.branch c.args.article c.in-Some.view c.in-Some.ensures,
  c.in_ok-field_answer-in-Some.ensures,
)

pub returns-in-None : goal.returns-in-None
returns-in-None c =
    (none_answer, no_field c.args.book.now.ledger c.args.branch c.args.article c.in-None.ensures, c.answer.ensures)
