use Rattle.ledger.specs.Ledger.{order_numbered}
use Rattle.book.specs.Views.{ShowsOrder}
use Rattle.web.specs.Answers.{none_answer}
use Rattle.web.specs.Objects.{order_object}
use Rattle.web.proofs.ViewAnswers.{no_found, some_found}
use Rattle.web.proofs.views.show_order.Goals as goal

pub returns-in_ok-order_answer-in-Some : goal.returns-in_ok-order_answer-in-Some
returns-in_ok-order_answer-in-Some c =
    some_found order_object (λ o. ShowsOrder o c.in-Some.view) (order_numbered c.args.book.now.ledger c.args.number) _
    c.in-Some.ensures
    c.in_ok-order_answer-in-Some.ensures

pub returns-in-None : goal.returns-in-None
returns-in-None c = (none_answer, no_found order_object _ c.in-None.ensures, c.answer.ensures)
