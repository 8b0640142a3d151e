use Rattle.std.proofs.Common.{refl, subst, sym}
use Rattle.web.specs.Answers.{bad_answer, none_answer}
use Rattle.web.specs.Turns.{ShowsView}
use Rattle.web.specs.declared.ask.Ask.{Ask}
use Rattle.web.proofs.views.show_view.Goals as goal

pub returns-in-BadCall : goal.returns-in-BadCall
returns-in-BadCall c =
    subst (λ (a : Ask). ShowsView c.args.book.now.ledger a c.answer.result) (sym c.in-BadCall.is)
    (bad_answer, refl, c.answer.ensures)

pub returns-in-Nothing : goal.returns-in-Nothing
returns-in-Nothing c =
    subst (λ (a : Ask). ShowsView c.args.book.now.ledger a c.answer-in-Nothing.result) (sym c.in-Nothing.is)
    (none_answer, refl, c.answer-in-Nothing.ensures)
