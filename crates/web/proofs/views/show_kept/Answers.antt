use Rattle.std.proofs.Common.{◌∙◌}
use Rattle.ledger.specs.Ledger.{kept_under}
use Rattle.book.specs.Views.{ShowsKept}
use Rattle.web.specs.Answers.{none_answer}
use Rattle.web.specs.Objects.{kept_object}
use Rattle.web.proofs.ViewAnswers.{kept_shown, kept_text, no_found, some_found}
use Rattle.web.proofs.views.show_kept.Goals as goal

pub kept_answer-requires : goal.kept_answer-requires
kept_answer-requires c = kept_text c.args.book.now.ledger c.args.key c.in-Some.view c.requires c.in-Some.ensures

pub returns-in_ok-kept_answer-in-Some : goal.returns-in_ok-kept_answer-in-Some
returns-in_ok-kept_answer-in-Some c =
    some_found kept_object (λ k. ShowsKept k c.in-Some.view) (kept_under c.args.book.now.ledger c.args.key) _ c.in-Some.ensures
    (λ k shown. c.in_ok-kept_answer-in-Some.ensures ∙ kept_shown k c.in-Some.view shown)

pub returns-in-None : goal.returns-in-None
returns-in-None c = (none_answer, no_found kept_object _ c.in-None.ensures, c.answer.ensures)
