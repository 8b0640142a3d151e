use Rattle.files.specs.Sheets.{IsArticleSheet}
use Rattle.web.proofs.ViewAnswers.{some_text}
use Rattle.web.proofs.views.show_article.Goals as goal

pub returns-in-Ok : goal.returns-in-Ok
returns-in-Ok c =
    let (text, sheet, writes) = c.in-Ok.ensures.whole in
    some_text (IsArticleSheet c.args.book.now.ledger c.args.article) text c.article_sheet.new.writer.items _ sheet
    (rw c.new-text.ensures.items at writes) (rw c.deref.ensures.value at c.in_ok-text_answer-in-Ok.ensures)
