use Rattle.files.specs.Sheets.{IsBranchSheet}
use Rattle.web.proofs.ViewAnswers.{some_text}
use Rattle.web.proofs.views.show_sheet.Goals as goal

pub returns-in-Ok : goal.returns-in-Ok
returns-in-Ok c =
    let (text, sheet, writes) = c.in-Ok.ensures.whole in
    some_text (IsBranchSheet c.args.book.now.ledger c.args.branch) text c.branch_sheet.new.writer.items _ sheet
    (rw c.new-text.ensures.items at writes) (rw c.deref.ensures.value at c.in_ok-text_answer-in-Ok.ensures)
