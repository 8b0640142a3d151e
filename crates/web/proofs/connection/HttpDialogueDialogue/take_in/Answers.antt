use Rattle.std.proofs.Common.{◌≡◌, ◌∙◌, length, rules}
use Rattle.std.proofs.lemmas.List.{nil_from_length}
use Rattle.desk.proofs.LineAnswers.{goes_on_behind}
use Rattle.web.proofs.Parts.{taken_end, taken_more}
use Rattle.web.proofs.connection.HttpDialogueDialogue.take_in.Goals as goal

pub returns-then-is_empty-clause-taken : goal.returns-then-is_empty-clause-taken
returns-then-is_empty-clause-taken c = λ read questions (same, found, first) come.
    let size : length c.args.piece.now ≡ 0 = search rules in
    taken_end c.args.self.now.is_over c.args.self.now.held.items read c.args.piece.now questions
    (nil_from_length _ size) found come

pub returns-in-Ok-clause-taken : goal.returns-in-Ok-clause-taken
returns-in-Ok-clause-taken c = λ read questions (same, found, first) come.
    let on =
    taken_more c.args.self.now.is_over c.args.self.now.held.items _ read c.args.piece.now _ questions
    c.in-Ok.ensures.items found come in
    (same ∙ goes_on_behind _ c.if-is_empty.ensures, on.0, on.1)
