use Rattle.std.proofs.Common.{◌∙◌, sym}
use Rattle.desk.proofs.LineAnswers.{fed_on, goes_on_behind}
use Rattle.desk.proofs.scripts.LineDialogueDialogue.take_in.Goals as goal

pub returns-in_ok-feed-clause-taken : goal.returns-in_ok-feed-clause-taken
returns-in_ok-feed-clause-taken c = λ read questions (same, fed) come. (
  same ∙ goes_on_behind _ c.if-is_empty.ensures,
  fed_on _ _ _ _ read _ questions _ fed come (rw (sym c.into_iter.ensures.rest) at c.in_ok-feed.ensures.ok),
)
