use Rattle.std.proofs.Common.{◌≡◌}
use Rattle.words.specs.declared.item.Item.{Item}
use Rattle.desk.specs.declared.dialogue.Next.TheVariants.{Question}
use Rattle.desk.proofs.LineAnswers.{fed_next}
use Rattle.desk.proofs.scripts.LineDialogueDialogue.next.Goals as goal

same_question : (a b : Item) → Question a ≡ Question b → a ≡ b
same_question a b is = cc

pub returns-in-Some-clause-question : goal.returns-in-Some-clause-question
returns-in-Some-clause-question c question is read ended questions found = (
  c.in-Some.item,
  same_question _ _ is,
  (found.0, fed_next _ c.in-Some.item _ _ read ended questions c.in-Some.ensures.items found.1),
)
