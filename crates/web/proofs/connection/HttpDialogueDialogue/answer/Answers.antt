use Rattle.std.proofs.Common.{refl}
use Rattle.web.proofs.CommandAnswers.{part_asked, part_unasked, part_unread}
use Rattle.web.proofs.connection.HttpDialogueDialogue.answer.Goals as goal

pub returns-in-Message-clause-told : goal.returns-in-Message-clause-told
returns-in-Message-clause-told g c =
    part_asked _ _ c.answer_ask.result c.args.asked.now c.in-Message.ask c.in-Message.is c.answer_ask.ensures.answers

pub returns-in-NoMemory-clause-told : goal.returns-in-NoMemory-clause-told
returns-in-NoMemory-clause-told g c = part_unasked _ _ c.answer.result c.args.asked.now c.in-NoMemory.is refl c.answer.ensures

pub returns-in-Unreadable-clause-told : goal.returns-in-Unreadable-clause-told
returns-in-Unreadable-clause-told g c =
    part_unread _ c.answer-in-Unreadable.result c.args.asked.now c.in-Unreadable.is c.answer-in-Unreadable.ensures
