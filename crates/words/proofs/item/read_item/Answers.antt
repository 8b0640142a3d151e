use Rattle.std.proofs.Common.{arith}
use Rattle.words.proofs.ByItem.{says_none}
use Rattle.words.proofs.LineWords.{line_of}
use Rattle.words.proofs.item.read_item.Goals as goal

pub returns-in-Some-clause-item : goal.returns-in-Some-clause-item
returns-in-Some-clause-item c =
    (omega arith, (c.in-Some.ensures.form.0, c.in-Some.ensures.form.1, line_of _ _ c.in-Some.ensures.found))

pub returns-in-Some-read_ask_order-clause-item : goal.returns-in-Some-read_ask_order-clause-item
returns-in-Some-read_ask_order-clause-item c =
    (omega arith, (c.in-Some-read_ask_order.ensures.form, line_of _ _ c.in-Some-read_ask_order.ensures.found))

pub returns-in-Ok-None-clause-item : goal.returns-in-Ok-None-clause-item
returns-in-Ok-None-clause-item c item short = says_none c.args.line.now c.in_default.ensures.none
    c.in_default-read_ask_order.ensures.none
    (rw c.in-Ok-None.field-0-is at c.in-Ok-None.ensures.none) item
