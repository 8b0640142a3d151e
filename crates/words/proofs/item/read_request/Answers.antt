use Rattle.std.proofs.Common.{Err, ap}
use Rattle.words.proofs.ByItem.{request_bad, request_found, request_none, request_wanted}
use Rattle.words.proofs.item.read_request.Goals as goal

pub returns-in_default-clause-none : goal.returns-in_default-clause-none
returns-in_default-clause-none c = request_none c.args.bytes.now c.in_default.ensures.none

pub returns-in-Ok-clause-found : goal.returns-in-Ok-clause-found
returns-in-Ok-clause-found c =
    request_found c.args.bytes.now c.in-Some.key.1.now c.in-Some.key.0 c.in-Ok.command c.in-Some.ensures.form
    c.in-Some.ensures.found c.in-Ok.ensures.found

pub returns-in-Err-BadCommand-clause-none : goal.returns-in-Err-BadCommand-clause-none
returns-in-Err-BadCommand-clause-none c =
    request_bad c.args.bytes.now c.in-Some.key.1.now c.in-Some.key.0 c.in-Some.ensures.found
    (c.in-Err-BadCommand.ensures.bad (ap Err c.in-Err-BadCommand.field-0-is))

pub returns-in-Err-Memory-clause-memory : goal.returns-in-Err-Memory-clause-memory
returns-in-Err-Memory-clause-memory c =
    request_wanted c.args.bytes.now c.in-Some.key.1.now c.in-Some.key.0 c.in-Some.ensures.form c.in-Some.ensures.found
    (c.in-Err-Memory.ensures.memory (ap Err c.in-Err-Memory.field-0-is))
