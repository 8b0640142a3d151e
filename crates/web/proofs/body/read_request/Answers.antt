use Rattle.std.proofs.Common.{OnErr, Result, Ok, Err}
use Rattle.web.proofs.Bodies.{some_text}
use Rattle.web.proofs.body.read_request.Goals as goal

on_err : {T E : Type 0} (r : Result T E) (P : Type 0) → P → OnErr r P
on_err (Ok x) P p = tt
on_err (Err e) P p = p

pub returns-in-Ok-clause-memory : goal.returns-in-Ok-clause-memory
returns-in-Ok-clause-memory c = on_err _ _ (some_text c.args.body.now _ c.in-Ok.ensures.ok.1)
