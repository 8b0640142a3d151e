use Rattle.std.proofs.Common.{refl}
use Rattle.rounds.proofs.OneLine.{drop_more, take_more}
use Rattle.rounds.proofs.line.Line.hide.Goals as goal

pub returns-in-Ok-clause-hidden : goal.returns-in-Ok-clause-hidden
returns-in-Ok-clause-hidden g c = λ there.
    let here = c.self.inside in
    rw (
      ← c.self.view_is,
      take_more here.answered here.questions.items,
      drop_more here.answered here.questions.items,
      c.in-Ok.ensures.items,
      c.as_bytes.ensures,
    ) refl
