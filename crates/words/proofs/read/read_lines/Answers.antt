use Rattle.std.proofs.lemmas.List.Elements.{recursion_from_All}
use Rattle.words.specs.OpenLines.{IsOpenLine}
use Rattle.words.specs.Words.{words_of}
use Rattle.words.proofs.Cuts.{parts_some}
use Rattle.words.proofs.OrderLines.{one_last, one_more, spelled_after, spelled_none}
use Rattle.words.proofs.read.read_lines.Goals as goal

pub loop-line-preserved : goal.loop-line-preserved
loop-line-preserved c = (
  one_more _ _ _ _ c.in-Some.line _ c.loop-line.invariant.0 c.in-Some.ensures.found c.in-Ok.ensures.items,
  (λ s. spelled_after c.in-Some.line _ _ c.in-Some.ensures.found (c.loop-line.invariant.1 s)),
)

pub returns-in_default-last_line-clause-bad : goal.returns-in_default-last_line-clause-bad
returns-in_default-last_line-clause-bad c is lines are e =
    spelled_none (words_of c.loop-line.rest.now) (parts_some 32 c.loop-line.rest.now) c.in_default.ensures.none
    c.in_default-last_line.ensures.none
    (c.loop-line.invariant.1 (record { lines = lines; each = recursion_from_All IsOpenLine lines are.each; are = e }))

pub returns-clause-found : goal.returns-clause-found
returns-clause-found c =
    one_last _ _ _ c.in-Some-last_line.line _ c.loop-line.invariant.0 c.in-Some-last_line.ensures.found
    c.in-Ok-push.ensures.items
