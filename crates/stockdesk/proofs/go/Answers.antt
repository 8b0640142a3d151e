use Rattle.std.proofs.Common.{arith, sym, true≢false}
use Rattle.std.proofs.Math.Logic.{inl, inr}
use Rattle.std.proofs.KnownBytes.{Keeps-refl}
use Rattle.command_line.specs.declared.tasks.Task.TheVariants.{InMemory}
use Rattle.stockdesk.proofs.SessionParts.{runs_nothing, told_unbegun}
use Rattle.stockdesk.proofs.go.Goals as goal

pub returns-in-Ok-None-clause-fault : goal.returns-in-Ok-None-clause-fault
returns-in-Ok-None-clause-fault g c is = inl (Keeps-refl _, Keeps-refl _)

pub returns-in-Err-clause-plain : goal.returns-in-Err-clause-plain
returns-in-Err-clause-plain g c plain =
    inr (c.tell_words.ensures.memory (c.in-Err.ensures.written InMemory plain), runs_nothing _ _)

pub returns-in-Err-clause-fault : goal.returns-in-Err-clause-fault
returns-in-Err-clause-fault g c is = inl (Keeps-refl _, Keeps-refl _)

pub returns-in-Err-perform-clause-untouched : goal.returns-in-Err-perform-clause-untouched
returns-in-Err-perform-clause-untouched g c is =
    c.in-Err-perform.ensures.untouched (told_unbegun _ _ c.tell_fault.ensures.only is)

pub returns-in-Err-clause-words : goal.returns-in-Err-clause-words
returns-in-Err-clause-words g c task words = λ two.
    omega (arith, c.tell_words.ensures.memory (c.in-Err.ensures.written task words), two)

pub returns-in-Ok-None-clause-words : goal.returns-in-Ok-None-clause-words
returns-in-Ok-None-clause-words g c task words =
    let some = rw c.in-Ok-None.field-0-is at (c.in-Ok-None.ensures.asked task words) in
    λ two. absurd (true≢false (sym some))
