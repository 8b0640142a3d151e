-- the questions that were found so far are answered
use Rattle.std.proofs.Common.{Bool, ℕ, List, ◌++◌}
use Rattle.desk.specs.Desk.{Goes, desk_state}
use Rattle.desk.proofs.Conversing.{Counted}
use Rattle.desk.proofs.dialogue.answer_come.Given as goal

abbrev pub invariant-loop-question : goal.invariant-loop-question
invariant-loop-question g l = record {
  come : (read : List ℕ) (ended : Bool) (before : List g.D.Dialogue.Asked)
      → g.D.Dialogue.has_found l.initial.dialogue read ended before → (questions : List g.D.Dialogue.Asked)
      × g.D.Dialogue.has_found l.dialogue read ended (before ++ questions)
      × Counted g.D.Dialogue.language (desk_state g.K.Keep l.initial.desk) questions (desk_state g.K.Keep l.desk)
      (g.W.Write.contents l.initial.writer) (g.W.Write.contents l.writer) l.initial.answered l.answered;
  goes : Goes g.K.Keep l.initial.desk l.desk;
}

abbrev pub decreases-loop-question : goal.decreases-loop-question
decreases-loop-question g l = g.D.Dialogue.size l.dialogue
