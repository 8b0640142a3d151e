-- what was read is answered, but for what is held of the next question
use Rattle.std.proofs.Common.{◌≡◌, false, length}
use Rattle.desk.specs.Desk.{Goes, desk_state}
use Rattle.desk.specs.Streams.{streams}
use Rattle.desk.specs.declared.dialogue.TheConstants.{PIECE}
use Rattle.desk.proofs.Conversing.{InDialogue}
use Rattle.desk.proofs.dialogue.converse.Given as goal

abbrev pub invariant-loop-turn : goal.invariant-loop-turn
invariant-loop-turn g l = record {
  size : length l.piece ≡ PIECE;
  on : InDialogue g.D.Dialogue.language (desk_state g.K.Keep l.initial.desk)
      (streams (g.R.Read.remaining l.initial.reader) (g.R.Read.remaining l.reader) (g.W.Write.contents l.initial.writer)
      (g.W.Write.contents l.writer)) (desk_state g.K.Keep l.desk)
      (λ read questions. g.D.Dialogue.has_found l.dialogue read false questions) l.answered;
  goes : Goes g.K.Keep l.initial.desk l.desk;
}
