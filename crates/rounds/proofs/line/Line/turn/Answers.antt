use Rattle.rounds.specs.Lines.{speaks}
use Rattle.rounds.proofs.OneLine.{turn_from}
use Rattle.rounds.proofs.line.Line.turn.Goals as goal

pub returns-clause-turn : goal.returns-clause-turn
returns-clause-turn g c = λ h said stands.
    turn_from (speaks g.D.Dialogue g.S.Stream) c.answer.result c.args.self.now c.look.new.self c.answer.new.self _ _ h
    said c.look.ensures.same.0 (c.answer.ensures.turn h said (c.look.ensures.heard h said stands))
