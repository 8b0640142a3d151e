use Rattle.std.proofs.Common.{subst, sym}
use Rattle.rounds.specs.Crowds.{listening_to}
use Rattle.rounds.specs.Lines.{speaks}
use Rattle.rounds.specs.Services.{InService}
use Rattle.rounds.proofs.Serving.{round_more}
use Rattle.rounds.proofs.hub.Hub.round.Goals as goal

pub returns-clause-served : goal.returns-clause-served
returns-clause-served g c = λ first start serving.
    let talk = speaks g.D.Dialogue g.C.Stream.Stream in
    let listen = listening_to g.C.Crowd in
    round_more talk listen g.K.Keep first start c.args.desk.now c.round.new.desk c.self.inside.crowd _ c.round.new.self
    c.round.result
    c.round.ensures.told c.round.ensures.untold c.round.ensures.settled c.round.ensures.kept c.round.ensures.lost
    c.round.ensures.halts
    (subst (λ v. InService talk listen g.K.Keep first start c.args.desk.now v) (sym c.self.view_is) serving)
