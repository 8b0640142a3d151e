use Rattle.std.proofs.Common.{subst, sym}
use Rattle.rounds.specs.Crowds.{IsServing, closed, listening_to, visits_in}
use Rattle.rounds.specs.Lines.{speaks}
use Rattle.rounds.proofs.hub.Hub.close.Goals as goal

pub returns-in-Some-clause-served : goal.returns-in-Some-clause-served
returns-in-Some-clause-served g c = λ first loss start now serving.
    let talk = speaks g.D.Dialogue g.C.Stream.Stream in
    let listen = listening_to g.C.Crowd in
    let was = subst (λ v. IsServing talk listen first loss start now v) (sym c.self.view_is) serving in
    let (connection, entered, at, reached) = c.in-Some.ensures.left loss start now (visits_in was.doors) was.reached in
    record {
      doors = closed was.doors connection entered c.in-Some.stream;
      pass = (c.self.inside.crowd, was.pass, c.close.ensures, at);
      reached = reached;
    }
