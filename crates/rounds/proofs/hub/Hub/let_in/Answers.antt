use Rattle.std.proofs.Common.{subst, sym}
use Rattle.rounds.specs.Crowds.{IsServing, listening_to}
use Rattle.rounds.specs.Lines.{speaks}
use Rattle.rounds.proofs.Serving.{waited_more}
use Rattle.rounds.proofs.hub.Hub.let_in.Goals as goal

pub returns-in_default-admit-clause-served : goal.returns-in_default-admit-clause-served
returns-in_default-admit-clause-served g c = λ first loss start now serving.
    let talk = speaks g.D.Dialogue g.C.Stream.Stream in
    let listen = listening_to g.C.Crowd in
    let was = subst (λ v. IsServing talk listen first loss start now v) (sym c.self.view_is) serving in
    waited_more talk listen first loss start now _ _ was c.admit.new.self c.in_default-admit.ensures.none

pub returns-clause-served : goal.returns-clause-served
returns-clause-served g c = λ first loss start now serving.
    let talk = speaks g.D.Dialogue g.C.Stream.Stream in
    let listen = listening_to g.C.Crowd in
    let was = subst (λ v. IsServing talk listen first loss start now v) (sym c.self.view_is) serving in
    subst (λ v. IsServing talk listen first loss start now v) (sym c.note_place.ensures)
    (c.take_place.ensures.served first _ loss start now c.in-Some.ensures.some was)
