use Rattle.std.proofs.Common.{◌∙◌, ap, subst, sym}
use Rattle.rounds.specs.Crowds.{IsServing, listening_to}
use Rattle.rounds.specs.Lines.{speaks}
use Rattle.rounds.proofs.Serving.{entered_for, entered_more}
use Rattle.rounds.proofs.hub.Hub.take_place.Goals as goal

pub returns-in-Some-clause-served : goal.returns-in-Some-clause-served
returns-in-Some-clause-served g c = λ first crowd loss start now comes serving.
    let talk = speaks g.D.Dialogue g.C.Stream.Stream in
    let listen = listening_to g.C.Crowd in
    let was = subst (λ v. IsServing talk listen first loss start now (record { crowd = crowd; places = v.places }))
    (sym c.self.view_is) serving in
    let came = subst (λ v. g.C.Crowd.comes crowd c.args.stream v.crowd) (sym c.self.view_is) comes in
    entered_for talk listen first loss start now crowd _ was _ _ _ _ _ _ came c.close.ensures
    (c.in-Some.ensures.left loss start now) (c.seat.ensures.reached loss start now)

pub returns-in_default-clause-served : goal.returns-in_default-clause-served
returns-in_default-clause-served g c = λ first crowd loss start now comes serving.
    let talk = speaks g.D.Dialogue g.C.Stream.Stream in
    let listen = listening_to g.C.Crowd in
    let was = subst (λ v. IsServing talk listen first loss start now (record { crowd = crowd; places = v.places }))
    (sym c.self.view_is) serving in
    let came = subst (λ v. g.C.Crowd.comes crowd c.args.stream v.crowd) (sym c.self.view_is) comes in
    let here = subst (λ v. IsServing talk listen first loss start now (record { crowd = crowd; places = v }))
    (sym c.in_default.ensures.none) was in
    entered_more talk listen first loss start now crowd _ here _ _ _ came (c.seat.ensures.reached loss start now)

pub returns-in-Some-clause-here : goal.returns-in-Some-clause-here
returns-in-Some-clause-here g c =
    let (v, at, number, stream) = c.seat.ensures.here in
    let counted = ap (λ h. h.places.connections) c.self.view_is in
    (v, at, number ∙ c.in-Some.ensures.same.1 ∙ counted, stream)

pub returns-in_default-clause-here : goal.returns-in_default-clause-here
returns-in_default-clause-here g c =
    let (v, at, number, stream) = c.seat.ensures.here in
    let counted = ap (λ h. h.places.connections) c.self.view_is in
    (v, at, number ∙ c.in_default.ensures.same.1 ∙ counted, stream)
