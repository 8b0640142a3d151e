use Rattle.std.proofs.Common.{◌∙◌, ap, length, refl, subst, sym}
use Rattle.rounds.specs.Crowds.{IsServing, listening_to}
use Rattle.rounds.specs.Lines.{speaks}
use Rattle.rounds.proofs.Serving.{reached_more}
use Rattle.rounds.proofs.hub.Hub.write.Goals as goal

pub returns-in-Err-2-clause-served : goal.returns-in-Err-2-clause-served
returns-in-Err-2-clause-served g c = λ first loss start now serving.
    let talk = speaks g.D.Dialogue g.C.Stream.Stream in
    let listen = listening_to g.C.Crowd in
    let was = subst (λ v. IsServing talk listen first loss start now v) (sym c.self.view_is) serving in
    c.close-in-Err-2.ensures.served first loss start now
    (reached_more talk listen first loss start now _ _ was c.write.new.self
    (λ visits reached. c.write.ensures.reached loss start now visits reached))

pub returns-in-Ok-Some-eq0-clause-served : goal.returns-in-Ok-Some-eq0-clause-served
returns-in-Ok-Some-eq0-clause-served g c = λ first loss start now serving.
    let talk = speaks g.D.Dialogue g.C.Stream.Stream in
    let listen = listening_to g.C.Crowd in
    let was = subst (λ v. IsServing talk listen first loss start now v) (sym c.self.view_is) serving in
    c.close.ensures.served first loss start now
    (reached_more talk listen first loss start now _ _ was c.write.new.self
    (λ visits reached. c.write.ensures.reached loss start now visits reached))

pub returns-then-not-index-clause-served : goal.returns-then-not-index-clause-served
returns-then-not-index-clause-served g c = λ first loss start now serving. serving

pub returns-then-not-index-clause-same : goal.returns-then-not-index-clause-same
returns-then-not-index-clause-same g c = (refl, refl)

pub returns-in-Ok-Some-eq0-clause-same : goal.returns-in-Ok-Some-eq0-clause-same
returns-in-Ok-Some-eq0-clause-same g c = (
  c.close.ensures.same.0 ∙ c.write.ensures.same.0 ∙ ap (λ v. length v.places.lines) c.self.view_is,
  c.close.ensures.same.1 ∙ c.write.ensures.same.1 ∙ ap (λ v. v.places.connections) c.self.view_is,
)

pub returns-in-Ok-Some-clause-served : goal.returns-in-Ok-Some-clause-served
returns-in-Ok-Some-clause-served g c = λ first loss start now serving.
    let talk = speaks g.D.Dialogue g.C.Stream.Stream in
    let listen = listening_to g.C.Crowd in
    let was = subst (λ v. IsServing talk listen first loss start now v) (sym c.self.view_is) serving in
    reached_more talk listen first loss start now _ _ was c.look.new.self
    (λ visits reached. c.look.ensures.reached loss start now visits
    (c.write.ensures.reached loss start now visits reached))

pub returns-in-Ok-Some-clause-same : goal.returns-in-Ok-Some-clause-same
returns-in-Ok-Some-clause-same g c = (
  c.look.ensures.same.0 ∙ c.write.ensures.same.0 ∙ ap (λ v. length v.places.lines) c.self.view_is,
  c.look.ensures.same.1 ∙ c.write.ensures.same.1 ∙ ap (λ v. v.places.connections) c.self.view_is,
)

pub returns-in-Ok-None-clause-served : goal.returns-in-Ok-None-clause-served
returns-in-Ok-None-clause-served g c = λ first loss start now serving.
    let talk = speaks g.D.Dialogue g.C.Stream.Stream in
    let listen = listening_to g.C.Crowd in
    let was = subst (λ v. IsServing talk listen first loss start now v) (sym c.self.view_is) serving in
    reached_more talk listen first loss start now _ _ was c.write.new.self
    (λ visits reached. c.write.ensures.reached loss start now visits reached)

pub returns-in-Ok-None-clause-same : goal.returns-in-Ok-None-clause-same
returns-in-Ok-None-clause-same g c = (
  c.write.ensures.same.0 ∙ ap (λ v. length v.places.lines) c.self.view_is,
  c.write.ensures.same.1 ∙ ap (λ v. v.places.connections) c.self.view_is,
)

pub returns-in-Err-clause-served : goal.returns-in-Err-clause-served
returns-in-Err-clause-served g c = λ first loss start now serving.
    let talk = speaks g.D.Dialogue g.C.Stream.Stream in
    let listen = listening_to g.C.Crowd in
    let was = subst (λ v. IsServing talk listen first loss start now v) (sym c.self.view_is) serving in
    reached_more talk listen first loss start now _ _ was c.write.new.self
    (λ visits reached. c.write.ensures.reached loss start now visits reached)

pub returns-in-Err-clause-same : goal.returns-in-Err-clause-same
returns-in-Err-clause-same g c = (
  c.write.ensures.same.0 ∙ ap (λ v. length v.places.lines) c.self.view_is,
  c.write.ensures.same.1 ∙ ap (λ v. v.places.connections) c.self.view_is,
)

pub returns-in-Err-2-clause-same : goal.returns-in-Err-2-clause-same
returns-in-Err-2-clause-same g c = (
  c.close-in-Err-2.ensures.same.0 ∙ c.write.ensures.same.0 ∙ ap (λ v. length v.places.lines) c.self.view_is,
  c.close-in-Err-2.ensures.same.1 ∙ c.write.ensures.same.1 ∙ ap (λ v. v.places.connections) c.self.view_is,
)
