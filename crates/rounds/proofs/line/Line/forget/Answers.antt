use Rattle.std.proofs.Common.{◌≡◌, [], ap, refl, subst, sym, take}
use Rattle.rounds.specs.Lines.{Stands, speaks}
use Rattle.rounds.proofs.OneLine.{heard_forgotten, heard_nothing, take_back}
use Rattle.rounds.proofs.line.Line.forget.Goals as goal

pub returns-then-self-eq0-clause-forgotten : goal.returns-then-self-eq0-clause-forgotten
returns-then-self-eq0-clause-forgotten g c = λ h said stands there.
    let talk = speaks g.D.Dialogue g.S.Stream in
    let was = subst (λ v. Stands talk v h said) (sym c.self.view_is) stands there in
    let none : take c.self.inside.answered c.self.inside.questions.items ≡ [] =
    ap (λ n. take n c.self.inside.questions.items) c.if-self-eq0.true in
    heard_nothing talk _ h said none was

pub returns-clause-forgotten : goal.returns-clause-forgotten
returns-clause-forgotten g c = λ h said stands there.
    let talk = speaks g.D.Dialogue g.S.Stream in
    let again = c.asking_again-self-inside.ensures there in
    let was = subst (λ v. Stands talk v h said) (sym c.self.view_is) stands again.0 in
    heard_forgotten talk _ _ h said was refl refl (sym (take_back c.self.inside.answered c.self.inside.questions.items))
    c.clear.ensures.items refl again.1
