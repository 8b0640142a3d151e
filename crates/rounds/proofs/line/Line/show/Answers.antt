use Rattle.std.proofs.Common.{◌≡◌, ◌≤◌, ◌∙◌, [], ap, arith, length, length-take, refl, subst, sym, take}
use Rattle.rounds.specs.Lines.{Stands, speaks}
use Rattle.rounds.proofs.OneLine.{heard_shown, shown_nothing}
use Rattle.rounds.proofs.line.Line.show.Goals as goal

pub returns-then-self-eq0-clause-shown : goal.returns-then-self-eq0-clause-shown
returns-then-self-eq0-clause-shown g c = λ h said stands there.
    let talk = speaks g.D.Dialogue g.S.Stream in
    let was = subst (λ v. Stands talk v h said) (sym c.self.view_is) stands there in
    let none : take c.self.inside.answered c.self.inside.questions.items ≡ [] =
    ap (λ n. take n c.self.inside.questions.items) c.if-self-eq0.true in
    shown_nothing talk _ h said none was

pub returns-clause-shown : goal.returns-clause-shown
returns-clause-shown g c = λ h said stands there.
    let talk = speaks g.D.Dialogue g.S.Stream in
    let here = c.self.inside in
    let was = subst (λ v. Stands talk v h said) (sym c.self.view_is) stands there in
    let some : 1 ≤ length (take here.answered here.questions.items) =
    grind (arith, length-take, c.self.invariant.0, c.if-self-eq0.false) in
    heard_shown talk _ _ h said was some refl refl c.let_go.ensures
    (ap (λ v. v.items) c.replace.ensures.after ∙ c.new.ensures.items) (ap (λ v. v.items) c.replace.ensures.value)
    refl
