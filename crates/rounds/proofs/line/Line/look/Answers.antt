use Rattle.std.proofs.Common.{◌≡◌, ◌∙◌, ◌++◌, ◌∷◌, [], ap, drop, refl, rules, subst, sym, take}
use Rattle.rounds.specs.declared.phase.Phase.TheVariants.{Asks}
use Rattle.rounds.specs.Lines.{Stands, speaks}
use Rattle.rounds.proofs.OneLine.{drop_front, heard_found, heard_paused, take_front}
use Rattle.rounds.proofs.line.Line.look.Goals as goal

pub returns-then-has_question-clause-waits : goal.returns-then-has_question-clause-waits
returns-then-has_question-clause-waits g c = λ yes. c.has_question.ensures.waits c.if-has_question.true

pub returns-in-Question-clause-heard : goal.returns-in-Question-clause-heard
returns-in-Question-clause-heard g c = λ h said stands there.
    let talk = speaks g.D.Dialogue g.S.Stream in
    let here = c.self.inside in
    let asks : here.phase ≡ Asks = search rules in
    let is = subst (λ v. Stands talk v h said) (sym c.self.view_is) stands (λ gone. absurd (cc (asks, gone))) in
    let none : drop here.answered here.questions.items ≡ [] =
    ap (λ v. v.waiting) c.self.view_is ∙ c.has_question.ensures.none c.if-has_question.false in
    let items = c.push_back_reserved.ensures.items ∙ ap (λ xs. xs ++ c.in-Question.question ∷ []) c.reserve.ensures.items in
    heard_found talk _ _ h said c.in-Question.question is none
    (ap (take here.answered) items
    ∙ take_front here.answered here.questions.items (c.in-Question.question ∷ []) c.self.invariant.0)
    (ap (drop here.answered) items
    ∙ drop_front here.answered here.questions.items (c.in-Question.question ∷ []) c.self.invariant.0
    ∙ ap (λ xs. xs ++ c.in-Question.question ∷ []) none)
    refl refl asks (c.in-Question.ensures.question c.in-Question.question refl)

pub returns-in-More-clause-heard : goal.returns-in-More-clause-heard
returns-in-More-clause-heard g c = λ h said stands there.
    let talk = speaks g.D.Dialogue g.S.Stream in
    let here = c.self.inside in
    let asks : here.phase ≡ Asks = search rules in
    let is = subst (λ v. Stands talk v h said) (sym c.self.view_is) stands (λ gone. absurd (cc (asks, gone))) in
    let none : drop here.answered here.questions.items ≡ [] =
    ap (λ v. v.waiting) c.self.view_is ∙ c.has_question.ensures.none c.if-has_question.false in
    heard_paused talk _ _ h said is none (ap (take here.answered) c.reserve.ensures.items)
    (ap (drop here.answered) c.reserve.ensures.items) refl refl
    (λ read ended questions found.
    let (still, going, come) = c.in-More.ensures.more refl read ended questions found in
    (still, λ wants. (going, come), λ over. absurd (cc)))

pub returns-in-Over-clause-heard : goal.returns-in-Over-clause-heard
returns-in-Over-clause-heard g c = λ h said stands there.
    let talk = speaks g.D.Dialogue g.S.Stream in
    let here = c.self.inside in
    let asks : here.phase ≡ Asks = search rules in
    let is = subst (λ v. Stands talk v h said) (sym c.self.view_is) stands (λ gone. absurd (cc (asks, gone))) in
    let none : drop here.answered here.questions.items ≡ [] =
    ap (λ v. v.waiting) c.self.view_is ∙ c.has_question.ensures.none c.if-has_question.false in
    heard_paused talk _ _ h said is none (ap (take here.answered) c.reserve.ensures.items)
    (ap (drop here.answered) c.reserve.ensures.items) refl refl
    (λ read ended questions found.
    let (still, are, ends) = c.in-Over.ensures.over refl read ended questions found in
    (still, λ wants. absurd (cc), λ over. (are, ends)))
