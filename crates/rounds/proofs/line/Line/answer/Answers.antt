use Rattle.std.proofs.Common.{◌∙◌, ◌≤◌, ap, length, refl, subst, sym}
use Rattle.rounds.specs.Lines.{Said, speaks}
use Rattle.rounds.proofs.OneLine.{drop_first, first_of_some, heard_answered, hidden_so, memory_same, told_answered}
use Rattle.rounds.proofs.Settings.{off_same}
use Rattle.rounds.proofs.line.Line.answer.Goals as goal

pub returns-in-Ok-answer-clause-turn : goal.returns-in-Ok-answer-clause-turn
returns-in-Ok-answer-clause-turn g c = λ h said stands.
    let talk = speaks g.D.Dialogue g.S.Stream in
    let v = c.args.self.now in
    let here = c.self.inside in
    let is = stands (λ gone. absurd (cc (c.requires.asks, gone))) in
    let first = first_of_some g.D.Dialogue.asks v.waiting is.waiting c.requires.waits is.are_waiting in
    let waits = ap (λ v. v.waiting) c.self.view_is ∙ first.are in
    let held =
    c.index.ensures
    ∙ drop_first c.self.inside.answered c.self.inside.questions.items first.others first.held c.index.result.now
    waits in
    let told =
    c.in-Ok-answer.ensures.told first.question
    (subst (λ p. g.D.Dialogue.asks p first.question) (sym held) first.asked) in
    let s : Said g.D.Dialogue.Asked g.D.Dialogue.Told = record {
      connection = v.connection;
      question = first.question;
      kind = told.kind;
      answer = told.answer;
    } in (
      s,
      refl,
      told.is_answer,
      told_answered talk g.met.D.Dialogue.settled v h said is first s refl,
      λ there. heard_answered talk v c.hide.new.self h said c.requires.asks c.requires.quiet is first s refl
          (hidden_so talk _ v c.hide.new.self _ _ _ c.self.view_is c.reserve.ensures.items told.text_is
          (c.hide.ensures.hidden there)),
    )

pub returns-in-Err-Memory-clause-turn : goal.returns-in-Err-Memory-clause-turn
returns-in-Err-Memory-clause-turn g c = λ h said stands.
    let talk = speaks g.D.Dialogue g.S.Stream in
    let v = c.args.self.now in
    let is = stands (λ gone. absurd (cc (c.requires.asks, gone))) in
    let first = first_of_some g.D.Dialogue.asks v.waiting is.waiting c.requires.waits is.are_waiting in
    let waits = ap (λ v. v.waiting) c.self.view_is ∙ first.are in
    let held =
    c.index.ensures
    ∙ drop_first c.self.inside.answered c.self.inside.questions.items first.others first.held c.index.result.now
    waits in
    let fails =
    c.in-Err-Memory.ensures.fails first.question
    (subst (λ p. g.D.Dialogue.asks p first.question) (sym held) first.asked) in (
      memory_same g.D.Dialogue.language c.in-Err-Memory.field-0 _ first.question _ c.in-Err-Memory.field-0-is fails,
      λ there. absurd (there refl),
    )

pub invariant_of-self : goal.invariant_of-self
invariant_of-self g c = c.self.invariant

pub invariant_of-self-in-Ok-answer : goal.invariant_of-self-in-Ok-answer
invariant_of-self-in-Ok-answer g c = c.self.invariant

pub invariant_of-self-in-Err-Memory : goal.invariant_of-self-in-Err-Memory
invariant_of-self-in-Err-Memory g c = c.self.invariant

pub hide-requires : goal.hide-requires
hide-requires g c = subst (λ v. 1 ≤ length v.waiting) (sym c.self.view_is) c.requires.waits

pub returns-in_default-clause-turn : goal.returns-in_default-clause-turn
returns-in_default-clause-turn g c = λ h said stands. (refl, λ there. absurd (there refl))

pub returns-in_default-clause-same : goal.returns-in_default-clause-same
returns-in_default-clause-same g c = (ap (λ v. v.connection) c.self.view_is, ap (λ v. v.stream) c.self.view_is)

pub returns-in_default-clause-off : goal.returns-in_default-clause-off
returns-in_default-clause-off g c = off_same c.args.desk.now

pub returns-in-Ok-answer-clause-same : goal.returns-in-Ok-answer-clause-same
returns-in-Ok-answer-clause-same g c =
    (c.hide.ensures.same.0 ∙ ap (λ v. v.connection) c.self.view_is, c.hide.ensures.same.1 ∙ ap (λ v. v.stream) c.self.view_is)

pub returns-in-Err-Memory-clause-same : goal.returns-in-Err-Memory-clause-same
returns-in-Err-Memory-clause-same g c = (ap (λ v. v.connection) c.self.view_is, ap (λ v. v.stream) c.self.view_is)
