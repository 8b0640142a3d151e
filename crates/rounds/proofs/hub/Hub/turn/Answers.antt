use Rattle.std.proofs.Common.{◌∙◌, ◌≤◌, ap, length, subst, sym}
use Rattle.rounds.specs.Crowds.{listening_to}
use Rattle.rounds.specs.Lines.{speaks}
use Rattle.rounds.specs.Services.{InService}
use Rattle.rounds.proofs.Serving.{between}
use Rattle.rounds.proofs.hub.Hub.turn.Goals as goal

pub returns-clause-served : goal.returns-clause-served
returns-clause-served g c = λ first start was.
    let talk = speaks g.D.Dialogue g.C.Stream.Stream in
    let listen = listening_to g.C.Crowd in
    let begun = subst (λ v. InService talk listen g.K.Keep first start c.args.desk.now v) (sym c.begin_turn.ensures) was in
    let waited = between talk listen g.K.Keep first start c.args.desk.now _ c.wait.new.self c.wait.ensures.served begun in
    let come =
    between talk listen g.K.Keep first start c.args.desk.now _ c.let_in_all.new.self c.let_in_all.ensures.served
    waited in
    let read = between talk listen g.K.Keep first start c.args.desk.now _ c.gather.new.self c.gather.ensures.served come in
    let noted =
    subst (λ v. InService talk listen g.K.Keep first start c.round.new.desk v) (sym c.note.ensures)
    (c.round.ensures.served first start read) in
    between talk listen g.K.Keep first start c.round.new.desk _ c.tell_all.new.self c.tell_all.ensures.served noted

pub let_in_all-requires-clause-some : goal.let_in_all-requires-clause-some
let_in_all-requires-clause-some g c =
    subst (λ n. 1 ≤ n) (sym (c.wait.ensures.same.0 ∙ ap (λ v. length v.places.lines) c.begin_turn.ensures)) c.requires.some

pub let_in_all-requires-clause-within : goal.let_in_all-requires-clause-within
let_in_all-requires-clause-within g c =
    subst (λ n. n ≤ c.args.terms.now.connections)
    (sym (c.wait.ensures.same.1 ∙ ap (λ v. v.places.connections) c.begin_turn.ensures))
    c.requires.within

pub round-requires-clause-going : goal.round-requires-clause-going
round-requires-clause-going g c = c.requires.going

pub round-requires-clause-settled : goal.round-requires-clause-settled
round-requires-clause-settled g c = c.requires.settled

pub returns-in_err-wait-clause-served : goal.returns-in_err-wait-clause-served
returns-in_err-wait-clause-served g c = λ first start was.
    let talk = speaks g.D.Dialogue g.C.Stream.Stream in
    let listen = listening_to g.C.Crowd in
    let begun = subst (λ v. InService talk listen g.K.Keep first start c.args.desk.now v) (sym c.begin_turn.ensures) was in
    between talk listen g.K.Keep first start c.args.desk.now _ c.wait.new.self c.wait.ensures.served begun

pub returns-in_err-gather-clause-served : goal.returns-in_err-gather-clause-served
returns-in_err-gather-clause-served g c = λ first start was.
    let talk = speaks g.D.Dialogue g.C.Stream.Stream in
    let listen = listening_to g.C.Crowd in
    let begun = subst (λ v. InService talk listen g.K.Keep first start c.args.desk.now v) (sym c.begin_turn.ensures) was in
    let waited = between talk listen g.K.Keep first start c.args.desk.now _ c.wait.new.self c.wait.ensures.served begun in
    let come =
    between talk listen g.K.Keep first start c.args.desk.now _ c.let_in_all.new.self c.let_in_all.ensures.served
    waited in
    between talk listen g.K.Keep first start c.args.desk.now _ c.gather.new.self c.gather.ensures.served come

pub returns-in_err-wait-clause-settled : goal.returns-in_err-wait-clause-settled
returns-in_err-wait-clause-settled g c = c.requires.settled

pub returns-in_err-wait-clause-honest : goal.returns-in_err-wait-clause-honest
returns-in_err-wait-clause-honest g c = λ honest. honest

pub returns-in_err-gather-clause-settled : goal.returns-in_err-gather-clause-settled
returns-in_err-gather-clause-settled g c = c.requires.settled

pub returns-in_err-gather-clause-honest : goal.returns-in_err-gather-clause-honest
returns-in_err-gather-clause-honest g c = λ honest. honest

pub returns-in_err-wait-clause-size : goal.returns-in_err-wait-clause-size
returns-in_err-wait-clause-size g c = c.wait.ensures.same.0 ∙ ap (λ v. length v.places.lines) c.begin_turn.ensures

pub returns-in_err-wait-clause-within : goal.returns-in_err-wait-clause-within
returns-in_err-wait-clause-within g c =
    subst (λ n. n ≤ c.args.terms.now.connections)
    (sym (c.wait.ensures.same.1 ∙ ap (λ v. v.places.connections) c.begin_turn.ensures))
    c.requires.within

pub returns-in_err-gather-clause-size : goal.returns-in_err-gather-clause-size
returns-in_err-gather-clause-size g c =
    c.gather.ensures.same.0 ∙ c.let_in_all.ensures.size ∙ c.wait.ensures.same.0 ∙ ap (λ v. length v.places.lines) c.begin_turn.ensures

pub returns-in_err-gather-clause-within : goal.returns-in_err-gather-clause-within
returns-in_err-gather-clause-within g c =
    subst (λ n. n ≤ c.args.terms.now.connections)
    (sym (c.gather.ensures.same.1))
    c.let_in_all.ensures.within

pub returns-clause-settled : goal.returns-clause-settled
returns-clause-settled g c = c.round.ensures.settled

pub returns-clause-honest : goal.returns-clause-honest
returns-clause-honest g c = c.round.ensures.honest

pub returns-clause-size : goal.returns-clause-size
returns-clause-size g c =
    c.tell_all.ensures.same.0
    ∙ ap (λ v. length v.places.lines) c.note.ensures
    ∙ c.round.ensures.same.0
    ∙ c.gather.ensures.same.0
    ∙ c.let_in_all.ensures.size
    ∙ c.wait.ensures.same.0 ∙ ap (λ v. length v.places.lines) c.begin_turn.ensures

pub returns-clause-within : goal.returns-clause-within
returns-clause-within g c =
    subst (λ n. n ≤ c.args.terms.now.connections)
    (sym (c.tell_all.ensures.same.1
    ∙ ap (λ v. v.places.connections) c.note.ensures
    ∙ c.round.ensures.same.1
    ∙ c.gather.ensures.same.1))
    c.let_in_all.ensures.within
