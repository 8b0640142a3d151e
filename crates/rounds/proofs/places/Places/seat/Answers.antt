use Rattle.std.proofs.Common.{◌≡◌, ◌∙◌, ◌++◌, ◌∷◌, ◌+◌, [], None, Some, ap, arith, length, set, subst, sym}
use Rattle.std.specs.Prelude.{slice_get}
use Rattle.std.proofs.lemmas.Option.{slice_get_within}
use Rattle.rounds.specs.Histories.{IsReached, visit_of}
use Rattle.rounds.specs.Lines.{IsTold, speaks, unheard}
use Rattle.rounds.proofs.Lists.{get_other, get_set}
use Rattle.rounds.proofs.Reaching.{reach_seat}
use Rattle.rounds.proofs.Telling.{told_of}
use Rattle.rounds.proofs.Saying.{with_none}
use Rattle.rounds.proofs.Taken.{taken_more}
use Rattle.rounds.proofs.places.Places.seat.Goals as goal

pub returns-clause-reached : goal.returns-clause-reached
returns-clause-reached g c = λ loss start now visits r.
    let talk = speaks g.D.Dialogue g.S.Stream in
    let w = c.new.result in
    let free : slice_get c.self.inside.lines.items c.args.place ≡ Some None =
    subst (λ v. slice_get v.lines c.args.place ≡ Some None) (sym c.self.view_is) c.requires.free in
    let told =
    subst (λ k. IsTold talk.language k) (with_none unheard)
    (told_of talk g.met.D.Dialogue.settled w unheard [] c.new.ensures.heard) in
    subst (λ s. IsReached talk loss start now (visits ++ visit_of s ∷ [])
    (record {
      lines = set c.self.inside.lines.items c.args.place (Some w);
      connections = c.self.inside.connections + 1;
    })) c.new.ensures.stream
    (reach_seat talk loss start now visits _
    (subst (λ v. IsReached talk loss start now visits v) (sym c.self.view_is) r) c.args.place w free
    c.new.ensures.connection told c.new.ensures.heard)

pub returns-clause-here : goal.returns-clause-here
returns-clause-here g c =
    let free : slice_get c.self.inside.lines.items c.args.place ≡ Some None =
    subst (λ v. slice_get v.lines c.args.place ≡ Some None) (sym c.self.view_is) c.requires.free in (
      c.new.result,
      get_set c.self.inside.lines.items c.args.place None (Some c.new.result) free,
      c.new.ensures.connection ∙ ap (λ v. v.connections) c.self.view_is,
      c.new.ensures.stream,
    )

pub returns-clause-others : goal.returns-clause-others
returns-clause-others g c = λ other ne.
    get_other c.self.inside.lines.items c.args.place other (Some c.new.result) ne
    ∙ ap (λ v. slice_get v.lines other) c.self.view_is

pub invariant_of-self : goal.invariant_of-self
invariant_of-self g c =
    let free : slice_get c.self.inside.lines.items c.args.place ≡ Some None =
    subst (λ v. slice_get v.lines c.args.place ≡ Some None) (sym c.self.view_is) c.requires.free in
    let within = slice_get_within c.self.inside.lines.items c.args.place None free in
    taken_more c.self.inside.unused c.greater_of-self-inside.result c.self.inside.lines.items c.args.place
    (Some c.new.result) c.greater_of-self-inside.ensures.left
    (omega (arith, c.greater_of-self-inside.ensures.right))
    (c.greater_of-self-inside.ensures.least (length c.self.inside.lines.items) c.self.invariant.0
    (omega (arith, within))) c.self.invariant.1

pub index_mut-requires : goal.index_mut-requires
index_mut-requires g c =
    let within =
    slice_get_within c.self.inside.lines.items c.args.place None
    (subst (λ v. slice_get v.lines c.args.place ≡ Some None) (sym c.self.view_is) c.requires.free) in
    omega (arith, within, c.self.inside.lines.ok.0)

pub overflow_add-place : goal.overflow_add-place
overflow_add-place g c =
    let within =
    slice_get_within c.self.inside.lines.items c.args.place None
    (subst (λ v. slice_get v.lines c.args.place ≡ Some None) (sym c.self.view_is) c.requires.free) in
    omega (arith, within, c.self.ranges)
