use Rattle.std.proofs.Common.{◌≡◌, ◌∙◌, ◌<◌, Some, ap, length, refl, subst, sym}
use Rattle.std.specs.Prelude.{slice_get}
use Rattle.std.proofs.lemmas.Option.{slice_get_read}
use Rattle.rounds.specs.Histories.{IsReached}
use Rattle.rounds.specs.Lines.{speaks}
use Rattle.rounds.proofs.Lists.{get_other}
use Rattle.rounds.proofs.Reaching.{reach_written}
use Rattle.rounds.proofs.Taken.{written_none, taken_set}
use Rattle.rounds.proofs.places.Places.write.Goals as goal

pub returns-clause-reached : goal.returns-clause-reached
returns-clause-reached g c = λ loss start now visits r.
    let talk = speaks g.D.Dialogue g.S.Stream in
    let items = c.self.inside.lines.items in
    let x = c.index_mut.result.now in
    let within = subst (λ v. c.args.place < length v.lines) (sym c.self.view_is) c.requires.place in
    let is_there : slice_get items c.args.place ≡ Some x =
    slice_get_read items (length items) c.args.place x refl within c.index_mut.ensures.value in
    reach_written talk loss start now visits _ (subst (λ v. IsReached talk loss start now visits v) (sym c.self.view_is) r)
    c.write_at.result g.met.D.Dialogue.settled c.args.place x c.write_at.new.line is_there c.write_at.ensures

pub invariant_of-self : goal.invariant_of-self
invariant_of-self g c =
    let items = c.self.inside.lines.items in
    let x = c.index_mut.result.now in
    let within = subst (λ v. c.args.place < length v.lines) (sym c.self.view_is) c.requires.place in
    let is_there : slice_get items c.args.place ≡ Some x =
    slice_get_read items (length items) c.args.place x refl within c.index_mut.ensures.value in
    taken_set c.self.inside.unused items c.args.place x c.write_at.new.line is_there
    (written_none (speaks g.D.Dialogue g.S.Stream) c.write_at.result x c.write_at.new.line c.write_at.ensures) c.self.invariant

pub returns-clause-others : goal.returns-clause-others
returns-clause-others g c = λ other ne.
    get_other c.self.inside.lines.items c.args.place other c.write_at.new.line ne
    ∙ ap (λ v. slice_get v.lines other) c.self.view_is
