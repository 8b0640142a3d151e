use borrow.Author.Rules.{scaled_Fits}
use borrow.Author.Count.{falls}
use Rattle.std.proofs.Common.{◌≡◌, Some, get_or, length, rules}
use Rattle.std.specs.Prelude.{slice_get}
use Rattle.std.proofs.lemmas.Option.{slice_get-get_or}
use Rattle.rounds.specs.Lines.{speaks}
use Rattle.rounds.specs.Rounds.{IsForgotten}
use Rattle.rounds.proofs.Lists.{before_too, gone_more, gone_none, gone_taken, within_too}
use Rattle.rounds.proofs.turns.forget_all.Goals as goal

pub loop-place-init : goal.loop-place-init
loop-place-init g c = gone_none (IsForgotten (speaks g.D.Dialogue g.S.Stream)) _

pub loop-place-preserved : goal.loop-place-preserved
loop-place-preserved g c =
    let lines = c.loop-place.lines in
    let p = c.loop-place.place in
    let is_there : slice_get lines p ≡ Some (get_or lines p c.index-lines-place.result) =
    slice_get-get_or lines p c.index-lines-place.result
    (within_too c.args.lines.now lines c.loop-place-test.true c.requires.within c.loop-place.invariant.size) in
    gone_more (IsForgotten (speaks g.D.Dialogue g.S.Stream)) _ lines p _ _ c.loop-place.invariant is_there c.forget_at.ensures

pub returns : goal.returns
returns g c = gone_taken (IsForgotten (speaks g.D.Dialogue g.S.Stream)) _ _ _ c.loop-place.invariant
    (λ p v at_p. before_too (c.requires.before p v at_p) c.loop-place-test.false) tt

pub loop-place-smaller : goal.loop-place-smaller
loop-place-smaller g c = falls c.args.taken c.loop-place.place c.loop-place-test.true

pub offset_bounds-lines-place : goal.offset_bounds-lines-place
offset_bounds-lines-place g c =
    scaled_Fits _ (length c.args.lines.now) _ (before_too c.loop-place-test.true c.requires.within)
    c.well_formed.0.1
