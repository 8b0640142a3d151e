use Rattle.std.proofs.Common.{◌≡◌, ◌≢◌, ◌∙◌, ◌<◌, ℕ, None, Some, ap, arith, false, length, true}
use Rattle.std.specs.Prelude.{is_some, slice_get}
use Rattle.std.proofs.lemmas.Option.{get_or_from_slice_get, slice_get_within}
use borrow.Author.Count.{below_more}
use Rattle.rounds.proofs.places.Places.free_place.Goals as goal

pub loop-place-preserved : goal.loop-place-preserved
loop-place-preserved g c =
    let items = c.self.inside.lines.items in
    let here = c.loop-place.place in
    let x = c.index.result.now in
    below_more (λ (place : ℕ). slice_get c.args.self.now.lines place ≢ Some None) here c.loop-place.invariant (λ free.
    let none : x ≡ None =
    c.index.ensures
    ∙ get_or_from_slice_get items here None x (ap (λ v. slice_get v.lines here) c.self.view_is ∙ free) in
    let no : is_some x ≡ false = ap is_some none in
    let yes : is_some x ≡ true = c.if-is_none.ensures in
    absurd (cc))

pub returns-clause-none : goal.returns-clause-none
returns-clause-none g c = λ place free.
    let within : place < length c.self.inside.lines.items =
    slice_get_within c.self.inside.lines.items place None
    (ap (λ v. slice_get v.lines place) c.self.view_is ∙ free) in
    c.loop-place.invariant place (omega arith) free
