use Rattle.std.proofs.Common.{Option, ◌≡◌, ◌∙◌, ◌<◌, ℕ, List, Some, ap, length, refl, set, subst, sym}
use Rattle.std.specs.Prelude.{IfNone, IfSome, option_map, slice_get}
use Rattle.std.proofs.lemmas.Option.{slice_get_read}
use Rattle.desk.specs.Desk.{Snapshot}
use Rattle.rounds.specs.Histories.{IsReached, Visit, visit_of}
use Rattle.rounds.specs.Lines.{speaks}
use Rattle.rounds.specs.Rounds.{Loss}
use Rattle.rounds.proofs.Lists.{get_other, get_set}
use Rattle.rounds.proofs.Reaching.{has_left}
use Rattle.rounds.proofs.Taken.{nobody_left, placed, taken_set}
use Rattle.rounds.proofs.places.Places.leave.Goals as goal

pub returns-clause-free : goal.returns-clause-free
returns-clause-free g c =
    let items = c.self.inside.lines.items in
    let x = c.index_mut.result.now in
    let within = subst (λ v. c.args.place < length v.lines) (sym c.self.view_is) c.requires.place in
    let is_there : slice_get items c.args.place ≡ Some x =
    slice_get_read items (length items) c.args.place x refl within c.index_mut.ensures.value in
    get_set items c.args.place x c.take-line.new.self is_there ∙ ap Some c.take-line.ensures.after

pub returns-clause-left : goal.returns-clause-left
returns-clause-left g c =
    let talk = speaks g.D.Dialogue g.S.Stream in
    let here = c.self.inside in
    let items = here.lines.items in
    let x = c.index_mut.result.now in
    let within = subst (λ v. c.args.place < length v.lines) (sym c.self.view_is) c.requires.place in
    let is_there : slice_get items c.args.place ≡ Some x =
    slice_get_read items (length items) c.args.place x refl within c.index_mut.ensures.value in
    let left = has_left talk (record { lines = items; connections = here.connections }) c.args.place x c.stream_of.result is_there
    (c.stream_of.ensures ∙ ap (λ o. option_map (λ l. l.stream) o) c.take-line.ensures.value) in
    let gone =
    subst (λ o. IfSome c.stream_of.result
    (λ stream. (loss : Option Loss) (start now : Snapshot) (visits : List (Visit g.row.S.Denot))
    → IsReached talk loss start now visits (record { lines = items; connections = here.connections })
    → (connection : ℕ) × (first : g.row.S.Denot) × (slice_get visits connection ≡ Some (visit_of first))
    × IsReached talk loss start now (set visits connection (record { came = first; left = Some stream }))
    (record { lines = set items c.args.place o; connections = here.connections })))
    (sym c.take-line.ensures.after) left in
    subst (λ v. IfSome c.stream_of.result
    (λ stream. (loss : Option Loss) (start now : Snapshot) (visits : List (Visit g.row.S.Denot))
    → IsReached talk loss start now visits v
    → (connection : ℕ) × (first : g.row.S.Denot) × (slice_get visits connection ≡ Some (visit_of first))
    × IsReached talk loss start now (set visits connection (record { came = first; left = Some stream }))
    (record { lines = set items c.args.place c.take-line.new.self; connections = here.connections }))) c.self.view_is gone

pub returns-clause-others : goal.returns-clause-others
returns-clause-others g c = λ other ne.
    get_other c.self.inside.lines.items c.args.place other c.take-line.new.self ne
    ∙ ap (λ v. slice_get v.lines other) c.self.view_is

pub invariant_of-self : goal.invariant_of-self
invariant_of-self g c =
    let items = c.self.inside.lines.items in
    let x = c.index_mut.result.now in
    let within = subst (λ v. c.args.place < length v.lines) (sym c.self.view_is) c.requires.place in
    let is_there : slice_get items c.args.place ≡ Some x =
    slice_get_read items (length items) c.args.place x refl within c.index_mut.ensures.value in
    taken_set c.self.inside.unused items c.args.place x c.take-line.new.self is_there
    (λ none. c.take-line.ensures.after) c.self.invariant

pub returns-clause-none : goal.returns-clause-none
returns-clause-none g c =
    let here = c.self.inside in
    let items = here.lines.items in
    let x = c.index_mut.result.now in
    let within = subst (λ v. c.args.place < length v.lines) (sym c.self.view_is) c.requires.place in
    let is_there : slice_get items c.args.place ≡ Some x =
    slice_get_read items (length items) c.args.place x refl within c.index_mut.ensures.value in
    let stays = nobody_left (λ l. l.stream) items here.connections c.args.place x c.stream_of.result is_there
    (c.stream_of.ensures ∙ ap (λ o. option_map (λ l. l.stream) o) c.take-line.ensures.value) in
    let gone = subst (λ o.
    IfNone c.stream_of.result (placed (set items c.args.place o) here.connections ≡ placed items here.connections))
    (sym c.take-line.ensures.after) stays in
    subst (λ v. IfNone c.stream_of.result (placed (set items c.args.place c.take-line.new.self) here.connections ≡ v))
    c.self.view_is gone
