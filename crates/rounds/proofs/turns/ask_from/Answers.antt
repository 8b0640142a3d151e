use borrow.Author.Rules.{scaled_Fits}
use borrow.Author.Count.{falls}
use Rattle.std.proofs.Common.{◌≡◌, Some, get_or, length, rules}
use Rattle.std.specs.Prelude.{slice_get}
use Rattle.std.proofs.lemmas.Option.{slice_get-get_or}
use Rattle.rounds.specs.Lines.{speaks}
use Rattle.rounds.specs.Rounds.{SameAt}
use Rattle.rounds.proofs.Lists.{before_too, each_on, each_same, each_set, each_size, within_too}
use Rattle.rounds.proofs.OneTurn.{seat_on, seat_still, turn_more, turn_seat}
use Rattle.rounds.proofs.Settings.{off_on, off_same}
use Rattle.rounds.proofs.turns.ask_from.Goals as goal

pub loop-place-init : goal.loop-place-init
loop-place-init g c = record {
  seats = each_same SameAt seat_still c.args.lines.now;
  asked = λ heard start round. round;
  off = off_same c.args.desk.now;
}

pub loop-place-preserved : goal.loop-place-preserved
loop-place-preserved g c =
    let talk = speaks g.D.Dialogue g.S.Stream in
    let lines = c.loop-place.lines in
    let p = c.loop-place.place in
    let turn = c.turn_at-is_answered in
    let v = get_or lines p c.index-lines-place.result in
    let size = each_size SameAt _ _ c.loop-place.invariant.seats in
    let is_there : slice_get lines p ≡ Some v =
    slice_get-get_or lines p c.index-lines-place.result
    (within_too c.args.lines.now lines c.loop-place-test.true c.requires.within size) in
    record {
      seats = each_on SameAt seat_on _ _ _ c.loop-place.invariant.seats
          (each_set SameAt seat_still lines p v turn.new.line is_there
          (turn_seat talk turn.result v turn.new.line _ _ turn.ensures.turn));
      asked = λ heard start round.
          turn_more talk start _ _ lines heard p (c.loop-place.invariant.asked heard start round) turn.result v
          turn.new.line is_there turn.ensures.turn;
      off = off_on _ _ _ c.loop-place.invariant.off turn.ensures.off;
    }

pub bounds-lines-place : goal.bounds-lines-place
bounds-lines-place g c =
    within_too c.args.lines.now c.loop-place.lines c.loop-place-test.true c.requires.within
    (each_size SameAt _ _ c.loop-place.invariant.seats)

pub turn_at-is_answered-requires : goal.turn_at-is_answered-requires
turn_at-is_answered-requires g c = record { going = c.requires.going }

pub returns-then-left-eq0-clause-seats : goal.returns-then-left-eq0-clause-seats
returns-then-left-eq0-clause-seats g c = c.loop-place.invariant.seats

pub returns-then-left-eq0-clause-asked : goal.returns-then-left-eq0-clause-asked
returns-then-left-eq0-clause-asked g c = c.loop-place.invariant.asked

pub returns-then-left-eq0-clause-off : goal.returns-then-left-eq0-clause-off
returns-then-left-eq0-clause-off g c = c.loop-place.invariant.off

pub returns-clause-seats : goal.returns-clause-seats
returns-clause-seats g c = c.loop-place.invariant.seats

pub returns-clause-asked : goal.returns-clause-asked
returns-clause-asked g c = c.loop-place.invariant.asked

pub returns-clause-off : goal.returns-clause-off
returns-clause-off g c = c.loop-place.invariant.off

pub loop-place-smaller : goal.loop-place-smaller
loop-place-smaller g c = falls c.args.taken c.loop-place.place c.loop-place-test.true

pub offset_bounds-lines-place : goal.offset_bounds-lines-place
offset_bounds-lines-place g c =
    scaled_Fits _ (length c.args.lines.now) _ (before_too c.loop-place-test.true c.requires.within)
    c.well_formed.1.0.1
