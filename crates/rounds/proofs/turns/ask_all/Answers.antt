use Rattle.rounds.specs.Rounds.{SameAt}
use Rattle.rounds.proofs.Lists.{each_on, each_same}
use Rattle.rounds.proofs.OneTurn.{seat_on, seat_still}
use Rattle.rounds.proofs.Settings.{off_on, off_same}
use Rattle.rounds.proofs.turns.ask_all.Goals as goal

pub loop-turns-init : goal.loop-turns-init
loop-turns-init g c = record {
  seats = each_same SameAt seat_still c.args.lines.now;
  asked = λ heard start round. round;
  off = off_same c.args.desk.now;
}

pub returns-then-rest-eq0-clause-seats : goal.returns-then-rest-eq0-clause-seats
returns-then-rest-eq0-clause-seats g c = each_on SameAt seat_on _ _ _ c.loop-turns.invariant.seats c.ask_from-rest.ensures.seats

pub returns-then-rest-eq0-clause-asked : goal.returns-then-rest-eq0-clause-asked
returns-then-rest-eq0-clause-asked g c = λ heard start round.
    c.ask_from-rest.ensures.asked heard start (c.loop-turns.invariant.asked heard start round)

pub returns-then-rest-eq0-clause-off : goal.returns-then-rest-eq0-clause-off
returns-then-rest-eq0-clause-off g c = off_on _ _ _ c.loop-turns.invariant.off c.ask_from-rest.ensures.off

pub returns-then-from-eq0-clause-seats : goal.returns-then-from-eq0-clause-seats
returns-then-from-eq0-clause-seats g c = each_on SameAt seat_on _ _ _ c.loop-turns.invariant.seats c.ask_from-rest.ensures.seats

pub returns-then-from-eq0-clause-asked : goal.returns-then-from-eq0-clause-asked
returns-then-from-eq0-clause-asked g c = λ heard start round.
    c.ask_from-rest.ensures.asked heard start (c.loop-turns.invariant.asked heard start round)

pub returns-then-from-eq0-clause-off : goal.returns-then-from-eq0-clause-off
returns-then-from-eq0-clause-off g c = off_on _ _ _ c.loop-turns.invariant.off c.ask_from-rest.ensures.off

pub loop-turns-preserved : goal.loop-turns-preserved
loop-turns-preserved g c = record {
  seats = each_on SameAt seat_on _ _ _ c.loop-turns.invariant.seats c.ask_from-rest.ensures.seats;
  asked = λ heard start round. c.ask_from-rest.ensures.asked heard start (c.loop-turns.invariant.asked heard start round);
  off = off_on _ _ _ c.loop-turns.invariant.off c.ask_from-rest.ensures.off;
}
