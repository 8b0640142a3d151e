use Rattle.laws.proofs.Meeting.{runs_meet, stand_in_turn, stand_rolled_up}
use Rattle.laws.proofs.roll.rolls_are_not_seen.Goals as goal

pub returns-clause-in_turn : goal.returns-clause-in_turn
returns-clause-in_turn c = stand_in_turn

pub returns-clause-rolls : goal.returns-clause-rolls
returns-clause-rolls c = stand_rolled_up

pub returns-clause-runs : goal.returns-clause-runs
returns-clause-runs c = runs_meet
