use Rattle.laws.proofs.Stock.{moves_alone, others_leave_it}
use Rattle.laws.proofs.deals.own_commands_move_it_alone.Goals as goal

pub returns-clause-own : goal.returns-clause-own
returns-clause-own c = moves_alone

pub returns-clause-others : goal.returns-clause-others
returns-clause-others c = others_leave_it
