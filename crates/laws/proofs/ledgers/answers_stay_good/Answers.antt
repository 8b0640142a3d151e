use Rattle.ledger.proofs.Goodness.{good_answer}
use Rattle.laws.proofs.ledgers.answers_stay_good.Goals as goal

pub returns : goal.returns
returns c A r reply B g key range h = good_answer A r reply B g key range h
