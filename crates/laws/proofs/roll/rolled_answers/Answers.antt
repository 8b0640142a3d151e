use Rattle.laws.proofs.AnsweredAlike.{rolled_accepted, rolled_alike, rolled_roomy}
use Rattle.laws.proofs.roll.rolled_answers.Goals as goal

pub returns-clause-alike : goal.returns-clause-alike
returns-clause-alike c K A r reply M good asks = rolled_alike K A r good asks reply M

pub returns-clause-accepts : goal.returns-clause-accepts
returns-clause-accepts c = rolled_accepted

pub returns-clause-roomy : goal.returns-clause-roomy
returns-clause-roomy c K A r found good asks = rolled_roomy K A r good asks found
