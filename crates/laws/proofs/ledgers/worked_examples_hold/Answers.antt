use Rattle.std.specs.Fmt.{digits}
use Rattle.laws.specs.Examples.{firm_order, firm_transfer, long_script, other_bounds, release_and_abort, tight_bounds, transfer}
use Rattle.laws.specs.Examples.{two_checks_fail}
use Rattle.ledger.proofs.Prelude.{new_ledger, refl}
use Rattle.laws.proofs.ScriptPlay.{plays}
use Rattle.laws.proofs.ledgers.worked_examples_hold.Goals as goal

pub returns-clause-long_script : goal.returns-clause-long_script
unfolding digits
returns-clause-long_script c = plays long_script new_ledger refl

pub returns-clause-tight_bounds : goal.returns-clause-tight_bounds
returns-clause-tight_bounds c = plays tight_bounds new_ledger refl

pub returns-clause-transfer : goal.returns-clause-transfer
returns-clause-transfer c = plays transfer new_ledger refl

pub returns-clause-release_and_abort : goal.returns-clause-release_and_abort
returns-clause-release_and_abort c = plays release_and_abort new_ledger refl

pub returns-clause-other_bounds : goal.returns-clause-other_bounds
unfolding digits
returns-clause-other_bounds c = plays other_bounds new_ledger refl

pub returns-clause-firm_order : goal.returns-clause-firm_order
unfolding digits
returns-clause-firm_order c = plays firm_order new_ledger refl

pub returns-clause-firm_transfer : goal.returns-clause-firm_transfer
returns-clause-firm_transfer c = plays firm_transfer new_ledger refl

pub returns-clause-two_checks : goal.returns-clause-two_checks
unfolding digits
returns-clause-two_checks c = plays two_checks_fail new_ledger refl
