use Rattle.ledger.proofs.Prelude.{Add, Take}
use Rattle.laws.proofs.ledgers.tests_are_comparisons.Goals as goal
use Rattle.ledger.proofs.Falls.{sounds_from_good}
use Rattle.ledger.proofs.Asks.{line_test, more_test, moved_test}

pub returns-clause-deliver : goal.returns-clause-deliver
returns-clause-deliver c A f q good = moved_test A f q 0 (sounds_from_good A good) Add

pub returns-clause-writeoff : goal.returns-clause-writeoff
returns-clause-writeoff c A f q good = moved_test A f q 0 (sounds_from_good A good) Take

pub returns-clause-more : goal.returns-clause-more
returns-clause-more c A n l i good may = more_test A n l (sounds_from_good A good) good.orders_in_order may i

pub returns-clause-line : goal.returns-clause-line
returns-clause-line c = line_test
