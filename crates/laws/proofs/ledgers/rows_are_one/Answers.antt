use Rattle.ledger.proofs.EqualRows.{a_content, one_content, rows_in_order}
use Rattle.laws.proofs.ledgers.rows_are_one.Goals as goal

pub returns-clause-some : goal.returns-clause-some
returns-clause-some c A g = a_content A g

pub returns-clause-one : goal.returns-clause-one
returns-clause-one c A C D x y = one_content A C D x y

pub returns-clause-order : goal.returns-clause-order
returns-clause-order c A C g x = rows_in_order A C g x
