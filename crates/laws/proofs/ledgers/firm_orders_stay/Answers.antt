use Rattle.laws.proofs.Firm.{run_keeps, stays_now}
use Rattle.laws.proofs.ledgers.firm_orders_stay.Goals as goal

pub returns : goal.returns
returns c A rs replies B n good run there = run_keeps A rs replies B n run (stays_now A n good there)
