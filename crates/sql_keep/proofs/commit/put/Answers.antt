use Rattle.sql_keep.proofs.commit.put.Goals as goal

pub returns-in-Desk-clause-put : goal.returns-in-Desk-clause-put
returns-in-Desk-clause-put g c = rw c.in-Desk.is c.upsert.ensures.put

pub returns-in-Field-clause-put : goal.returns-in-Field-clause-put
returns-in-Field-clause-put g c = rw c.in-Field.is c.upsert-in-Field.ensures.put

pub returns-in-Move-clause-put : goal.returns-in-Move-clause-put
returns-in-Move-clause-put g c = rw c.in-Move.is c.upsert-in-Move.ensures.put

pub returns-in-Order-clause-put : goal.returns-in-Order-clause-put
returns-in-Order-clause-put g c = rw c.in-Order.is c.upsert-in-Order.ensures.put

pub returns-in-Line-clause-put : goal.returns-in-Line-clause-put
returns-in-Line-clause-put g c = rw c.in-Line.is c.upsert-in-Line.ensures.put

pub returns-in-Kept-clause-put : goal.returns-in-Kept-clause-put
returns-in-Kept-clause-put g c = rw c.in-Kept.is c.upsert-in-Kept.ensures.put

pub returns-in-Firm-clause-put : goal.returns-in-Firm-clause-put
returns-in-Firm-clause-put g c = rw c.in-Firm.is c.upsert-in-Firm.ensures.put
