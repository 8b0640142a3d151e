use Rattle.sql_keep.proofs.sql.load_current.Goals as goal

pub returns-in-Ok-None-clause-desk : goal.returns-in-Ok-None-clause-desk
returns-in-Ok-None-clause-desk g c clean fault = c.in-Ok-None.ensures.none clean c.in-Ok-None.field-0-is
