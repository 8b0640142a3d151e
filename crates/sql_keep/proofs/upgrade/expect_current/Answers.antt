use Rattle.std.proofs.Common.{arith}
use Rattle.sqlite.specs.Held.{state}
use Rattle.keep.specs.Content.{newest}
use Rattle.sql_keep.proofs.Upgrades.{not_current}
use Rattle.sql_keep.proofs.upgrade.expect_current.Goals as goal

pub load_desk-requires-clause-schema : goal.load_desk-requires-clause-schema
load_desk-requires-clause-schema g c = (newest, omega arith, omega arith, c.requires.desk)

pub returns-in-Ok-None-clause-desk : goal.returns-in-Ok-None-clause-desk
returns-in-Ok-None-clause-desk g c clean fault =
    let found = c.in-Ok-None.ensures.none c.in-Ok-None.field-0-is clean in
    (λ x has desk. not_current (state g.S.Store c.args.conn.now).now x c.requires.desk found.1 has desk, found.0)
