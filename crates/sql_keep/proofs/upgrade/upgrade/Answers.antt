use Rattle.std.proofs.Common.{arith}
use Rattle.sqlite.specs.Held.{state}
use Rattle.sql_keep.proofs.Upgrades.{not_old, survives_upgrade, upgraded_to}
use Rattle.sql_keep.proofs.upgrade.upgrade.Goals as goal

pub load_desk-requires-clause-schema : goal.load_desk-requires-clause-schema
load_desk-requires-clause-schema g c = (c.args.version, c.requires.some, omega (arith, c.requires.old), c.requires.schema)

pub returns-in-Ok-clause-made : goal.returns-in-Ok-clause-made
returns-in-Ok-clause-made g c clean =
    upgraded_to (state g.S.Store c.args.conn.now) (state g.S.Store c.load_desk.new.conn)
    (state g.S.Store c.raise.new.conn) c.args.version c.requires.old c.requires.some c.in-Ok-Some.row c.raised.result
    c.raised.ensures c.requires.schema
    (rw c.in-Ok-Some.field-0-is at c.in-Ok-Some.ensures.version)
    (rw c.in-Ok-Some.field-0-is at c.in-Ok-Some.ensures.found) c.raise.ensures.survives clean
    (c.in-Ok.ensures.made clean)

pub returns-in-Ok-clause-survives : goal.returns-in-Ok-clause-survives
returns-in-Ok-clause-survives g c =
    survives_upgrade (state g.S.Store c.args.conn.now) (state g.S.Store c.load_desk.new.conn)
    (state g.S.Store c.raise.new.conn) c.args.version c.requires.old c.requires.some c.in-Ok-Some.row c.raised.result
    c.raised.ensures c.requires.schema
    (rw c.in-Ok-Some.field-0-is at c.in-Ok-Some.ensures.version)
    (rw c.in-Ok-Some.field-0-is at c.in-Ok-Some.ensures.found) c.raise.ensures.survives c.load_desk.ensures.survives

pub returns-in-Err-raise-clause-survives : goal.returns-in-Err-raise-clause-survives
returns-in-Err-raise-clause-survives g c =
    survives_upgrade (state g.S.Store c.args.conn.now) (state g.S.Store c.load_desk.new.conn)
    (state g.S.Store c.raise.new.conn) c.args.version c.requires.old c.requires.some c.in-Ok-Some.row c.raised.result
    c.raised.ensures c.requires.schema
    (rw c.in-Ok-Some.field-0-is at c.in-Ok-Some.ensures.version)
    (rw c.in-Ok-Some.field-0-is at c.in-Ok-Some.ensures.found) c.raise.ensures.survives c.load_desk.ensures.survives

pub returns-in-Ok-None-clause-desk : goal.returns-in-Ok-None-clause-desk
returns-in-Ok-None-clause-desk g c clean fault =
    let found = c.in-Ok-None.ensures.none c.in-Ok-None.field-0-is clean in (
      not_old (state g.S.Store c.args.conn.now).now c.args.version (omega (arith, c.requires.old)) c.requires.schema
          found.1,
      found.0,
    )
