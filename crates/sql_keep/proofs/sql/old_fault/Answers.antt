use Rattle.std.proofs.Common.{arith}
use Rattle.sqlite.specs.Held.{state}
use Rattle.ledger.specs.Tables.{desk_cells}
use Rattle.sql_keep.proofs.Schemas.{is_of_version}
use Rattle.sql_keep.proofs.Upgrades.{not_old}
use Rattle.sql_keep.proofs.sql.old_fault.Goals as goal

pub load_desk-requires-clause-schema : goal.load_desk-requires-clause-schema
load_desk-requires-clause-schema g c = (c.args.version, c.requires.some, omega (arith, c.requires.old), c.requires.schema)

pub returns-in-Ok-Some-clause-old : goal.returns-in-Ok-Some-clause-old
returns-in-Ok-Some-clause-old g c clean fault =
    let found = rw c.in-Ok-Some.field-0-is at c.in-Ok-Some.ensures.found in
    let version = rw c.in-Ok-Some.field-0-is at c.in-Ok-Some.ensures.version in (
      c.args.version,
      (c.requires.some, c.requires.old),
      is_of_version (state g.S.Store c.args.conn.now).now c.args.version (desk_cells c.in-Ok-Some.field-0-0)
          c.requires.some c.requires.schema (found clean).1 version,
    )

pub returns-in-Ok-None-clause-only : goal.returns-in-Ok-None-clause-only
returns-in-Ok-None-clause-only g c clean old =
    absurd (not_old (state g.S.Store c.args.conn.now).now c.args.version (omega (arith, c.requires.old))
    c.requires.schema (c.in-Ok-None.ensures.none c.in-Ok-None.field-0-is clean).1 old)
