use Rattle.std.proofs.Common.{[], ◌∷◌, IsTrue, arith, subst, sym}
use Rattle.sqlite.specs.Held.{state}
use Rattle.sqlite.specs.State.{ExecutesInside, HasCleanDisk, IsUnchanged}
use Rattle.sqlite.specs.Values.{bound}
use Rattle.sqlite.specs.declared.error.Error.TheVariants.{SqliteFailure}
use Rattle.sqlite.specs.declared.error.ErrorCode.TheVariants.{ConstraintViolation}
use Rattle.sql_keep.specs.Statements.{InsertsRow}
use Rattle.sql_keep.proofs.Puts.{puts_from, row_inserted}
use Rattle.sql_keep.proofs.Steps.{no_fault, refused_stays}
use Rattle.sql_keep.proofs.table.insert.Goals as goal

pub returns-in-Err-SqliteFailure-ConstraintViolation-clause-put :
    goal.returns-in-Err-SqliteFailure-ConstraintViolation-clause-put
returns-in-Err-SqliteFailure-ConstraintViolation-clause-put g c clean begun change is_table is =
    let arm = c.in-Err-SqliteFailure-ConstraintViolation in
    let old = state g.S.Store c.args.tx.now.conn.now in
    let mid = state g.S.Store c.execute.new.self.conn.now in
    let new = state g.S.Store c.upsert.new.tx.conn.now in
    let cleaned : HasCleanDisk mid = omega (arith, clean, c.upsert.ensures.survives.clean) in
    let same : IsUnchanged old mid =
    refused_stays c.args.text.now (bound c.args.values.now) old mid (SqliteFailure (ConstraintViolation arm.field-0-0-0))
    (no_fault arm.field-0-0-0) (rw (arm.field-0-is, arm.field-0-0-is) at (arm.ensures.runs cleaned begun)) in
    puts_from old mid new (change ∷ []) c.upsert.result same
    (c.upsert.ensures.put clean (subst IsTrue (sym same.0.mode) begun) change is_table is)

pub returns-in_default-3-clause-put : goal.returns-in_default-3-clause-put
returns-in_default-3-clause-put g c clean begun change is_table is =
    let old = state g.S.Store c.args.tx.now.conn.now in
    let new = state g.S.Store c.execute.new.self.conn.now in
    row_inserted change c.args.text.now (subst (λ t. InsertsRow t c.args.text.now) (sym is_table) c.requires) old new
    c.execute.result
    (subst (λ row. ExecutesInside 0 c.args.text.now row old new c.execute.result) is (c.execute.ensures.runs clean begun))
