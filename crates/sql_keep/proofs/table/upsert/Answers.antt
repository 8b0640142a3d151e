use Rattle.std.proofs.Common.{subst, sym}
use Rattle.sqlite.specs.Held.{state}
use Rattle.sqlite.specs.State.{ExecutesInside}
use Rattle.sql_keep.specs.Statements.{PutsRow}
use Rattle.sql_keep.proofs.Puts.{row_upserted}
use Rattle.sql_keep.proofs.table.upsert.Goals as goal

pub returns-clause-put : goal.returns-clause-put
returns-clause-put g c clean begun change is_table is =
    let old = state g.S.Store c.args.tx.now.conn.now in
    let new = state g.S.Store c.execute.new.self.conn.now in
    row_upserted change c.upsert_text.result.now
    (subst (λ t. PutsRow t c.upsert_text.result.now) (sym is_table) c.upsert_text.ensures) old new c.execute.result
    (subst (λ row. ExecutesInside 0 c.upsert_text.result.now row old new c.execute.result) is
    (c.execute.ensures.runs clean begun))
