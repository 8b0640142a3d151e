use Rattle.std.proofs.Common.{refl}
use Rattle.sqlite.specs.Held.{state}
use Rattle.sql_keep.proofs.Selects.{rows, same, survives}
use Rattle.keep.specs.declared.table_row.TableName.TheVariants as table
use Rattle.sql_keep.proofs.tables.desk.select.Goals as goal

pub returns-clause-rows : goal.returns-clause-rows
returns-clause-rows g c clean =
    let text = c.select_text in
    rows table.Desk text.result.now (text.ensures.desk refl) (state g.S.Store c.args.conn.now)
    (state g.S.Store c.query_all.new.self) c.query_all.result c.requires (c.query_all.ensures.ok clean)

pub returns-clause-same : goal.returns-clause-same
returns-clause-same g c clean =
    let text = c.select_text in
    same table.Desk text.result.now (text.ensures.desk refl) (state g.S.Store c.args.conn.now)
    (state g.S.Store c.query_all.new.self) c.query_all.result c.requires (c.query_all.ensures.ok clean)

pub returns-clause-survives : goal.returns-clause-survives
returns-clause-survives g c =
    let text = c.select_text in
    survives table.Desk text.result.now (text.ensures.desk refl) (state g.S.Store c.args.conn.now)
    (state g.S.Store c.query_all.new.self) c.requires c.query_all.ensures.survives
