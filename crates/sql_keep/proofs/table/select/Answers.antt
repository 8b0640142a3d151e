use Rattle.sqlite.specs.Held.{state}
use Rattle.sql_keep.specs.Description.{desk_schema}
use Rattle.sql_keep.specs.Statements.{ListsTable}
use Rattle.sql_keep.proofs.Selects.{plain_if, rows_if, same_if, survives_if}
use Rattle.sql_keep.proofs.table.select.Goals as goal

lists : (g : _) (c : goal.After-all_rows g) → ListsTable desk_schema g.R.TableRow.which c.select_text.result.now
lists g c = rw c.name.ensures at c.select_text.ensures.newest

pub returns-clause-rows : goal.returns-clause-rows
returns-clause-rows g c clean has =
    rows_if g.R.TableRow.which desk_schema c.select_text.result.now (lists g c) (state g.S.Store c.args.conn.now)
    (state g.S.Store c.all_rows.new.conn) c.all_rows.result has
    (c.all_rows.ensures.ok (plain_if g.R.TableRow.which desk_schema c.select_text.result.now (lists g c) _ has) clean)

pub returns-clause-same : goal.returns-clause-same
returns-clause-same g c clean has =
    same_if g.R.TableRow.which desk_schema c.select_text.result.now (lists g c) (state g.S.Store c.args.conn.now)
    (state g.S.Store c.all_rows.new.conn) c.all_rows.result has
    (c.all_rows.ensures.ok (plain_if g.R.TableRow.which desk_schema c.select_text.result.now (lists g c) _ has) clean)

pub returns-clause-survives : goal.returns-clause-survives
returns-clause-survives g c =
    survives_if g.R.TableRow.which desk_schema c.select_text.result.now (lists g c) (state g.S.Store c.args.conn.now)
    (state g.S.Store c.all_rows.new.conn) c.all_rows.ensures.survives
