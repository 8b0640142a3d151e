use Rattle.sqlite.specs.Held.{state}
use Rattle.sql_keep.proofs.NewTables.{added_table}
use Rattle.sql_keep.proofs.create.create_table.Goals as goal

pub returns-clause-made : goal.returns-clause-made
returns-clause-made g c clean begun =
    added_table c.args.table c.create_text.result.now c.create_text.ensures (state g.S.Store c.args.tx.now.conn.now)
    (state g.S.Store c.execute.new.self.conn.now) c.execute.result (c.execute.ensures.runs clean begun)
