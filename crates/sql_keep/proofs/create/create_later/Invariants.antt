use Rattle.std.proofs.Common.{◌≡◌, IsTrue, take}
use Rattle.sqlite.specs.State.{HasCleanDisk, Survives}
use Rattle.sqlite.specs.Held.{state}
use Rattle.sql_keep.specs.Description.{schema_of, tables_after, tables_of}
use Rattle.sql_keep.specs.Stages.{AddsTables}
use Rattle.sql_keep.specs.Transactions.{Makes}
use Rattle.sql_keep.proofs.create.create_later.Given as goal

abbrev pub invariant-loop-table : goal.invariant-loop-table
invariant-loop-table g l = record {
  same : l.tx.conn.ghost_name ≡ l.fn.tx.conn.ghost_name;
  survives : Survives (state g.S.Store l.fn.tx.conn.now) (state g.S.Store l.tx.conn.now) (λ _. ⊥);
  makes : HasCleanDisk (state g.S.Store l.tx.conn.now) → IsTrue (state g.S.Store l.fn.tx.conn.now).in_transaction
      → Makes (λ db. (state g.S.Store l.fn.tx.conn.now).now.schema ≡ schema_of l.fn.version
      → AddsTables (tables_of l.fn.version) (take l.table-index (tables_after l.fn.version))
      (state g.S.Store l.fn.tx.conn.now).now db)
      (state g.S.Store l.fn.tx.conn.now) (state g.S.Store l.tx.conn.now);
}
