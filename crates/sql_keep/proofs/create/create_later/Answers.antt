use Rattle.std.proofs.Common.{◌∙◌, arith}
use Rattle.sqlite.specs.Held.{state}
use Rattle.sqlite.proofs.StateLemmas.{survives_then}
use Rattle.sql_keep.proofs.NewTables.{makes_more}
use Rattle.sql_keep.proofs.create.create_later.Goals as goal

pub loop-table-preserved : goal.loop-table-preserved
loop-table-preserved g c =
    let old = state g.S.Store c.args.tx.now.conn.now in
    let mid = state g.S.Store c.loop-table.tx.conn.now in
    let new = state g.S.Store c.create_table.new.tx.conn.now in
    record {
      same = c.create_table.ensures.same_reference ∙ c.loop-table.invariant.same;
      survives =
          survives_then old mid new _ _ _ (λ _ db none. none) (λ _ db none. none) c.loop-table.invariant.survives
          c.create_table.ensures.survives;
      makes = λ clean begun.
          let first = c.loop-table.invariant.makes (omega (arith, clean, c.create_table.ensures.survives.clean)) begun in
          makes_more old mid new c.args.version c.loop-table.table-index c.requires
          c.tables_after-table-items.result.now c.tables_after-table-items.ensures c.loop-table-test.true first
          (c.in_ok-create_table.ensures.made clean first.mode);
    }
