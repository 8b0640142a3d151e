use Rattle.std.proofs.Common.{map}
use Rattle.sqlite.specs.Held.{state}
use Rattle.ledger.specs.Tables.{field_cells, move_cells}
use Rattle.sql_keep.specs.StoreContent.{Stores}
use Rattle.keep.specs.declared.table_row.TableName.TheVariants as table
use Rattle.sql_keep.proofs.Steps.{finds_then, reads_only}
use Rattle.sql_keep.proofs.load.load_stock.Goals as goal

pub returns-in_err-moves-clause-survives : goal.returns-in_err-moves-clause-survives
returns-in_err-moves-clause-survives g c =
    reads_only (state g.S.Store c.args.conn.now) (state g.S.Store c.load.new.conn) (state g.S.Store c.load-2.new.conn)
    c.load-2.ensures.survives (λ clean has. (c.in_ok-fields.ensures.found clean has).0) c.load.ensures.survives

pub returns-clause-survives : goal.returns-clause-survives
returns-clause-survives g c =
    reads_only (state g.S.Store c.args.conn.now) (state g.S.Store c.load.new.conn) (state g.S.Store c.load-2.new.conn)
    c.load-2.ensures.survives (λ clean has. (c.in_ok-fields.ensures.found clean has).0) c.load.ensures.survives

pub returns-clause-found : goal.returns-clause-found
returns-clause-found g c =
    finds_then (state g.S.Store c.args.conn.now) (state g.S.Store c.load.new.conn) (state g.S.Store c.load-2.new.conn)
    (λ trees. Stores table.Field (trees 1) (map field_cells c.in_ok-fields.fields.items))
    (λ trees. Stores table.Move (trees 3) (map move_cells c.in_ok-moves.moves.items)) _
    c.load-2.ensures.survives c.in_ok-fields.ensures.found c.in_ok-moves.ensures.found
