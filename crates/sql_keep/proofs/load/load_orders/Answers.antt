use Rattle.std.proofs.Common.{map}
use Rattle.sqlite.specs.Held.{state}
use Rattle.sqlite_trees.specs.Tree.{Trees}
use Rattle.ledger.specs.Tables.{order_cells, line_cells, firm_cells}
use Rattle.sql_keep.specs.StoreContent.{Stores}
use Rattle.keep.specs.declared.table_row.TableName.TheVariants as table
use Rattle.sql_keep.proofs.Steps.{finds_then, reads_only}
use Rattle.sql_keep.proofs.load.load_orders.Goals as goal

pub returns-in_err-lines-clause-survives : goal.returns-in_err-lines-clause-survives
returns-in_err-lines-clause-survives g c =
    reads_only (state g.S.Store c.args.conn.now) (state g.S.Store c.load.new.conn) (state g.S.Store c.load-2.new.conn)
    c.load-2.ensures.survives (λ clean has. (c.in_ok-orders.ensures.found clean has).0) c.load.ensures.survives

pub returns-in_err-firms-clause-survives : goal.returns-in_err-firms-clause-survives
returns-in_err-firms-clause-survives g c =
    let s0 = state g.S.Store c.args.conn.now in
    let s1 = state g.S.Store c.load.new.conn in
    let s2 = state g.S.Store c.load-2.new.conn in
    let Orders = λ (trees : Trees). Stores table.Orders (trees 4) (map order_cells c.in_ok-orders.orders.items) in
    let Lines = λ (trees : Trees). Stores table.Line (trees 5) (map line_cells c.in_ok-lines.lines.items) in
    let both =
    finds_then s0 s1 s2 Orders Lines _ c.load-2.ensures.survives c.in_ok-orders.ensures.found
    c.in_ok-lines.ensures.found in
    reads_only s0 s2 (state g.S.Store c.load-3.new.conn) c.load-3.ensures.survives (λ clean has. (both clean has).0)
    (reads_only s0 s1 s2 c.load-2.ensures.survives (λ clean has. (c.in_ok-orders.ensures.found clean has).0)
    c.load.ensures.survives)

pub returns-clause-survives : goal.returns-clause-survives
returns-clause-survives g c =
    let s0 = state g.S.Store c.args.conn.now in
    let s1 = state g.S.Store c.load.new.conn in
    let s2 = state g.S.Store c.load-2.new.conn in
    let Orders = λ (trees : Trees). Stores table.Orders (trees 4) (map order_cells c.in_ok-orders.orders.items) in
    let Lines = λ (trees : Trees). Stores table.Line (trees 5) (map line_cells c.in_ok-lines.lines.items) in
    let both =
    finds_then s0 s1 s2 Orders Lines _ c.load-2.ensures.survives c.in_ok-orders.ensures.found
    c.in_ok-lines.ensures.found in
    reads_only s0 s2 (state g.S.Store c.load-3.new.conn) c.load-3.ensures.survives (λ clean has. (both clean has).0)
    (reads_only s0 s1 s2 c.load-2.ensures.survives (λ clean has. (c.in_ok-orders.ensures.found clean has).0)
    c.load.ensures.survives)

pub returns-clause-found : goal.returns-clause-found
returns-clause-found g c =
    let s0 = state g.S.Store c.args.conn.now in
    let s1 = state g.S.Store c.load.new.conn in
    let s2 = state g.S.Store c.load-2.new.conn in
    let Orders = λ (trees : Trees). Stores table.Orders (trees 4) (map order_cells c.in_ok-orders.orders.items) in
    let Lines = λ (trees : Trees). Stores table.Line (trees 5) (map line_cells c.in_ok-lines.lines.items) in
    let Firms = λ (trees : Trees). Stores table.Firm (trees 9) (map firm_cells c.in_ok-firms.firms.items) in
    finds_then s0 s2 (state g.S.Store c.load-3.new.conn) (λ trees. Orders trees × Lines trees) Firms _ c.load-3.ensures.survives
    (finds_then s0 s1 s2 Orders Lines _ c.load-2.ensures.survives c.in_ok-orders.ensures.found
    c.in_ok-lines.ensures.found) c.in_ok-firms.ensures.found
