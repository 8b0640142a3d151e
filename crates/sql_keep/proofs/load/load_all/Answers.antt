use Rattle.std.proofs.Common.{arith, map, subst, [], ◌∷◌}
use Rattle.sqlite.specs.Held.{state}
use Rattle.sqlite.specs.State.{HasCleanDisk}
use Rattle.sqlite_trees.specs.Tree.{Trees}
use Rattle.sqlite_trees.specs.Objects.{catalog_tree}
use Rattle.sqlite_catalog.specs.Listing.{Lists}
use Rattle.ledger.specs.Rows.{Content}
use Rattle.ledger.specs.Tables.{desk_cells, field_cells, move_cells, order_cells, line_cells, kept_cells, firm_cells}
use Rattle.sql_keep.specs.StoreContent.{IsContent, Stores}
use Rattle.keep.specs.Content.{newest}
use Rattle.keep.specs.TableRows.{rows_of}
use Rattle.sql_keep.specs.Description.{declared}
use Rattle.keep.specs.declared.table_row.TableName.{TableName}
use Rattle.keep.specs.declared.table_row.TableName.TheVariants as table
use Rattle.sql_keep.specs.Loads.{FindsTrees, Reads}
use Rattle.sql_keep.proofs.LaterTables.{content_now}
use Rattle.sql_keep.proofs.Schemas.{rows_there}
use Rattle.sql_keep.proofs.Steps.{finds_then}
use Rattle.sql_keep.proofs.load.load_all.Goals as goal

module _ (g : _) (c : goal.After-new-6 g) where
  abbrev Desk : Trees → Type 0
  Desk trees = Stores table.Desk (trees 0) (desk_cells c.in-Some.desk ∷ [])

  abbrev Stock : Trees → Type 0
  Stock trees =
      Stores table.Field (trees 1) (map field_cells c.in_ok-fields.fields.items)
      × Stores table.Move (trees 3) (map move_cells c.in_ok-fields.moves.items)

  abbrev Orders : Trees → Type 0
  Orders trees =
      (Stores table.Orders (trees 4) (map order_cells c.in_ok-orders.orders.items)
      × Stores table.Line (trees 5) (map line_cells c.in_ok-orders.lines.items))
      × Stores table.Firm (trees 9) (map firm_cells c.in_ok-orders.firms.items)

  abbrev Kept : Trees → Type 0
  Kept trees = Stores table.Kept (trees 7) (map kept_cells c.in_ok-kept.kept.items)

  found : FindsTrees (state g.S.Store c.args.conn.now) (state g.S.Store c.load.new.conn)
      (λ trees. ((Desk trees × Stock trees) × Orders trees) × Kept trees)
  found =
      let s0 = state g.S.Store c.args.conn.now in
      let s1 = state g.S.Store c.load_desk.new.conn in
      let s2 = state g.S.Store c.load_stock.new.conn in
      let s3 = state g.S.Store c.load_orders.new.conn in
      let s4 = state g.S.Store c.load.new.conn in
      let read : Reads s0 s1 Desk = rw c.in-Some.is at c.in_ok-desk.ensures.found in
      let desk : FindsTrees s0 s1 Desk = λ clean has. read clean in
      finds_then s0 s3 s4 (λ trees. (Desk trees × Stock trees) × Orders trees) Kept _ c.load.ensures.survives
      (finds_then s0 s2 s3 (λ trees. Desk trees × Stock trees) Orders _ c.load_orders.ensures.survives
      (finds_then s0 s1 s2 Desk Stock _ c.load_stock.ensures.survives desk c.in_ok-fields.ensures.found)
      c.in_ok-orders.ensures.found)
      c.in_ok-kept.ensures.found

  abbrev made : Content
  made = record {
    desk = desk_cells c.in-Some.desk ∷ [];
    fields = map field_cells c.new.result;
    moves = map move_cells c.new-2.result;
    orders = map order_cells c.new-3.result;
    lines = map line_cells c.new-4.result;
    kept = map kept_cells c.new-5.result;
    firms = map firm_cells c.new-6.result;
  }

  stored : (trees : Trees) → ((Desk trees × Stock trees) × Orders trees) × Kept trees → (t : TableName)
      → Stores t (trees (declared t).tree) (rows_of t made)
  stored trees (((desk, stock), orders), kept) table.Desk = desk
  stored trees (((desk, (fields, moves)), orders), kept) table.Field = rw c.new.ensures fields
  stored trees (((desk, (fields, moves)), orders), kept) table.Move = rw c.new-2.ensures moves
  stored trees ((first, ((orders, lines), firms)), kept) table.Orders = rw c.new-3.ensures orders
  stored trees ((first, ((orders, lines), firms)), kept) table.Line = rw c.new-4.ensures lines
  stored trees (others, kept) table.Kept = rw c.new-5.ensures kept
  stored trees ((first, ((orders, lines), firms)), kept) table.Firm = rw c.new-6.ensures firms

  holds : HasCleanDisk (state g.S.Store c.load.new.conn) → IsContent (state g.S.Store c.args.conn.now).now.trees made
  holds clean =
      let trees = (state g.S.Store c.args.conn.now).now.trees in
      content_now trees made (subst (Lists (trees catalog_tree)) c.requires.schema
      (c.requires.live (found clean c.requires.schema).0.0.was_open).0.lists)
      (stored trees (found clean c.requires.schema).1)

pub load_desk-requires-clause-schema : goal.load_desk-requires-clause-schema
load_desk-requires-clause-schema g c = (newest, omega arith, omega arith, c.requires.schema)

pub returns-clause-content : goal.returns-clause-content
returns-clause-content g c clean =
    (record { schema_is = c.requires.schema; content = holds g c clean }, (found g c clean c.requires.schema).0)

pub returns-in_default-clause-none : goal.returns-in_default-clause-none
returns-in_default-clause-none g c clean none x has desk =
    (c.in_ok-desk.ensures.none c.in_default.is clean).1 x.desk
    (rows_there (state g.S.Store c.args.conn.now).now newest table.Desk (λ rows. Stores table.Desk rows x.desk)
    c.requires.schema (has table.Desk)) desk
