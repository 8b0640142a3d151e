use Rattle.std.proofs.Common.{◌≡◌, refl, rules}
use Rattle.sqlite_value.specs.Value.{owned}
use Rattle.sqlite.specs.declared.types.Value.TheVariants.{Int}
use Rattle.ledger.specs.declared.rows.Change.TheVariants as change
use Rattle.sql_keep.proofs.tables.orders.OrderRowSqlRow.upsert.Goals as goal

pub returns-clause-put : goal.returns-clause-put
returns-clause-put g c clean begun =
    let v0 : owned c.params-to_sql.result ≡ Int c.args.self.now.number = search rules in
    let v1 : owned c.params-to_sql-2.result ≡ Int c.args.self.now.kind = search rules in
    let v2 : owned c.params-to_sql-3.result ≡ Int c.args.self.now.until = search rules in
    let v3 : owned c.params-to_sql-4.result ≡ Int c.args.self.now.state = search rules in
    c.put_row.ensures.put clean begun (change.Order c.args.self.now) refl (rw (v0, v1, v2, v3) refl)
