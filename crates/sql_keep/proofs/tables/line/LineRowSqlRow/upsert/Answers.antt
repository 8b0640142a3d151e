use Rattle.std.proofs.Common.{◌≡◌, refl, rules}
use Rattle.sqlite_value.specs.Value.{owned}
use Rattle.sqlite.specs.declared.types.Value.TheVariants.{Int}
use Rattle.ledger.specs.declared.rows.Change.TheVariants as change
use Rattle.sql_keep.proofs.tables.line.LineRowSqlRow.upsert.Goals as goal

pub returns-clause-put : goal.returns-clause-put
returns-clause-put g c clean begun =
    let v0 : owned c.params-to_sql.result ≡ Int c.args.self.now.number = search rules in
    let v1 : owned c.params-to_sql-2.result ≡ Int c.args.self.now.nr = search rules in
    let v4 : owned c.params-to_sql-5.result ≡ Int c.args.self.now.way = search rules in
    let v5 : owned c.params-to_sql-6.result ≡ Int c.args.self.now.held = search rules in
    let v6 : owned c.params-to_sql-7.result ≡ Int c.args.self.now.used = search rules in
    c.put_row.ensures.put clean begun (change.Line c.args.self.now) refl
    (rw (v0, v1, c.params-to_sql-3.ensures, c.params-to_sql-4.ensures, v4, v5, v6) refl)
