use Rattle.std.proofs.Common.{◌≡◌, refl, rules}
use Rattle.sqlite_value.specs.Value.{owned}
use Rattle.sqlite.specs.declared.types.Value.TheVariants.{Int}
use Rattle.ledger.specs.declared.rows.Change.TheVariants as change
use Rattle.sql_keep.proofs.tables.field.FieldRowSqlRow.upsert.Goals as goal

pub returns-clause-put : goal.returns-clause-put
returns-clause-put g c clean begun =
    let v2 : owned c.params-to_sql-3.result ≡ Int c.args.self.now.lo = search rules in
    let v3 : owned c.params-to_sql-4.result ≡ Int c.args.self.now.hi = search rules in
    let v4 : owned c.params-to_sql-5.result ≡ Int c.args.self.now.start = search rules in
    let v5 : owned c.params-to_sql-6.result ≡ Int c.args.self.now.value = search rules in
    let v6 : owned c.params-to_sql-7.result ≡ Int c.args.self.now.inf = search rules in
    let v7 : owned c.params-to_sql-8.result ≡ Int c.args.self.now.sup = search rules in
    c.put_row.ensures.put clean begun (change.Field c.args.self.now) refl
    (rw (c.params-to_sql.ensures, c.params-to_sql-2.ensures, v2, v3, v4, v5, v6, v7) refl)
