use Rattle.std.proofs.Common.{◌≡◌, refl, rules}
use Rattle.sqlite_value.specs.Value.{owned}
use Rattle.sqlite.specs.declared.types.Value.TheVariants.{Int}
use Rattle.ledger.specs.declared.rows.Change.TheVariants as change
use Rattle.sql_keep.proofs.tables.kept.KeptRowSqlRow.upsert.Goals as goal

pub returns-clause-put : goal.returns-clause-put
returns-clause-put g c clean begun =
    let v1 : owned c.params-to_sql-2.result ≡ Int c.args.self.now.place = search rules in
    c.put_row.ensures.put clean begun (change.Kept c.args.self.now) refl
    (rw (c.params-to_sql.ensures, v1, c.params-to_sql-3.ensures) refl)
