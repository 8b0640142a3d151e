use Rattle.std.proofs.Common.{◌≡◌, refl, rules}
use Rattle.sqlite_value.specs.Value.{owned}
use Rattle.sqlite.specs.declared.types.Value.TheVariants.{Int}
use Rattle.ledger.specs.declared.rows.Change.TheVariants as change
use Rattle.sql_keep.proofs.tables.moves.MoveRowSqlRow.upsert.Goals as goal

pub returns-clause-put : goal.returns-clause-put
returns-clause-put g c clean begun =
    let v0 : owned c.params-to_sql.result ≡ Int c.args.self.now.place = search rules in
    let v3 : owned c.params-to_sql-4.result ≡ Int c.args.self.now.qty = search rules in
    c.put_row.ensures.put clean begun (change.Move c.args.self.now) refl
    (rw (v0, c.params-to_sql-2.ensures, c.params-to_sql-3.ensures, v3) refl)
