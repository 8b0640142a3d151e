-- the rows so far are those that the query gave, and nothing is changed
use Rattle.std.proofs.Common.{◌≡◌, false, []}
use Rattle.sqlite.specs.Given.{HasGiven, IsPlain}
use Rattle.sqlite.specs.Held.{state}
use Rattle.sqlite.specs.Listing.{understood}
use Rattle.sqlite.specs.State.{CommitsShowing, HasCleanDisk, IsUnchanged, Survives}
use Rattle.sql_keep.proofs.answers.all_rows.Given as goal

abbrev pub invariant-loop-turn : goal.invariant-loop-turn
invariant-loop-turn g l =
    let old = state g.S.Store l.fn.conn in
    let now = state g.S.Store l.rows.conn.now in
    record {
      same : l.rows.conn.ghost_name ≡ l.initial.rows.conn.ghost_name;
      mode : l.fn.conn.in_transaction ≡ false → l.rows.conn.now.in_transaction ≡ false;
      survives : Survives old now (CommitsShowing l.sql [] old);
      given : IsPlain (understood l.fn.conn.schema l.sql) → HasCleanDisk now
          → HasGiven g.S.Store l.sql [] l.rows.conn.now l.all.items × IsUnchanged old now;
    }
