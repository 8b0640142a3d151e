use Rattle.std.proofs.Common.{arith, inl, refl, rules}
use Rattle.std.proofs.lemmas.Result.{on_ok_weaker}
use Rattle.sqlite.specs.Held.{state}
use Rattle.keep.specs.Content.{newest}
use Rattle.sql_keep.proofs.Schemas.{lacks_one, nameless, not_older, of_a_version, old_names}
use Rattle.sql_keep.proofs.Stops.{newest_made, newest_read}
use Rattle.sql_keep.proofs.sql.SqlKeep.upgrade_over.Goals as goal

pub returns-in-Current-clause-upgrades : goal.returns-in-Current-clause-upgrades
returns-in-Current-clause-upgrades g c clean =
    let is = rw c.schema.ensures.value at (c.in-Current.ensures.current refl) in
    record {
      done = on_ok_weaker c.expect_current.result
          (newest_read (state g.S.Store c.args.conn.now) (state g.S.Store c.expect_current.new.conn)
          (λ is_open trees left. g.met.S.Store.settled c.expect_current.new.conn.store trees is_open left))
          (c.expect_current.ensures.read clean);
      desk = λ told. (not_older (state g.S.Store c.args.conn.now).now is.1, (c.expect_current.ensures.desk clean told).0);
      unchanged = search rules;
      either = search rules;
    }

pub returns-in-Old-clause-upgrades : goal.returns-in-Old-clause-upgrades
returns-in-Old-clause-upgrades g c clean =
    let is = rw c.schema.ensures.value at (c.in-Old.ensures.old _ refl) in
    record {
      done = on_ok_weaker c.upgrade.result
          (newest_made (state g.S.Store c.args.conn.now) (state g.S.Store c.upgrade.new.conn)
          (λ is_open trees left. g.met.S.Store.settled c.upgrade.new.conn.store trees is_open left))
          (c.upgrade.ensures.made clean);
      desk = λ told. (
        (c.upgrade.ensures.desk clean told).0,
        λ x has _. lacks_one (state g.S.Store c.args.conn.now).now x _ is.2 is.3 has,
      );
      unchanged = search rules;
      either = search rules;
    }

pub returns-in-Nameless-clause-upgrades : goal.returns-in-Nameless-clause-upgrades
returns-in-Nameless-clause-upgrades g c clean =
    let db = (state g.S.Store c.args.conn.now).now in
    let none = rw c.schema.ensures.value at (c.in-Nameless.ensures.nameless refl) in
    record {
      done = tt;
      desk = λ _. (λ old. none (old_names db old), λ x has _. nameless db x none has);
      unchanged = λ _. (refl, refl);
      either = λ trees left. inl left;
    }

pub returns-in-Current-clause-other : goal.returns-in-Current-clause-other
returns-in-Current-clause-other g c =
    let is = rw c.schema.ensures.value at (c.in-Current.ensures.current refl) in
    of_a_version _ newest _ _ is.0 (omega arith) (omega arith) is.1

pub returns-in-Old-clause-other : goal.returns-in-Old-clause-other
returns-in-Old-clause-other g c =
    let is = rw c.schema.ensures.value at (c.in-Old.ensures.old _ refl) in
    of_a_version _ c.in-Old.version _ _ is.0 is.1 (omega (arith, is.2)) is.3

pub returns-in-Nameless-clause-other : goal.returns-in-Nameless-clause-other
returns-in-Nameless-clause-other g c =
    let none = rw c.schema.ensures.value at (c.in-Nameless.ensures.nameless refl) in
    record { nameless = λ _. (refl, refl); other = λ names _. absurd (none names) }

pub upgrade-requires-clause-some : goal.upgrade-requires-clause-some
upgrade-requires-clause-some g c = (c.in-Old.ensures.old _ refl).1

pub upgrade-requires-clause-old : goal.upgrade-requires-clause-old
upgrade-requires-clause-old g c = (c.in-Old.ensures.old _ refl).2
