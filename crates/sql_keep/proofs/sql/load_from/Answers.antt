use Rattle.std.proofs.Common.{arith, refl, rules}
use Rattle.sqlite.specs.Held.{state}
use Rattle.keep.specs.Content.{newest}
use Rattle.sql_keep.proofs.Schemas.{lacks_one, nameless, not_older, of_a_version, old_names}
use Rattle.sql_keep.proofs.sql.load_from.Goals as goal

pub returns-in-Current-clause-version : goal.returns-in-Current-clause-version
returns-in-Current-clause-version g c clean =
    let is = rw c.schema.ensures.value at (c.in-Current.ensures.current refl) in
    record {
      desk = c.load_current.ensures.desk clean;
      old_version = λ told. absurd (c.load_current.ensures.going.1 told);
      only_old = λ old. absurd (not_older (state g.S.Store c.args.conn.now).now is.1 old);
    }

pub returns-in-Nameless-clause-version : goal.returns-in-Nameless-clause-version
returns-in-Nameless-clause-version g c clean =
    let db = (state g.S.Store c.args.conn.now).now in
    let none = rw c.schema.ensures.value at (c.in-Nameless.ensures.nameless refl) in
    record {
      desk = λ _ x has _. nameless db x none has;
      old_version = λ told. absurd (cc told);
      only_old = λ old. absurd (none (old_names db old));
    }

pub returns-in-Old-clause-version : goal.returns-in-Old-clause-version
returns-in-Old-clause-version g c clean =
    let is = rw c.schema.ensures.value at (c.in-Old.ensures.old _ refl) in
    record {
      desk = λ _ x has _. lacks_one (state g.S.Store c.args.conn.now).now x _ is.2 is.3 has;
      old_version = search rules;
      only_old = search rules;
    }

pub returns-in-Current-clause-other : goal.returns-in-Current-clause-other
returns-in-Current-clause-other g c =
    let is = rw c.schema.ensures.value at (c.in-Current.ensures.current refl) in
    of_a_version _ newest _ _ is.0 (omega arith) (omega arith) is.1

pub returns-in-Old-clause-other : goal.returns-in-Old-clause-other
returns-in-Old-clause-other g c =
    let is = rw c.schema.ensures.value at (c.in-Old.ensures.old _ refl) in
    of_a_version _ c.in-Old.version _ _ is.0 is.1 (omega (arith, is.2)) is.3

pub returns-in-Nameless-clause-other : goal.returns-in-Nameless-clause-other
returns-in-Nameless-clause-other g c =
    let none = rw c.schema.ensures.value at (c.in-Nameless.ensures.nameless refl) in
    record { nameless = λ _. (refl, refl); other = λ names _. absurd (none names) }

pub old_fault-requires-clause-some : goal.old_fault-requires-clause-some
old_fault-requires-clause-some g c = (c.in-Old.ensures.old _ refl).1

pub old_fault-requires-clause-old : goal.old_fault-requires-clause-old
old_fault-requires-clause-old g c = (c.in-Old.ensures.old _ refl).2
