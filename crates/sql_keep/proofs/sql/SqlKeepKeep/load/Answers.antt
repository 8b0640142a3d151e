use Rattle.std.proofs.Common.{◌≡◌, ap}
use Rattle.std.proofs.lemmas.Result.{IfOk-weaker}
use Rattle.sqlite.specs.Held.{state}
use Rattle.sql_keep.proofs.Stops.{found_of, stopped_over}
use Rattle.sql_keep.proofs.sql.SqlKeepKeep.load.Goals as goal

pub returns-clause-found : goal.returns-clause-found
returns-clause-found g c clean =
    let same : c.self.inside.conn ≡ c.args.self.now.connection = ap (λ k. k.connection) c.self.view_is in
    rw same at (IfOk-weaker c.load_from-loaded.result _ _
    (found_of (state g.S.Store c.self.inside.conn) (state g.S.Store c.load_from-loaded.new.conn)
    (λ is_open trees left. g.met.S.Store.settled c.load_from-loaded.new.conn.store trees is_open left))
    (c.load_from-loaded.ensures.read clean))

pub returns-clause-version : goal.returns-clause-version
returns-clause-version g c =
    let same : c.self.inside.conn ≡ c.args.self.now.connection = ap (λ k. k.connection) c.self.view_is in
    rw same at c.load_from-loaded.ensures.version

pub returns-clause-other : goal.returns-clause-other
returns-clause-other g c going =
    let same : c.self.inside.conn ≡ c.args.self.now.connection = ap (λ k. k.connection) c.self.view_is in
    let told = rw same at c.load_from-loaded.ensures.other in
    record {
      nameless = λ none.
          let is = told.nameless none in
          (is.0, stopped_over c.load_from-loaded.result _ _ _ _ c.is_err-self-inside.ensures.value is.0 is.1);
      other = λ names none.
          let is = told.other names none in
          (is.0, stopped_over c.load_from-loaded.result _ _ _ _ c.is_err-self-inside.ensures.value is.0 is.1);
    }
