use Rattle.std.proofs.Common.{◌∙◌, IsTrue, ap, not, rules, sym}
use Rattle.sqlite.specs.Effect.{Database}
use Rattle.sqlite.specs.Held.{state}
use Rattle.sql_keep.proofs.Stops.{leaves_now}
use Rattle.sql_keep.proofs.sql.SqlKeep.over.Goals as goal

pub returns-clause-alone : goal.returns-clause-alone
returns-clause-alone g c is_open x held =
    let idle : IsTrue c.is_autocommit-settled.result = c.is_autocommit-settled.ensures.value ∙ ap not c.requires in
    leaves_now (state g.S.Store c.args.conn) x
    (λ trees left. g.met.S.Store.settled c.args.conn.store trees is_open left)
    (sym (c.is_autocommit-settled.ensures.settled idle is_open)) held

pub returns-clause-shown : goal.returns-clause-shown
returns-clause-shown g c is_open trees left =
    let idle : IsTrue c.is_autocommit-settled.result = c.is_autocommit-settled.ensures.value ∙ ap not c.requires in
    g.met.S.Store.settled c.args.conn.store trees is_open left
    ∙ ap (λ (d : Database). d.trees) (sym (c.is_autocommit-settled.ensures.settled idle is_open))

pub returns-clause-keeper : goal.returns-clause-keeper
returns-clause-keeper g c = search rules
