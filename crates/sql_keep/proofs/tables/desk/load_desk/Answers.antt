use Rattle.std.proofs.Common.{pos}
use Rattle.sqlite.specs.Held.{state}
use Rattle.sql_keep.proofs.DeskAnswer.{version_if, found_if, none_if}
use Rattle.sql_keep.proofs.tables.desk.load_desk.Goals as goal

pub returns-clause-version : goal.returns-clause-version
returns-clause-version g c =
    version_if (pos c.args.version) (state g.S.Store c.args.conn.now) (state g.S.Store c.select.new.conn)
    c.in_ok-answers.answers.items c.in_ok-answers.ensures.rows c.in_ok-answers.ensures.same c.one_row.result
    (rw c.as_slice.ensures.value at c.one_row.ensures)

pub returns-clause-found : goal.returns-clause-found
returns-clause-found g c =
    found_if (pos c.args.version) (state g.S.Store c.args.conn.now) (state g.S.Store c.select.new.conn)
    c.in_ok-answers.answers.items c.in_ok-answers.ensures.rows c.in_ok-answers.ensures.same c.one_row.result
    (rw c.as_slice.ensures.value at c.one_row.ensures)

pub returns-clause-none : goal.returns-clause-none
returns-clause-none g c =
    none_if (pos c.args.version) (state g.S.Store c.args.conn.now) (state g.S.Store c.select.new.conn)
    c.in_ok-answers.answers.items c.in_ok-answers.ensures.rows c.in_ok-answers.ensures.same c.one_row.result
    (rw c.as_slice.ensures.value at c.one_row.ensures)
