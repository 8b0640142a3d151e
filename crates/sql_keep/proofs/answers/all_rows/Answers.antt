use Rattle.std.proofs.Common.{◌≡◌, ℕ, List, [], Ok, refl, sym, subst, rules, arith}
use Rattle.sqlite.specs.Effect.{Database}
use Rattle.sqlite.specs.Given.{IsPlain}
use Rattle.sqlite.specs.Held.{state}
use Rattle.sqlite.specs.Listing.{IsSourceOf, reads_listing, understood}
use Rattle.sqlite.specs.Order.{Row}
use Rattle.sqlite.specs.State.{HasCleanDisk, IsUnchanged, ShowsRows, Shown, State}
use Rattle.sqlite.proofs.Callers.{begun_plain, unchanged_then}
use Rattle.sql_keep.proofs.answers.all_rows.Goals as goal

-- what a query shows of a state that is the first unchanged, it shows of the first
shown_from : (sql : List ℕ) (params : Row) (first old new : State) (rows : List Row)
    → IsPlain (understood first.now.schema sql) → IsUnchanged first old → Shown sql params old new rows
    → Shown sql params first new rows
unfolding Shown
shown_from sql params first old new rows plain same h =
    let now : old.now ≡ first.now = same.0.now_is in
    let is = subst (λ (d : Database). understood d.schema sql ≡ Ok h.0) now h.1.is in
    let none = (subst IsPlain is plain).0 in
    let it = subst (ShowsRows old new sql h.0 _ rows) none h.2 in (
      h.0,
      record { is = is; whole = h.1.whole; given = h.1.given; now = h.1.now },
      subst (ShowsRows first new sql h.0 _ rows) (sym none) (
        it.0,
        subst (λ (d : Database). IsSourceOf (reads_listing d.schema sql) d it.0) now it.1,
        it.2,
        unchanged_then first old new same it.3,
      ),
    )

pub loop-turn-init : goal.loop-turn-init
loop-turn-init g c =
    let made = c.in_ok-rows.ensures in
    record {
      same = refl;
      mode = made.mode;
      survives = made.survives;
      given = λ plain clean. rw c.new-all.ensures.items (begun_plain g.S.Store _ _ c.args.conn.now _ plain (made.begun clean));
    }

pub returns-in_default-clause-ok : goal.returns-in_default-clause-ok
returns-in_default-clause-ok g c plain clean =
    let moved = c.next.follows.holds-at-none in
    let now = c.next.follows.lender-at-none.conn.now in
    let late : HasCleanDisk (state g.S.Store now) = search rules in
    let was = c.loop-turn.invariant.given plain (omega (arith, moved.survives.clean)) in
    let shown = (rw (c.in_ok-row.was, c.in_default.is) at (moved.ok late)) c.args.sql.now [] c.loop-turn.all.items was.0 in
    let whole = shown_from c.args.sql.now [] (state g.S.Store c.args.conn.now) _ (state g.S.Store now) _ plain was.1 shown in
    search rules
