use Rattle.std.proofs.Common.{Err, Ok, ap, subst, sym, ◌≡◌}
use Rattle.sqlite.specs.Held.{state}
use Rattle.sqlite.specs.State.{HasCleanDisk}
use Rattle.sql_keep.specs.Old.{Upgrades}
use Rattle.stockdesk.specs.declared.session.Fault.TheVariants as Fault
use Rattle.stockdesk.proofs.upgrade.upgrade.Goals as goal

pub returns-in-Ok-clause-upgrades : goal.returns-in-Ok-clause-upgrades
returns-in-Ok-clause-upgrades g c clean =
    let now : c.over-keep.result.connection ≡ c.upgrade_over-done.new.conn = ap (λ k. k.connection) c.over-keep.ensures.keeper in
    let upgrades = c.in-Ok.ensures.upgrades (subst (λ h. HasCleanDisk (state g.S.Store h)) now clean) in
    subst (λ h. Upgrades Fault.NotADesk (state g.S.Store c.args.keep.connection) (state g.S.Store h) (Ok tt)) (sym now)
    (subst (λ h. Upgrades Fault.NotADesk (state g.S.Store h) (state g.S.Store c.upgrade_over-done.new.conn) (Ok tt))
    c.into_connection-conn.ensures.connection (record {
      done = upgrades.done;
      desk = λ told. absurd (let e = told in cc);
      unchanged = λ told. absurd (let e = told in cc);
      either = upgrades.either;
    }))

pub returns-in-Err-clause-upgrades : goal.returns-in-Err-clause-upgrades
returns-in-Err-clause-upgrades g c clean =
    let now : c.over-keep.result.connection ≡ c.upgrade_over-done.new.conn = ap (λ k. k.connection) c.over-keep.ensures.keeper in
    let upgrades = c.in-Err.ensures.upgrades (subst (λ h. HasCleanDisk (state g.S.Store h)) now clean) in
    subst (λ h. Upgrades Fault.NotADesk (state g.S.Store c.args.keep.connection) (state g.S.Store h)
    (Err c.upgrade_fault.result)) (sym now)
    (subst (λ h. Upgrades Fault.NotADesk (state g.S.Store h) (state g.S.Store c.upgrade_over-done.new.conn)
    (Err c.upgrade_fault.result)) c.into_connection-conn.ensures.connection (record {
      done = tt;
      desk = λ told. upgrades.desk (ap (λ f. Err f) (c.upgrade_fault.ensures.desk.0 (cc told)));
      unchanged = λ told. upgrades.unchanged (ap (λ f. Err f) (c.upgrade_fault.ensures.desk.0 (cc told)));
      either = upgrades.either;
    }))
