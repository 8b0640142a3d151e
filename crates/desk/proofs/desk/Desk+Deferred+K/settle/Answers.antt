use Rattle.std.proofs.Common.{◌≡◌, ◌∙◌, List, false, subst, sym, true≢false}
use Rattle.ledger.specs.Good.{Good}
use Rattle.ledger.specs.Ledger.{Ledger}
use Rattle.ledger.specs.declared.rows.Change.{Change}
use Rattle.desk.specs.Deferred.{PutsOff, PutsOffOneOf}
use Rattle.desk.specs.Desk.{IsStored, LeavesEither}
use Rattle.desk.proofs.PutOff.{err_when, lost_off, of_ok, off_alone, ok_anyway, stored_behind}
use Rattle.desk.proofs.desk.Desk+Deferred+K.settle.Goals as goal
use Rattle.desk.proofs.desk.Desk+Deferred+K.settle.Goals.{in-Ok, in-Err}

pub invariant_of-self : goal.invariant_of-self
invariant_of-self g c = record {
  good = c.self.invariant.good;
  stored = λ still honest.
      let going =
      of_ok c.settle.result _ _ c.settle.ensures.ok c.settle.ensures.err
      (λ halted. true≢false (sym halted.0 ∙ still)) in
      let kept =
      of_ok c.settle.result _ _ (c.settle.ensures.kept honest) c.settle.ensures.err
      (λ halted. true≢false (sym halted.0 ∙ still)) in
      let was = c.self.invariant.stored (sym going ∙ still) (c.settle.ensures.honest honest) in
      let new = c.settle.new.self in
      let here : PutsOff g.K.Keep new.keep new.changes was.rows =
      subst (λ (cs : List Change). PutsOff g.K.Keep new.keep cs was.rows) (sym c.settle.ensures.none)
      (kept was.rows was.held) in
      record {
        rows = was.rows;
        are_rows = was.are_rows;
        held = here;
        alone =
            off_alone g.K.Keep new.keep (λ these only. g.met.K.Keep.some_content new.keep these honest only)
            (g.met.K.Keep.among new.keep) new.changes was.rows here;
      };
}

pub returns-clause-stored : goal.returns-clause-stored
returns-clause-stored g c =
    let new = c.settle.new.self in
    let all : new.stopped ≡ false → g.K.Keep.is_honest new.keep
    → IsStored (g.K.Keep.holds new.keep) (g.K.Keep.leaves new.keep) c.self.inside.book.ledger =
    λ still honest.
    stored_behind g.K.Keep new.keep c.self.inside.book.ledger
    (subst (λ (cs : List Change).
    IsStored (PutsOff g.K.Keep new.keep cs) (PutsOffOneOf g.K.Keep new.keep cs) c.self.inside.book.ledger)
    c.settle.ensures.none ((invariant_of-self g c).stored still honest)) in
    ok_anyway c.match-settle.result _ all

pub returns-clause-either : goal.returns-clause-either
returns-clause-either g c = err_when c.match-settle.result _ (λ fault is.
    let new = c.settle.new.self in
    subst (λ d.
    d.keep.stopped ≡ false → g.K.Keep.is_honest new.keep → (A : Ledger) → Good A
    → IsStored (g.K.Keep.holds d.keep.keep) (g.K.Keep.leaves d.keep.keep) A
    → LeavesEither (g.K.Keep.leaves new.keep) A d.ledger) c.self.view_is
    (λ going honest A good was.
    let clean = c.settle.ensures.honest honest in
    let old = c.self.inside.keep in
    elim c.match-settle.branch [
      | in-Ok w ↦ absurd (cc (sym is ∙ w.result-is))
      | in-Err w ↦ lost_off g.K.Keep old.keep (λ these only. g.met.K.Keep.some_content old.keep these clean only)
          (g.met.K.Keep.among old.keep) old.changes A c.self.inside.book.ledger good c.self.invariant.good was
          (c.self.invariant.stored going clean) (g.K.Keep.leaves new.keep)
          (λ x held alone. w.in-Err.ensures.either honest going x held alone)
    ]))
