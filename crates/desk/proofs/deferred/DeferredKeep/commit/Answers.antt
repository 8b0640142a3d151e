use Rattle.std.proofs.Common.{◌≡◌, [], ◌∷◌, List, false, subst, sym}
use Rattle.ledger.specs.Rows.{Content}
use Rattle.ledger.specs.declared.rows.Change.{Change}
use Rattle.desk.specs.Deferred.{PutsOff, PutsOffOneOf}
use Rattle.keep.specs.Content.{with_changes}
use Rattle.desk.proofs.PutOff.{off_alone, off_either, off_still}
use Rattle.desk.proofs.deferred.DeferredKeep.commit.Goals as goal

pub returns-in-Ok-clause-alone : goal.returns-in-Ok-clause-alone
returns-in-Ok-clause-alone g c = λ honest x h.
    let keep = c.self.inside.keep in
    off_alone g.K.Keep keep (λ these only. g.met.K.Keep.some_content keep these honest only) (g.met.K.Keep.among keep)
    c.put_off.new.kept.items x h

pub returns-in-Ok-clause-either : goal.returns-in-Ok-clause-either
returns-in-Ok-clause-either g c =
    let here = c.self.inside in
    subst (λ d. g.K.Keep.is_honest here.keep → d.stopped ≡ false → (x : Content) → PutsOff g.K.Keep d.keep d.changes x
    → PutsOffOneOf g.K.Keep d.keep d.changes (x ∷ [])
    → PutsOffOneOf g.K.Keep here.keep c.put_off.new.kept.items (x ∷ with_changes c.args.changes.now x ∷ [])) c.self.view_is
    (λ honest going x h only.
    off_either g.K.Keep here.keep here.changes.items c.args.changes.now c.put_off.new.kept.items c.in-Ok.ensures.put x h only)

pub returns-in-Err-clause-either : goal.returns-in-Err-clause-either
returns-in-Err-clause-either g c =
    let here = c.self.inside in
    subst (λ d. g.K.Keep.is_honest here.keep → d.stopped ≡ false → (x : Content) → PutsOff g.K.Keep d.keep d.changes x
    → PutsOffOneOf g.K.Keep d.keep d.changes (x ∷ [])
    → PutsOffOneOf g.K.Keep here.keep c.put_off.new.kept.items (x ∷ with_changes c.args.changes.now x ∷ [])) c.self.view_is
    (λ honest going x h only.
    subst (λ (cs : List Change). PutsOffOneOf g.K.Keep here.keep cs (x ∷ with_changes c.args.changes.now x ∷ []))
    (sym c.in-Err.ensures.none)
    (off_still g.K.Keep here.keep here.changes.items c.args.changes.now x h only))
