use Rattle.std.proofs.Common.{◌≡◌, [], List, false, subst}
use Rattle.ledger.specs.declared.rows.Change.{Change}
use Rattle.desk.specs.Deferred.{PutsOff, PutsOffOneOf}
use Rattle.desk.specs.Desk.{IsStored}
use Rattle.desk.proofs.PutOff.{stored_behind}
use Rattle.desk.proofs.desk.Desk+Deferred+K.is_kept.Goals as goal

pub returns-clause-stored : goal.returns-clause-stored
returns-clause-stored g c =
    subst (λ d.
    d.keep.changes ≡ [] → d.keep.stopped ≡ false → g.K.Keep.is_honest d.keep.keep
    → IsStored (g.K.Keep.holds d.keep.keep) (g.K.Keep.leaves d.keep.keep) d.ledger) c.self.view_is
    (λ none still honest.
    let keep = c.self.inside.keep in
    stored_behind g.K.Keep keep.keep c.self.inside.book.ledger
    (subst (λ (cs : List Change).
    IsStored (PutsOff g.K.Keep keep.keep cs) (PutsOffOneOf g.K.Keep keep.keep cs) c.self.inside.book.ledger) none
    (c.self.invariant.stored still honest)))
