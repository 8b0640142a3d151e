use Rattle.book.proofs.Prelude.{BookView, IsUpToDate, ledger_of}
use Rattle.ledger.proofs.Prelude.{Good, get_or_from_slice_get, slice_get_within, subst, sym}
use Rattle.book.proofs.ShownNumbers.{slice_get-fields}
use Rattle.ledger.proofs.Lists.{each-at}
use Rattle.book.proofs.book.Book.field_at.Goals as goal

pub returns-clause-found : goal.returns-clause-found
returns-clause-found c =
    let entries = c.self.inside.fields.entries in
    let x = c.in_ok-entry.entry.now in
    let read = sym c.in_ok-entry.ensures in
    let up =
    each-at (IsUpToDate (ledger_of c.self.inside)) entries c.args.index x
    (slice_get_within entries c.args.index x read) (sym (get_or_from_slice_get entries c.args.index x x read))
    c.self.invariant.1 in
    rw (slice_get-fields c.self.inside c.args.self.now c.args.index x c.self.view_is c.in_ok-entry.ensures)
    (c.show-view.ensures c.args.self.now.ledger
    (subst (λ (v : BookView). Good v.ledger) c.self.view_is c.self.invariant.0)
    (subst (λ (v : BookView). IsUpToDate v.ledger x) c.self.view_is up))
