use Rattle.ledger.proofs.Prelude.{arith, rows_among, subst, sym, ◌≡◌, ◌≤◌}
use Rattle.ledger.specs.declared.limits.TheConstants.{MAX_PLACES}
use Rattle.book.proofs.Among.{appended}
use Rattle.ledger.proofs.Lists.{length-insert}
use Rattle.book.proofs.NextRows.{changes_to, place_fits, rows_made}
use Rattle.book.proofs.book.Book.changes_of.Goals as goal

pub desk_row-requires : goal.desk_row-requires
desk_row-requires c =
    subst (λ n. n ≤ MAX_PLACES) (sym c.requires.makes.place)
    (place_fits c.args.self.now.ledger c.args.request.now c.requires.accepts.after)

pub kept_row-requires : goal.kept_row-requires
kept_row-requires c =
    subst (λ n. n ≤ MAX_PLACES) (sym c.requires.makes.place)
    (place_fits c.args.self.now.ledger c.args.request.now c.requires.accepts.after)

pub returns-clause-changes : goal.returns-clause-changes
returns-clause-changes c =
    let A = c.args.self.now.ledger in let a = c.requires.accepts in let r = c.args.request.now in
    let made : rows_among c.push-2.new.self.items ≡ rows_made A r = grind (arith, appended, length-insert) in
    changes_to A r (rows_among c.push-2.new.self.items) a.before a.key a.range a.accepted made

pub returns-clause-fields : goal.returns-clause-fields
returns-clause-fields c = grind (arith, appended)
