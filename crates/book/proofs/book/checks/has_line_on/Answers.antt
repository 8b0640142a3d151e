use Rattle.ledger.proofs.Prelude.{◌≡◌, Name, OpenLine, false, new_line, of_calls, on, rules, true}
use Rattle.std.proofs.lemmas.Iterator.{YieldsList-from_slice, cases_from_any}
use Rattle.ledger.proofs.Lists.{find-any}
use Rattle.book.proofs.book.checks.has_line_on.Goals as goal

pub returns : goal.returns
returns c =
    let f : Name = c.args.name.now in
    find-any (on f) new_line c.any.result c.args.lines.now
    (cases_from_any _ _ _ (λ (l : OpenLine). on f (new_line l) ≡ true) (λ (l : OpenLine). on f (new_line l) ≡ false)
    c.any.ensures.ran (YieldsList-from_slice c.args.lines.now cc) (λ x q k. search (rules, of_calls))
    (λ x q k. search (rules, of_calls)))
