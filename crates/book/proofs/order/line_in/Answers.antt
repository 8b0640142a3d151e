use Rattle.ledger.proofs.Prelude.{◌≡◌, false, of_calls, on, rules, true}
use Rattle.ledger.specs.declared.order.Line.{Line}
use Rattle.std.proofs.lemmas.Iterator.{YieldsList-from_slice, first_from_find}
use Rattle.ledger.proofs.Lists.{find-first}
use Rattle.book.proofs.order.line_in.Goals as goal

pub returns : goal.returns
returns c =
    find-first (on c.args.name.now) c.find.result c.args.lines.now
    (first_from_find _ _ _ (λ (l : Line). on c.args.name.now l ≡ true) (λ (l : Line). on c.args.name.now l ≡ false)
    c.find.ensures.ran (YieldsList-from_slice c.args.lines.now cc) (λ x q k. search (rules, of_calls))
    (λ x q k. search (rules, of_calls)))
