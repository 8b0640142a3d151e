use Rattle.ledger.proofs.Prelude.{◌≤◌, IsLevel, of_calls, rules}
use Rattle.ledger.specs.declared.order.Line.{Line}
use Rattle.std.proofs.lemmas.Iterator.{YieldsList-from_slice, cases_from_all}
use Rattle.ledger.proofs.Lists.{tested}
use Rattle.book.proofs.book.tables.good.are_lines_good.Goals as goal

pub returns : goal.returns
returns c =
    tested _ c.all.result c.args.lines.now
    (cases_from_all _ _ _ (λ (l : Line). IsLevel l.held × (l.used ≤ l.held))
    (λ (l : Line). IsLevel l.held × (l.used ≤ l.held) → ⊥)
    c.all.ensures.ran (YieldsList-from_slice c.args.lines.now cc) (λ x q k. search (rules, of_calls))
    (λ x q k. search (rules, of_calls)))
