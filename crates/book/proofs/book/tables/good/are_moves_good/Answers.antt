use Rattle.book.proofs.Prelude.{IsMoveByItself, move_of}
use Rattle.ledger.proofs.Prelude.{of_calls, rules}
use Rattle.std.proofs.lemmas.Iterator.{YieldsList-from_slice, cases_from_all}
use Rattle.ledger.proofs.Lists.{each-tested}
use Rattle.book.proofs.book.tables.good.are_moves_good.Goals as goal

pub returns : goal.returns
returns c =
    each-tested (IsMoveByItself c.args.places) move_of c.all.result c.args.moves.now
    (cases_from_all _ _ _ (λ e. IsMoveByItself c.args.places (move_of e))
    (λ e. IsMoveByItself c.args.places (move_of e) → ⊥)
    c.all.ensures.ran (YieldsList-from_slice c.args.moves.now cc) (λ x q k. search (rules, of_calls))
    (λ x q k. search (rules, of_calls)))
