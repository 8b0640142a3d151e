use Rattle.ledger.proofs.Prelude.{◌≡◌, Bool, Move, always_returns_same, nat_cmp, nat_cmp_total, nat_lt, of_calls, rules}
use Rattle.book.proofs.Prelude.{MoveEntry, move_of}
use Rattle.ledger.proofs.InRow.{in_order}
use Rattle.ledger.proofs.Lists.{lt_is}
use Rattle.book.proofs.book.tables.good.are_moves_in_order.Goals as goal

abbrev before : MoveEntry → MoveEntry → Bool
before one other = nat_lt one.place other.place

pub returns : goal.returns
returns c =
    in_order nat_cmp nat_cmp_total (λ (m : Move). m.place) move_of before (λ x y. lt_is x.place y.place)
    c.args.moves.now c.is_sorted_by.result
    (c.is_sorted_by.ensures.cases before
    (always_returns_same _ (λ a r. r ≡ before a.0.now a.1.0.now) _ (λ a r f k. search (rules, of_calls))))
