use Rattle.std.proofs.Common.{◌∙◌, ◌≡◌, IsSomeAnd, None, arith, subst, sym}
use Rattle.book.specs.Views.{ShowsOrder, open_from}
use Rattle.escrow.specs.Ranges.{IsOrderNo}
use Rattle.web.proofs.OrderLists.{first_left, is_last, none_beyond, none_left}
use Rattle.web.proofs.orders.next_open.Goals as goal

pub returns-in_default : goal.returns-in_default
returns-in_default c =
    none_beyond c.args.book.now.ledger c.args.floor c.requires
    (is_last c.args.floor (λ is. c.in_default.ensures (omega (arith, is.1))))

pub returns-in_default-new : goal.returns-in_default-new
returns-in_default-new c =
    none_beyond c.args.book.now.ledger c.args.floor c.requires
    (is_last c.args.floor (λ is. c.in_default-new.ensures (subst IsOrderNo (sym c.in-Some.ensures.1) is)))

pub returns-in-Some-open_from : goal.returns-in-Some-open_from
returns-in-Some-open_from c =
    first_left c.args.book.now.ledger c.args.floor c.in-Some-open_from.first c.requires
    (subst (λ n. IsSomeAnd (open_from c.args.book.now.ledger n) (λ o. ShowsOrder o c.in-Some-open_from.first))
    (c.in-Some-new.ensures.1 ∙ c.in-Some.ensures.1) c.in-Some-open_from.ensures)

pub returns-in-None : goal.returns-in-None
returns-in-None c =
    none_left c.args.book.now.ledger c.args.floor
    (subst (λ n. open_from c.args.book.now.ledger n ≡ None) (c.in-Some-new.ensures.1 ∙ c.in-Some.ensures.1) c.in-None.ensures)
