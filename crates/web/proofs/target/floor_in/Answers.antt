use Rattle.std.proofs.Common.{None, arith, sym, ◌∙◌}
use Rattle.words.proofs.Decimals.{none_in_range}
use Rattle.web.specs.Asks.{IsFloor}
use Rattle.web.proofs.target.floor_in.Goals as goal

pub returns-else-number-le-MAX_ORDER_NO-clause-none : goal.returns-else-number-le-MAX_ORDER_NO-clause-none
returns-else-number-le-MAX_ORDER_NO-clause-none c =
    none_in_range IsFloor c.args.text.now c.in_ok-number.number None (λ n range. omega (arith, range))
    (omega (arith, c.in_ok-number.ensures.range))
    (sym c.as_bytes.ensures.value ∙ c.in_ok-number.ensures.found) (λ is. omega (arith, is, c.if-number-le-MAX_ORDER_NO.false))
