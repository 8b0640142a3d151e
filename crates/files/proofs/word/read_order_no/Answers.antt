use Rattle.std.proofs.Common.{arith}
use Rattle.escrow.specs.Ranges.{IsOrderNo}
use Rattle.words.proofs.Decimals.{none_in_range}
use Rattle.files.proofs.word.read_order_no.Goals as goal

pub returns-clause-none : goal.returns-clause-none
returns-clause-none c =
    none_in_range IsOrderNo _ _ _ (λ n h. omega (arith, h)) (omega (arith, c.in_ok-number.ensures.range))
    c.in_ok-number.ensures.found c.new.ensures
