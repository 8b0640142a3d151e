use Rattle.std.proofs.Common.{arith, sym, ◌∙◌}
use Rattle.words.proofs.Decimals.{none_in_range}
use Rattle.escrow.specs.Ranges.{IsMoment}
use Rattle.web.proofs.target.moment_in.Goals as goal

pub returns-clause-none : goal.returns-clause-none
returns-clause-none c =
    none_in_range IsMoment c.args.text.now c.in_ok-number.number c.new.result (λ n range. omega (arith, range))
    (omega (arith, c.in_ok-number.ensures.range))
    (sym c.as_bytes.ensures.value ∙ c.in_ok-number.ensures.found) c.new.ensures
