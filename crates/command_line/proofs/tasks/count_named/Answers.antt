use Rattle.std.proofs.Common.{◌≡◌, ◌≤◌, ◌∙◌, arith, decimal, rules, sym}
use Rattle.std.proofs.lemmas.Fmt.{decimal_injective}
use Rattle.command_line.proofs.tasks.count_named.Goals as goal

pub returns-then-count-most-clause-taken : goal.returns-then-count-most-clause-taken
returns-then-count-most-clause-taken c count some few is =
    let spelled : c.args.word.now ≡ decimal c.in_ok-number.number = search rules in
    let same : count ≡ c.in_ok-number.number =
    decimal_injective count c.in_ok-number.number (omega (arith, few)) (omega (arith, c.in_ok-number.ensures.range))
    (sym is ∙ spelled) in
    let counted : c.in_ok-count.count ≡ c.in_ok-number.number = search rules in
    let positive : 1 ≤ c.in_ok-count.count = omega (arith, same, counted, some) in
    search rules

pub returns-else-count-most-clause-taken : goal.returns-else-count-most-clause-taken
returns-else-count-most-clause-taken c count some few is =
    let spelled : c.args.word.now ≡ decimal c.in_ok-number.number = search rules in
    let same : count ≡ c.in_ok-number.number =
    decimal_injective count c.in_ok-number.number (omega (arith, few)) (omega (arith, c.in_ok-number.ensures.range))
    (sym is ∙ spelled) in
    let counted : c.in_ok-count.count ≡ c.in_ok-number.number = search rules in
    absurd (omega (arith, same, counted, few, c.if-count-most.false))
