use Rattle.std.proofs.Common.{◌≡◌, ◌<◌, ◌∙◌, arith, decimal, rules, sym}
use Rattle.std.proofs.lemmas.Fmt.{decimal_injective}
use Rattle.command_line.proofs.tasks.port_named.Goals as goal

pub returns-clause-taken : goal.returns-clause-taken
returns-clause-taken c count few is =
    let spelled : c.args.word.now ≡ decimal c.in_ok-number.number = search rules in
    let same : count ≡ c.in_ok-number.number =
    decimal_injective count c.in_ok-number.number (omega (arith, few)) (omega (arith, c.in_ok-number.ensures.range))
    (sym is ∙ spelled) in
    let fits : c.in_ok-number.number < 65536 = omega (arith, same, few) in
    search rules
