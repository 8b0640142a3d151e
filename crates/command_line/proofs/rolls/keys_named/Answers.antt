use Rattle.std.proofs.Common.{◌≡◌, ◌∙◌, arith, decimal, rules, sym}
use Rattle.std.proofs.lemmas.Fmt.{decimal_injective}
use Rattle.command_line.proofs.rolls.keys_named.Goals as goal

pub returns-else-keys-le-MAX_KEYS-clause-taken : goal.returns-else-keys-le-MAX_KEYS-clause-taken
returns-else-keys-le-MAX_KEYS-clause-taken c keys few is =
    let spelled : c.args.word.now ≡ decimal c.in_ok-number.number = search rules in
    let same : keys ≡ c.in_ok-number.number =
    decimal_injective keys c.in_ok-number.number (omega (arith, few)) (omega (arith, c.in_ok-number.ensures.range))
    (sym is ∙ spelled) in
    let asked : c.in_ok-keys.keys ≡ c.in_ok-number.number = search rules in
    absurd (omega (arith, same, asked, few, c.if-keys-le-MAX_KEYS.false))
