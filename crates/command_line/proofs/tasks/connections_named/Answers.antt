use Rattle.std.proofs.Common.{◌≡◌, ◌∙◌, arith, decimal, rules, sym}
use Rattle.std.proofs.lemmas.Fmt.{decimal_injective}
use Rattle.command_line.proofs.tasks.connections_named.Goals.{else-count-ge1-via-then-count-ge1+else-count-le-MAX_CONNECTIONS}
use Rattle.command_line.proofs.tasks.connections_named.Goals.{else-count-ge1-via-else-count-ge1}
use Rattle.command_line.proofs.tasks.connections_named.Goals as goal

pub returns-else-count-ge1-clause-taken : goal.returns-else-count-ge1-clause-taken
returns-else-count-ge1-clause-taken c count some few is =
    let spelled : c.args.word.now ≡ decimal c.in_ok-number.number = search rules in
    let same : count ≡ c.in_ok-number.number =
    decimal_injective count c.in_ok-number.number (omega (arith, few)) (omega (arith, c.in_ok-number.ensures.range))
    (sym is ∙ spelled) in
    let counted : c.in_ok-count.count ≡ c.in_ok-number.number = search rules in
    elim c.else-count-ge1.branch [
      | else-count-ge1-via-then-count-ge1+else-count-le-MAX_CONNECTIONS w ↦
          absurd (omega (arith, same, counted, few, w.if-count-le-MAX_CONNECTIONS.false))
      | else-count-ge1-via-else-count-ge1 w ↦ absurd (omega (arith, same, counted, some, w.if-count-ge1.false))
    ]
