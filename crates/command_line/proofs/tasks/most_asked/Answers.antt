use Rattle.std.proofs.Common.{Bor, List, Option, Some, option_map, refl, subst, sym, ℕ}
use Rattle.command_line.specs.Tasks.{AsksAtMost}
use Rattle.command_line.proofs.tasks.most_asked.Goals as goal

pub returns-in_ok-count_named-in-Some-clause-named : goal.returns-in_ok-count_named-in-Some-clause-named
returns-in_ok-count_named-in-Some-clause-named c =
    let most = c.in_ok-count_named-in-Some.field-0 in
    let (are, few) = c.in_ok-count_named-in-Some.ensures.named in
    subst (λ (word : Option (Bor (List ℕ))). AsksAtMost c.args.limit (option_map (λ s. s.now) word) (Some most))
    (sym c.in-Some.is) (most, refl, are, few)
