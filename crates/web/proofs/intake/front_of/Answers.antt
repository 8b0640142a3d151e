use Rattle.std.proofs.Common.{◌≡◌, ◌∙◌, ap, arith, length, min, take, ℕ}
use Rattle.std.proofs.lemmas.List.{take_min}
use Rattle.web.specs.Messages.{longest_head}
use Rattle.web.proofs.intake.front_of.Goals as goal

pub returns : goal.returns
returns c =
    let least : c.min.result ≡ min longest_head (length c.args.held.now) = omega (arith, c.min.ensures) in
    ap (λ (n : ℕ). take n c.args.held.now) least ∙ take_min longest_head c.args.held.now
