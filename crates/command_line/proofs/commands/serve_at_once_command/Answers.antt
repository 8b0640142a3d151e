use Rattle.std.proofs.Common.{◌∙◌, ap, codes, false}
use Rattle.std.proofs.lemmas.Result.{IfOk-weaker}
use Rattle.clap.specs.Words.{App, with_rule}
use Rattle.command_line.specs.Tasks.{option}
use Rattle.command_line.proofs.commands.serve_at_once_command.Goals as goal

pub returns-clause-app : goal.returns-clause-app
returns-clause-app c =
    let one =
    c.in_ok-command-2.ensures.app
    ∙ ap (λ (a : App). with_rule a (option false (codes "together"))) c.in_ok-command.ensures.app in
    IfOk-weaker c.with_option-2.result _ _
    (λ added it. it ∙ ap (λ (a : App). with_rule a (option false (codes "clients"))) one)
    c.with_option-2.ensures.app
