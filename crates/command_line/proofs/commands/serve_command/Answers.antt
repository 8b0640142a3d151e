use Rattle.std.proofs.Common.{◌∙◌, ap, codes, false}
use Rattle.std.proofs.lemmas.Result.{IfOk-weaker}
use Rattle.clap.specs.Words.{App, with_rule}
use Rattle.command_line.specs.Tasks.{option}
use Rattle.command_line.proofs.commands.serve_command.Goals as goal

pub returns-clause-app : goal.returns-clause-app
returns-clause-app c =
    IfOk-weaker c.with_option.result _ _
    (λ added it. it ∙ ap (λ (a : App). with_rule a (option false (codes "places"))) c.in_ok-command.ensures.app)
    c.with_option.ensures.app
