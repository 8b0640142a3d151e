use Rattle.std.proofs.Common.{◌≡◌, ◌∙◌, ap₂, rules}
use Rattle.std.proofs.lemmas.Result.{IfOk-weaker}
use Rattle.clap.specs.Words.{rule_of, with_rule}
use Rattle.command_line.specs.Tasks.{needed}
use Rattle.command_line.proofs.commands.file_command.Goals as goal

pub returns-clause-app : goal.returns-clause-app
returns-clause-app c =
    let second : rule_of c.action-more.result ≡ needed c.args.second.now = search rules in
    IfOk-weaker c.arg.result _ _
    (λ added it. it.shape (search rules) ∙ ap₂ with_rule c.in_ok-command.ensures.app second) c.arg.ensures
