use Rattle.std.proofs.Common.{◌≡◌, ◌∙◌, ap, rules}
use Rattle.std.proofs.lemmas.Result.{IfOk-weaker}
use Rattle.clap.specs.Words.{Rule, app_of, rule_of, with_rule}
use Rattle.command_line.specs.Tasks.{option}
use Rattle.command_line.proofs.commands.with_option.Goals as goal

pub returns-clause-app : goal.returns-clause-app
returns-clause-app c =
    let number : rule_of c.action-number.result ≡ option c.args.required c.args.name.now = search rules in
    IfOk-weaker c.arg.result _ _
    (λ added it. it.shape (search rules) ∙ ap (λ (r : Rule). with_rule (app_of c.args.command) r) number)
    c.arg.ensures
