use Rattle.std.proofs.Common.{◌≡◌, ◌∙◌, ap, ap₂, codes, rules}
use Rattle.std.proofs.lemmas.Result.{IfOk-weaker}
use Rattle.clap.specs.Words.{rule_of, with_rule}
use Rattle.clap.specs.Simple.{app_of_fields}
use Rattle.command_line.specs.Tasks.{needed}
use Rattle.command_line.proofs.commands.path_command.Goals as goal

pub returns-clause-app : goal.returns-clause-app
returns-clause-app c =
    let taken : rule_of c.action-file.result ≡ needed (codes "FILE") = search rules in
    IfOk-weaker c.arg.result _ _
    (λ added it.
    it.shape (search rules) ∙ ap₂ with_rule (ap app_of_fields c.about.ensures ∙ c.new-2.ensures.app) taken)
    c.arg.ensures
