use Rattle.std.proofs.Common.{◌≡◌, ◌∙◌, ap}
use Rattle.std.proofs.lemmas.Result.{IfOk-weaker}
use Rattle.clap.specs.Words.{App, app_of, with_subcommand}
use Rattle.command_line.specs.Tasks.{serve, upgrade}
use Rattle.command_line.proofs.commands.with_service.Goals as goal

pub returns : goal.returns
returns c =
    let one : app_of c.in_ok-command.command ≡ with_subcommand (app_of c.args.command) serve.top =
    c.in_ok-command.ensures serve c.serve_command.ensures.app c.serve_command.ensures.local in
    IfOk-weaker c.with-2.result _ _
    (λ both added.
    added upgrade c.path_command.ensures.app c.path_command.ensures.local
    ∙ ap (λ (a : App). with_subcommand a upgrade.top) one) c.with-2.ensures
