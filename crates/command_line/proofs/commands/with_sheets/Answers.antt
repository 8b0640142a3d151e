use Rattle.std.proofs.Common.{◌≡◌, ◌∙◌, ap}
use Rattle.std.proofs.lemmas.Result.{IfOk-weaker}
use Rattle.clap.specs.Words.{App, app_of, with_subcommand}
use Rattle.command_line.specs.Tasks.{article, sheet}
use Rattle.command_line.proofs.commands.with_sheets.Goals as goal

pub returns : goal.returns
returns c =
    let one : app_of c.in_ok-command.command ≡ with_subcommand (app_of c.args.command) sheet.top =
    c.in_ok-command.ensures sheet c.file_command.ensures.app c.file_command.ensures.local in
    IfOk-weaker c.with-2.result _ _
    (λ both added.
    added article c.file_command-2.ensures.app c.file_command-2.ensures.local
    ∙ ap (λ (a : App). with_subcommand a article.top) one) c.with-2.ensures
