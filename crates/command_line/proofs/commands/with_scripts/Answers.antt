use Rattle.std.proofs.Common.{◌≡◌, ◌∙◌, ap, codes, true}
use Rattle.std.proofs.lemmas.Result.{IfOk-weaker}
use Rattle.clap.specs.Words.{App, app_of, new_app, with_subcommand}
use Rattle.clap.specs.Simple.{app_of_fields}
use Rattle.command_line.specs.Tasks.{init, run}
use Rattle.command_line.proofs.commands.with_scripts.Goals as goal

abbrev with_required_subcommand : App → App
with_required_subcommand a = record a { top = record a.top { subcommand_required = true } }

pub returns : goal.returns
returns c =
    let named : app_of c.subcommand_required-program.result ≡ with_required_subcommand (new_app (codes "stockdesk")) =
    ap app_of_fields c.subcommand_required-program.ensures
    ∙ ap with_required_subcommand (ap app_of_fields c.about.ensures ∙ c.new.ensures.app) in
    let one : app_of c.in_ok-program.program ≡ with_subcommand (with_required_subcommand (new_app (codes "stockdesk"))) init.top =
    c.in_ok-program.ensures init c.path_command-init.ensures.app c.path_command-init.ensures.local
    ∙ ap (λ (a : App). with_subcommand a init.top) named in
    IfOk-weaker c.with-2.result _ _
    (λ both added.
    added run c.run_command.ensures.app c.run_command.ensures.local
    ∙ ap (λ (a : App). with_subcommand a run.top) one) c.with-2.ensures
