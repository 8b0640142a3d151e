use Rattle.std.proofs.Common.{◌≡◌, ◌∙◌, ap}
use Rattle.std.proofs.lemmas.Result.{IfOk-weaker}
use Rattle.clap.specs.Words.{App, app_of, with_subcommand}
use Rattle.command_line.specs.Tasks.{article, bounds, deliveries, orders, roll, scripts, serve, sheet, upgrade, with_both}
use Rattle.command_line.proofs.commands.command.Goals as goal

abbrev files : App
files = with_subcommand (with_both scripts orders deliveries) bounds.top

pub returns : goal.returns
returns c =
    let one : app_of c.in_ok-command-2.command ≡ files =
    c.in_ok-command-2.ensures
    ∙ ap (λ (a : App). with_subcommand (with_both a orders deliveries) bounds.top) c.in_ok-command.ensures in
    let two : app_of c.in_ok-command-3.command ≡ with_both files sheet article =
    c.in_ok-command-3.ensures ∙ ap (λ (a : App). with_both a sheet article) one in
    let three : app_of c.in_ok-command-4.command ≡ with_both (with_both files sheet article) serve upgrade =
    c.in_ok-command-4.ensures ∙ ap (λ (a : App). with_both a serve upgrade) two in
    IfOk-weaker c.with.result _ _
    (λ all added.
    added roll c.roll_command.ensures.app c.roll_command.ensures.local
    ∙ ap (λ (a : App). with_subcommand a roll.top) three) c.with.ensures
