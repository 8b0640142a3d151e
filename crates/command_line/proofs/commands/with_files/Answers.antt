use Rattle.std.proofs.Common.{◌≡◌, ◌∙◌, ap}
use Rattle.std.proofs.lemmas.Result.{IfOk-weaker}
use Rattle.clap.specs.Words.{App, app_of, with_subcommand}
use Rattle.command_line.specs.Tasks.{bounds, deliveries, orders, with_both}
use Rattle.command_line.proofs.commands.with_files.Goals as goal

pub returns : goal.returns
returns c =
    let one : app_of c.in_ok-command.command ≡ with_subcommand (app_of c.args.command) orders.top =
    c.in_ok-command.ensures orders c.requests_command.ensures.app c.requests_command.ensures.local in
    let two : app_of c.in_ok-command-2.command ≡ with_both (app_of c.args.command) orders deliveries =
    c.in_ok-command-2.ensures deliveries c.requests_command-2.ensures.app c.requests_command-2.ensures.local
    ∙ ap (λ (a : App). with_subcommand a deliveries.top) one in
    IfOk-weaker c.with-3.result _ _
    (λ all added.
    added bounds c.requests_command-3.ensures.app c.requests_command-3.ensures.local
    ∙ ap (λ (a : App). with_subcommand a bounds.top) two) c.with-3.ensures
