use Rattle.std.proofs.Common.{◌∙◌, IfSome, List, Option, ap, map, rules, subst}
use Rattle.clap.specs.Words.{Row, Text, is_simple, subcommand_of, takes}
use Rattle.command_line.specs.Tasks.{Asks}
use Rattle.command_line.specs.declared.tasks.Task.TheVariants.{InMemory}
use Rattle.command_line.proofs.TaskWords.{is_given, is_in_memory, is_ours, run_found, words_give}
use Rattle.command_line.proofs.tasks.read_task.Goals as goal

pub returns-in_err-command-clause-given : goal.returns-in_err-command-clause-given
returns-in_err-command-clause-given c task is = (words_give task _ is).0

pub returns-in_err-matches-clause-given : goal.returns-in_err-matches-clause-given
returns-in_err-matches-clause-given c task is = (words_give task _ is).0

pub returns-clause-given : goal.returns-clause-given
returns-clause-given c task is = (words_give task _ is).0

pub returns-in_err-matches-clause-taken : goal.returns-in_err-matches-clause-taken
returns-in_err-matches-clause-taken c ours =
    let texts : List Text = map (λ s. s.now) c.args.words.now in
    let error = c.in_err-matches.ensures.passes (ap (λ app. takes app texts) c.in_ok-command.ensures ∙ ours) in
    search rules

pub returns-in_err-matches-clause-written : goal.returns-in_err-matches-clause-written
returns-in_err-matches-clause-written c task is =
    let texts : List Text = map (λ s. s.now) c.args.words.now in
    let error =
    c.in_err-matches.ensures.passes
    (ap (λ app. takes app texts) c.in_ok-command.ensures ∙ (words_give task texts is).1) in
    search rules

pub returns-clause-asked : goal.returns-clause-asked
returns-clause-asked c task is =
    let ours = c.in_ok-command.ensures in
    let texts : List Text = map (λ s. s.now) c.args.words.now in
    let matches = c.in_ok-matches.ensures.matches (ap is_simple ours ∙ is_ours) in
    let given = words_give task texts is in
    let (name, rows, found, asks) = given.0 in
    is_given name rows task _
    (c.task_of.ensures.taken name rows (matches.1 ∙ ap (λ app. subcommand_of app texts) ours ∙ found)) asks is.2

pub returns-clause-run : goal.returns-clause-run
returns-clause-run c is =
    let ours = c.in_ok-command.ensures in
    let texts : List Text = map (λ s. s.now) c.args.words.now in
    let matches = c.in_ok-matches.ensures.matches (ap is_simple ours ∙ is_ours) in
    let given = words_give InMemory texts is in
    let (name, rows, found, asks) = given.0 in
    is_in_memory c.task_of.result
    (is_given name rows InMemory _
    (c.task_of.ensures.taken name rows (matches.1 ∙ ap (λ app. subcommand_of app texts) ours ∙ found)) asks tt)
    (subst (λ (found : Option (Text × List Row)). IfSome c.task_of.result (Asks found))
    (matches.1 ∙ ap (λ app. subcommand_of app texts) ours ∙ run_found texts is) c.task_of.ensures.asked)

pub returns-clause-asks : goal.returns-clause-asks
returns-clause-asks c =
    let ours = c.in_ok-command.ensures in
    let texts : List Text = map (λ s. s.now) c.args.words.now in
    let matches = c.in_ok-matches.ensures.matches (ap is_simple ours ∙ is_ours) in
    subst (λ (found : Option (Text × List Row)). IfSome c.task_of.result (Asks found))
    (matches.1 ∙ ap (λ app. subcommand_of app texts) ours) c.task_of.ensures.asked
