use Rattle.std.proofs.Common.{◌≡◌, ◌∙◌, None, Option, Some, ap, codes, option_map, rules, subst, sym}
use Rattle.clap.specs.Words.{Text, first_of, found_of, rows_of}
use Rattle.command_line.specs.Tasks.{IsAtOnce}
use Rattle.command_line.proofs.tasks.serving_found.Goals as goal

pub returns-in_err-service-clause-taken : goal.returns-in_err-service-clause-taken
returns-in_err-service-clause-taken c = record {
  in_turn = λ service alone nobody no_end asked. let some = c.in_err-service.ensures.taken service asked in search rules;
  at_once = λ together service at_once found numbers few many places asked.
      let some = c.in_err-service.ensures.taken service asked in search rules;
}

pub returns-in_err-at_once-in-Some-clause-taken : goal.returns-in_err-at_once-in-Some-clause-taken
returns-in_err-at_once-in-Some-clause-taken c =
    let read = sym (ap (option_map (λ s. s.now)) c.in-Some.is) ∙ c.word.ensures in
    record {
      in_turn = λ service alone nobody no_end asked.
          let bad : Some c.in-Some.together.now ≡ None = read ∙ alone in absurd (cc bad);
      at_once = λ together service at_once found numbers few many places asked.
          let both : Some c.in-Some.together.now ≡ Some together = read ∙ found in
          let same : together ≡ c.in-Some.together.now = cc both in
          let with_clients =
          subst (λ (clients : Option Text).
          IsAtOnce together clients (first_of (codes "places") (rows_of (found_of c.args.found.now))) at_once)
          (sym c.word-clients.ensures) numbers in
          let with_places =
          subst (λ (places : Option Text). IsAtOnce together (option_map (λ s. s.now) c.word-clients.result) places at_once)
          (sym c.word-places.ensures) with_clients in
          let these =
          subst (λ (word : Text).
          IsAtOnce word (option_map (λ s. s.now) c.word-clients.result) (option_map (λ s. s.now) c.word-places.result) at_once)
          same with_places in
          let some = c.in_err-at_once-in-Some.ensures.taken at_once these few many places in search rules;
    }
