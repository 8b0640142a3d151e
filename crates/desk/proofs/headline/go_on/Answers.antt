use Rattle.std.proofs.Common.{◌≡◌, ◌∙◌, ◌-◌, arith, drop, false, length, refl}
use Rattle.std.proofs.lemmas.List.{length-drop}
use Rattle.std.proofs.lemmas.Result.{IfOk-at_ok}
use Rattle.desk.proofs.headline.go_on.Goals as goal

pub returns-in-Ok-clause-resumed : goal.returns-in-Ok-clause-resumed
returns-in-Ok-clause-resumed g c honest =
    (c.in-Ok.again, c.in-Ok.is, c.resume-rest.ensures.goes.honest honest, c.resume-rest.ensures.resumed)

pub returns-in-Ok-clause-behind : goal.returns-in-Ok-clause-behind
returns-in-Ok-clause-behind g c =
    let rest = c.resume-rest.ensures in
    let rs = c.args.requests.now in
    let dropped : length (drop (c.args.first - 1) rs) ≡ length rs - (c.args.first - 1) = length-drop (c.args.first - 1) rs in
    let counted = c.requires.counted in
    let within = c.requires.within in
    let going = IfOk-at_ok (λ again. g.K.Keep.stopped again.keep ≡ false) c.in-Ok.is c.requires.going in (
      record {
        found = c.in-Ok.again.ledger;
        good_found = c.in_order.ensures.good;
        is_run = record {
          last = c.resume-rest.new.self.ledger;
          replies = rest.replies.0;
          lines = rest.replies.1;
          all = (λ all. let e = rest.all.0 all in omega arith, λ e. rest.all.1 (omega arith));
        };
        behind = refl;
        good = rest.goes.good;
        ending = record { stopped = rest.stop.stopped; going = λ other. rest.stop.going other ∙ going };
      },
      λ honest. (c.in-Ok.again, c.in-Ok.is, rest.goes.honest honest, refl),
    )
