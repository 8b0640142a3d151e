use Rattle.std.proofs.Common.{◌≤◌, length, subst, sym}
use Rattle.desk.specs.Desk.{desk_state}
use Rattle.desk.specs.Lists.{RunsList, StopsIn, most_together}
use Rattle.desk.proofs.ListLines.{fails_in, list_of_one}
use Rattle.desk.proofs.lists.run_list.Goals as goal

pub returns-in-Some-clause-list : goal.returns-in-Some-clause-list
returns-in-Some-clause-list g c =
    let told = c.run_batch.ensures in record {
      none_unasked = told.few.0;
      some = λ is. told.some is c.requires.some;
      batch = λ going. (_, told.kept going);
      lines = told.lines;
      stopped = λ is. subst (λ t. StopsIn t (desk_state g.K.Keep c.args.desk.now) c.args.requests.now
          (desk_state g.K.Keep c.run_batch.new.self)) (sym c.in-Some.is)
          (fails_in _ _ c.args.requests.now _ (told.failed is).2);
      stop = told.stop;
    }

pub returns-in-None-clause-list : goal.returns-in-None-clause-list
returns-in-None-clause-list g c =
    let told = c.run.ensures in
    let few = subst (λ t. length c.args.requests.now ≤ most_together t) c.in-None.is c.requires.few in
    subst (λ t. RunsList t (desk_state g.K.Keep c.args.desk.now) c.args.requests.now c.run.result
    (desk_state g.K.Keep c.run.new.self)) (sym c.in-None.is)
    (list_of_one _ _ c.args.requests.now c.run.result c.requires.some few told.goes.good told.replies told.lines
    told.all told.stop (told.accepted c.requires.going) (told.either c.requires.going))
