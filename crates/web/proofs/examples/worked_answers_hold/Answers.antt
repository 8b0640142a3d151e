use Rattle.std.proofs.Common.{refl}
use Rattle.std.specs.Fmt.{digits}
use Rattle.serde_json.proofs.OnLiterals.{serde_json_on_literals}
use Rattle.web.proofs.examples.worked_answers_hold.Goals as goal

pub returns : goal.returns
unfolding serde_json_on_literals digits
returns c = record {
  none = refl;
  message = refl;
  stopped = refl;
  memory = refl;
  bad = refl;
  done = refl;
  refused = refl;
  field = refl;
  order = refl;
  promised = refl;
  moved = refl;
  bare = refl;
  desk = refl;
  listed = refl;
  none_open = refl;
  none_due = refl;
  one_due = refl;
  branches = refl;
  kept = refl;
  text = refl;
}
