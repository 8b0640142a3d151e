use Rattle.std.proofs.Common.{refl}
use Rattle.web.specs.Answers.{json_answer}
use Rattle.web.specs.Objects.{branches_object}
use Rattle.web.proofs.views.show_branches.Goals as goal

pub returns : goal.returns
returns c =
    let branches = c.in_ok-branches.branches.items in (
      json_answer 200 (branches_object branches),
      (branches, c.in_ok-branches.ensures, refl),
      rw c.deref.ensures.value at c.in_ok-branches_answer.ensures,
    )
