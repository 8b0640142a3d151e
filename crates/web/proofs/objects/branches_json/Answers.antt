use Rattle.std.proofs.Common.{◌∙◌, ap}
use Rattle.std.proofs.lemmas.Result.{IfOk-weaker}
use Rattle.serde_json.specs.Written.{compact_text}
use Rattle.web.proofs.BranchesObject.{branches_have_no_float}
use Rattle.web.proofs.objects.branches_json.Goals as goal

pub returns : goal.returns
returns c = IfOk-weaker c.to_vec.result _ _
    (λ text e.
    e (branches_have_no_float c.args.branches.now _ c.in_ok-branches_value.ensures)
    ∙ ap compact_text c.in_ok-branches_value.ensures)
    c.to_vec.ensures.text
