use Rattle.std.proofs.Common.{◌∙◌}
use Rattle.std.proofs.lemmas.Result.{IfOk-weaker}
use Rattle.web.proofs.OrderObject.{shown_has_no_float, shown_text}
use Rattle.web.proofs.objects.order_json.Goals as goal

pub returns : goal.returns
returns c = λ order h. IfOk-weaker c.to_vec.result _ _
    (λ text e.
    e (shown_has_no_float c.args.view.now _ c.in_ok-order_value.ensures)
    ∙ shown_text order c.args.view.now _ c.in_ok-order_value.ensures h)
    c.to_vec.ensures.text
