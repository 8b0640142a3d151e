use Rattle.std.proofs.Common.{inr, refl}
use Rattle.std.proofs.lemmas.Result.{err_from_is_err_and}
use Rattle.stockdesk.proofs.requests.answer_requests.Goals as goal

pub returns-in_err-answer_lists-clause-cut : goal.returns-in_err-answer_lists-clause-cut
returns-in_err-answer_lists-clause-cut g c =
    let p = err_from_is_err_and c.from_residual.result c.from_residual.ensures.1 in
    rw p.1 (inr (_, refl, (_, p.2, c.in_err-answer_lists.ensures.cut)))
