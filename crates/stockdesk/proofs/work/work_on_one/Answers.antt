use Rattle.std.proofs.KnownBytes.{Keeps-refl}
use Rattle.std.proofs.lemmas.Result.{IfErr-at_err}
use Rattle.desk.proofs.Faults.{of_error}
use Rattle.stockdesk.proofs.work.work_on_one.Goals as goal

pub returns-in-Requests-clause-cut : goal.returns-in-Requests-clause-cut
returns-in-Requests-clause-cut g c =
    rw c.in-Requests.is (of_error c.answer_file.result _ _
    (λ fault is cut. (Keeps-refl _, cut, IfErr-at_err _ is c.answer_file.ensures.unread)) c.answer_file.ensures.cut)
