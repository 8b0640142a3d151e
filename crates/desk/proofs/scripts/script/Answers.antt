use Rattle.std.proofs.Common.{Ok}
use Rattle.ledger.proofs.TestResults.{passed_up}
use Rattle.desk.proofs.Faults.{never_ok}
use Rattle.desk.proofs.LineAnswers.{script_tells}
use Rattle.desk.proofs.SomeText.{script_begins}
use Rattle.desk.proofs.scripts.script.Goals as goal

pub returns-in_err-converse-clause-begins : goal.returns-in_err-converse-clause-begins
returns-in_err-converse-clause-begins g c =
    passed_up c.from_residual.result c.in_err-converse.field-0.0 _ c.from_residual.ensures.1
    (script_begins _ _ _ _ c.in_order.ensures.good c.in_err-converse.ensures.cut)

pub returns-in_err-converse-clause-stop : goal.returns-in_err-converse-clause-stop
returns-in_err-converse-clause-stop g c =
    script_tells c.from_residual.result _ _ _ (never_ok c.from_residual.result _ c.from_residual.ensures.0)
    (passed_up c.from_residual.result c.in_err-converse.field-0.0 _ c.from_residual.ensures.1
    c.in_err-converse.ensures.cut)

pub returns-clause-stop : goal.returns-clause-stop
returns-clause-stop g c = script_tells (Ok tt) _ _ _ c.in_ok-converse.ensures.whole.0 tt
