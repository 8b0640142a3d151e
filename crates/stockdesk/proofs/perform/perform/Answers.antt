use Rattle.std.proofs.KnownBytes.{Keeps-refl}
use Rattle.std.proofs.lemmas.Result.{IfErr-weaker}
use Rattle.clap.proofs.BuiltLemmas.{on_ok_always}
use Rattle.stockdesk.proofs.SessionParts.{on_err}
use Rattle.stockdesk.proofs.perform.perform.Goals as goal

pub returns-in-Init-clause-whole : goal.returns-in-Init-clause-whole
returns-in-Init-clause-whole g c = rw c.in-Init.is (on_ok_always c.init.result (Keeps-refl _, Keeps-refl _))

pub returns-in-Init-clause-beginning : goal.returns-in-Init-clause-beginning
returns-in-Init-clause-beginning g c = rw c.in-Init.is (on_err c.init.result (Keeps-refl _, Keeps-refl _))

pub returns-in-Init-clause-untouched : goal.returns-in-Init-clause-untouched
returns-in-Init-clause-untouched g c =
    IfErr-weaker c.init.result _ _ (λ fault told un. (Keeps-refl _, Keeps-refl _)) c.init.ensures

pub returns-in-Upgrade-clause-whole : goal.returns-in-Upgrade-clause-whole
returns-in-Upgrade-clause-whole g c = rw c.in-Upgrade.is (on_ok_always c.upgrade.result (Keeps-refl _, Keeps-refl _))

pub returns-in-Upgrade-clause-beginning : goal.returns-in-Upgrade-clause-beginning
returns-in-Upgrade-clause-beginning g c = rw c.in-Upgrade.is (on_err c.upgrade.result (Keeps-refl _, Keeps-refl _))

pub returns-in-Upgrade-clause-untouched : goal.returns-in-Upgrade-clause-untouched
returns-in-Upgrade-clause-untouched g c =
    IfErr-weaker c.upgrade.result _ _ (λ fault told un. (Keeps-refl _, Keeps-refl _)) c.upgrade.ensures

pub returns-in-Roll-clause-whole : goal.returns-in-Roll-clause-whole
returns-in-Roll-clause-whole g c = rw c.in-Roll.is (on_ok_always c.roll.result (Keeps-refl _, Keeps-refl _))

pub returns-in-Roll-clause-beginning : goal.returns-in-Roll-clause-beginning
returns-in-Roll-clause-beginning g c = rw c.in-Roll.is (on_err c.roll.result (Keeps-refl _, Keeps-refl _))

pub returns-in-Roll-clause-untouched : goal.returns-in-Roll-clause-untouched
returns-in-Roll-clause-untouched g c =
    IfErr-weaker c.roll.result _ _ (λ fault told un. (Keeps-refl _, Keeps-refl _)) c.roll.ensures

pub returns-in-InFile-clause-whole : goal.returns-in-InFile-clause-whole
returns-in-InFile-clause-whole g c = rw c.in-InFile.is c.work_in.ensures.whole

pub returns-in-InFile-clause-beginning : goal.returns-in-InFile-clause-beginning
returns-in-InFile-clause-beginning g c = rw c.in-InFile.is c.work_in.ensures.beginning
