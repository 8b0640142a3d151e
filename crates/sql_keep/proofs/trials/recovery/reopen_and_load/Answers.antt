use Rattle.std.proofs.Math.Logic.{∥∥₁_elim}
use Rattle.std.proofs.lemmas.Result.{IfOk-weaker}
use Rattle.sqlite.specs.Files.{file_state}
use Rattle.sql_keep.specs.StoreContent.{Holds}
use Rattle.sql_keep.specs.Laws.{holds_tables}
use Rattle.sql_keep.proofs.NextOpen.{is_among, is_desk}
use Rattle.sql_keep.proofs.trials.recovery.reopen_and_load.Goals as goal

pub returns-clause-found : goal.returns-clause-found
returns-clause-found g c clean these only =
    IfOk-weaker c.load-tables.result _ _
    (λ tables found. is_among (Holds (file_state c.in_ok-again.again.connection).now) these tables found.one
    (c.in_ok-again.ensures.found (c.load-tables.ensures.honest clean) these only))
    (c.load-tables.ensures.found clean)

pub returns-clause-desk : goal.returns-clause-desk
returns-clause-desk g c clean these only desks refused =
    ∥∥₁_elim (c.in_ok-again.ensures.found (c.load-tables.ensures.honest clean) these only) (λ p q. absurd p)
    (λ f. (c.load-tables.ensures.version clean).desk refused f.0 (holds_tables _ f.0 f.1)
    (is_desk (Holds (file_state c.in_ok-again.again.connection).now) these f desks))

pub returns-clause-alone : goal.returns-clause-alone
returns-clause-alone g c clean =
    IfOk-weaker c.load-tables.result _ _ (λ tables found. found.alone) (c.load-tables.ensures.found clean)

pub returns-clause-held : goal.returns-clause-held
returns-clause-held g c clean =
    IfOk-weaker c.load-tables.result _ _ (λ tables found. found.content) (c.load-tables.ensures.found clean)

pub returns-clause-going : goal.returns-clause-going
returns-clause-going g c = c.load-tables.ensures.goes.ok

pub returns-clause-stopped : goal.returns-clause-stopped
returns-clause-stopped g c = c.load-tables.ensures.goes.err
