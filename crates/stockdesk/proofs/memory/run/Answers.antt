use Rattle.std.proofs.lemmas.Result.{on_ok_weaker}
use Rattle.sqlite.proofs.Callers.{memory_is_clean}
use Rattle.desk.proofs.Faults.{of_error}
use Rattle.sql_keep.specs.Laws.{holds_tables}
use Rattle.stockdesk.proofs.SessionParts.{on_error, opens_new, runs_nothing, runs_part, runs_so_far, runs_whole}
use Rattle.stockdesk.proofs.memory.run.Goals as goal

pub returns-in_default-clause-beginning : goal.returns-in_default-clause-beginning
returns-in_default-clause-beginning g c = runs_nothing _ _

pub returns-in-Err-clause-beginning : goal.returns-in-Err-clause-beginning
returns-in-Err-clause-beginning g c = runs_nothing _ _

pub returns-clause-whole : goal.returns-clause-whole
returns-clause-whole g c =
    let honest = memory_is_clean c.session-ended.result.0.connection in
    on_ok_weaker c.session-ended.result.1
    (λ s. runs_whole _ _ honest
    (c.in-Ok-new_desk.ensures.made.held (memory_is_clean c.in-Ok-new_desk.keep.connection)) s)
    c.session-ended.ensures.whole

pub returns-clause-beginning : goal.returns-clause-beginning
returns-clause-beginning g c =
    let honest = memory_is_clean c.session-ended.result.0.connection in
    on_error c.session-ended.result.1 _ _
    (λ fault s. runs_part _ _ honest
    (c.in-Ok-new_desk.ensures.made.held (memory_is_clean c.in-Ok-new_desk.keep.connection)) fault s)
    c.session-ended.ensures.cut

pub returns-clause-prompt : goal.returns-clause-prompt
returns-clause-prompt g c =
    let honest = memory_is_clean c.session-ended.result.0.connection in
    of_error c.session-ended.result.1 _ _
    (λ fault is s. runs_so_far _ _ honest
    (c.in-Ok-new_desk.ensures.made.held (memory_is_clean c.in-Ok-new_desk.keep.connection)) fault s)
    c.session-ended.ensures.cut

pub returns-clause-desk : goal.returns-clause-desk
returns-clause-desk g c =
    let held = c.in-Ok-new_desk.ensures.made.held (memory_is_clean c.in-Ok-new_desk.keep.connection) in
    of_error c.session-ended.result.1 _ _
    (λ fault is s. opens_new _ _ (memory_is_clean c.session-ended.result.0.connection) held fault (holds_tables _ _ held) s)
    c.session-ended.ensures.cut
