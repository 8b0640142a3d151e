use Rattle.std.proofs.lemmas.Result.{on_ok_weaker}
use Rattle.desk.proofs.Faults.{of_error}
use Rattle.sql_keep.specs.Laws.{holds_tables}
use Rattle.stockdesk.proofs.SessionParts.{starts_part, starts_whole}
use Rattle.sql_keep.proofs.Schemas.{holds_one_row}
use Rattle.stockdesk.proofs.file.session.Goals as goal

pub returns-clause-whole : goal.returns-clause-whole
returns-clause-whole g c =
    on_ok_weaker c.session.result.1 (λ s. starts_whole _ _ _ _ c.in_ok-keep.ensures.opened c.session.ensures.honest _ s)
    c.session.ensures.whole

pub returns-clause-cut : goal.returns-clause-cut
returns-clause-cut g c =
    of_error c.session.result.1 _ _
    (λ fault is s. starts_part _ _ _ _ c.in_ok-keep.ensures.opened c.session.ensures.honest (λ x. holds_tables _ x) fault _ _ s)
    c.session.ensures.cut

pub returns-clause-old : goal.returns-clause-old
returns-clause-old g c clean v x row late there one version =
    c.session.ensures.old clean c.in_ok-keep.ensures.opened.going
    (v, late, holds_one_row _ v x row (c.in_ok-keep.ensures.old (c.session.ensures.honest clean) v x there) one version)

pub returns-clause-goes_on : goal.returns-clause-goes_on
returns-clause-goes_on g c clean A x good rows there =
    let opened = c.in_ok-keep.ensures.opened in
    let was = c.session.ensures.honest clean in
    let goes = c.session.ensures.goes_on clean A x good rows (opened.held was x there) (opened.alone was x there) in
    record { opens = goes.opens; leaves = goes.leaves }
