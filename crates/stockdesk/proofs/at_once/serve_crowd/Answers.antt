use Rattle.std.proofs.Common.{◌≤◌, ◌≡◌, ◌∙◌, None, ap, subst, sym}
use Rattle.rounds.specs.Services.{HasServedEnough}
use Rattle.stockdesk.specs.Connections.{IsCrowdFault, Meets}
use Rattle.stockdesk.specs.Outside.{gathering}
use Rattle.stockdesk.specs.Work.{Ends}
use Rattle.stockdesk.proofs.Meetings.{crowd_ends}
use Rattle.stockdesk.proofs.at_once.serve_crowd.Goals as goal

pub returns : goal.returns
returns g c =
    let crowd = gathering g.C.Crowd g.C.Stream.Stream in
    let most = c.args.terms.now.connections in
    let places = c.args.terms.now.places in
    let end = c.serve_rounds-crowd.new.desk in
    let ended = c.told_as-ended.ensures in
    let same = c.into_inner-keep.ensures ∙ ap (λ d. d.keep) c.into_keep.ensures.keep in
    subst (λ keep. Ends g.K.Keep (keep, c.told_as-ended.result) c.args.desk
    (λ old new. Meets crowd c.args.crowd (λ count loss.
    HasServedEnough most places count old.ledger new.ledger × (loss ≡ None)) old new)
    (λ fault old new. IsCrowdFault fault × Meets crowd c.args.crowd (λ count loss. count ≤ most) old new))
    (sym same)
    (crowd_ends g.K.Keep crowd c.args.crowd c.serve_rounds-crowd.result.0 most places c.args.desk c.defer-desk.result end
    c.defer-desk.ensures.ledger (c.defer-desk.ensures.stopped ∙ c.requires.going) c.requires.going
    c.is_kept.ensures.good c.is_kept.ensures.going
    (λ honest.
    subst (λ keep. g.K.Keep.is_honest keep) c.defer-desk.ensures.keep (c.serve_rounds-crowd.ensures.honest honest))
    c.is_stopped.result (c.is_stopped.ensures ∙ ap (λ keep. g.K.Keep.stopped keep) same)
    c.serve_rounds-crowd.result.1 c.told_as-ended.result ended.whole ended.cut ended.fault ended.store ended.going
    c.serve_rounds-crowd.ensures.whole c.serve_rounds-crowd.ensures.cut)
