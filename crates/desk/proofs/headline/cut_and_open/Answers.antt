use Rattle.std.proofs.Common.{[], ◌∷◌}
use Rattle.std.proofs.lemmas.Result.{IfErr-weaker, IfOk-weaker}
use Rattle.desk.specs.Opening.{keeper_after}
use Rattle.desk.proofs.FoundAfter.{left_alone, opened_rows, refused_so}
use Rattle.desk.proofs.headline.cut_and_open.Goals as goal

pub returns-clause-found : goal.returns-clause-found
returns-clause-found g c honest these leaves =
    let before = c.open.ensures.honest honest in
    opened_rows g.K.Keep _ c.open.result these (c.in_ok-again.ensures.found before these leaves) c.open.ensures.opened honest

pub returns-clause-left : goal.returns-clause-left
returns-clause-left g c honest these leaves =
    let before = c.open.ensures.honest honest in
    left_alone these (g.K.Keep.holds c.in_ok-again.again) (g.K.Keep.leaves (keeper_after c.open.result))
    (c.in_ok-again.ensures.found before these leaves)
    (λ x held. (c.open.ensures.left honest).adds.adds_nothing (x ∷ []) (c.in_ok-again.ensures.alone before x held))

pub returns-clause-refused : goal.returns-clause-refused
returns-clause-refused g c honest left =
    let before = c.open.ensures.honest honest in
    refused_so c.open.result _ _ left (c.in_ok-again.ensures.found before left.these left.leaves_these)
    (c.open.ensures.nothing_else honest)

pub returns-clause-honours : goal.returns-clause-honours
returns-clause-honours g c =
    IfOk-weaker c.open.result _ _ (λ again opened. (opened.good, opened.honours, opened.always)) c.open.ensures.opened

pub returns-clause-going : goal.returns-clause-going
returns-clause-going g c = IfOk-weaker c.open.result _ _ (λ again opened. opened.going) c.open.ensures.opened

pub returns-clause-fault : goal.returns-clause-fault
returns-clause-fault g c = IfErr-weaker c.open.result _ _ (λ e told. (c.in_ok-again.again, told)) c.open.ensures.unopened
