use Rattle.std.proofs.Common.{◌≡◌, rules, length}
use Rattle.serde_json.proofs.Views.{view-Object}
use Rattle.serde_json.specs.declared.value.Value.{the_lemmas}
use Rattle.web.proofs.TwoMembers.{two_members, not_two}
use Rattle.web.proofs.body.command_parts.Goals as goal

pub returns-then-len-ne2-clause-none : goal.returns-then-len-ne2-clause-none
returns-then-len-ne2-clause-none c = λ e key command h.
    not_two c.in-Object.members key command (λ n. c.if-len-ne2.true (search rules)) (rw c.in-Object.is at h)

pub returns-in-Some-String-Some-String-clause-some :
    goal.returns-in-Some-String-Some-String-clause-some
returns-in-Some-String-Some-String-clause-some c =
    let size : length c.in-Object.members.entries ≡ 2 = search rules in
    rw (c.in-Object.is, view-Object)
    (two_members c.in-Object.members.entries _ _ size c.len.ensures.ordered (search (rules, the_lemmas))
    (search (rules, the_lemmas)))
