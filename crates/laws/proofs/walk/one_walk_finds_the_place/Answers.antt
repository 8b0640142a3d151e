use Rattle.ledger.proofs.Prelude.{arith, refl, subst, suc, ◌+◌, ◌∷◌, ◌≡◌}
use Rattle.laws.specs.Walks.{GoesOnBehind}
use Rattle.laws.proofs.Places.{at_end, at_first, at_later, nowhere}
use Rattle.laws.proofs.walk.one_walk_finds_the_place.Goals as goal

pub returns-clause-taken : goal.returns-clause-taken
returns-clause-taken c n kept log j h =
    let next : suc j ≡ j + 1 = omega arith in subst (GoesOnBehind (n ∷ kept) (n ∷ log)) next (at_first n n kept log j refl h)

pub returns-clause-passed : goal.returns-clause-passed
returns-clause-passed c n r kept log j apart h =
    let next : suc j ≡ j + 1 = omega arith in subst (GoesOnBehind (n ∷ kept) (r ∷ log)) next (at_later n r kept log j apart h)

pub returns-clause-end : goal.returns-clause-end
returns-clause-end c = at_end

pub returns-clause-other : goal.returns-clause-other
returns-clause-other c = nowhere
