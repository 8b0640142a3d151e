use Rattle.laws.proofs.AllOrNothing.{all_or_nothing}
use Rattle.laws.proofs.Together.{stands_along, starts}
use Rattle.laws.proofs.deals.all_or_nothing.Goals as goal

pub returns : goal.returns
returns c = λ d turns e new h. all_or_nothing e (stands_along d turns e h (starts d new))
