use Rattle.laws.proofs.Ends.{comes_to_an_end}
use Rattle.laws.proofs.Together.{stands_along, starts}
use Rattle.laws.proofs.deals.deals_come_to_an_end.Goals as goal

pub returns : goal.returns
returns c = λ d turns e key new h free_first free. comes_to_an_end e key (stands_along d turns e h (starts d new)) free_first free
