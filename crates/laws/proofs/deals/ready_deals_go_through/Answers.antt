use Rattle.laws.proofs.Through.{goes_through}
use Rattle.laws.proofs.Together.{stands_along, starts}
use Rattle.laws.proofs.deals.ready_deals_go_through.Goals as goal

pub returns : goal.returns
returns c = λ d turns e commit uses new h apart first others.
    goes_through e commit uses (stands_along d turns e h (starts d new)) apart first others
