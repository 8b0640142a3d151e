use Rattle.laws.proofs.Even.{alone, even, missing}
use Rattle.laws.proofs.Together.{stands_along, starts}
use Rattle.laws.proofs.deals.transfers_between_even_out.Goals as goal

pub returns-clause-alone : goal.returns-clause-alone
returns-clause-alone c = λ d turns e new h good goods own. alone d turns e new h (good, goods) own

pub returns-clause-missing : goal.returns-clause-missing
returns-clause-missing c = λ d turns e a new h transfer. missing e a (stands_along d turns e h (starts d new)) transfer

pub returns-clause-even : goal.returns-clause-even
returns-clause-even c = λ d turns e a new h transfer over. even e a (stands_along d turns e h (starts d new)) transfer over
