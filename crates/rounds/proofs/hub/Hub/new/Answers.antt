use Rattle.std.proofs.Common.{refl}
use Rattle.rounds.specs.Crowds.{unopened}
use Rattle.rounds.proofs.hub.Hub.new.Goals as goal

pub returns-clause-serving : goal.returns-clause-serving
returns-clause-serving g c = λ start. record { doors = unopened; pass = refl; reached = c.in-Ok.ensures.reached start }

pub returns-clause-size : goal.returns-clause-size
returns-clause-size g c = c.in-Ok.ensures.size
