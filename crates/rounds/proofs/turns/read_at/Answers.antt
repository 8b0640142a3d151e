use Rattle.std.proofs.Common.{◌≡◌, rules}
use Rattle.rounds.specs.Rounds.{standing_of}
use Rattle.rounds.specs.declared.standing.Standing.TheVariants.{Reads}
use Rattle.rounds.proofs.turns.read_at.Goals as goal

pub returns-in-Ok : goal.returns-in-Ok
returns-in-Ok g c =
    let reads : standing_of c.in-Some.line ≡ Reads = search rules in
    rw c.in-Some.is (reads, c.in-Ok.ensures.within, c.in-Ok.ensures.came)

pub returns-in-Err : goal.returns-in-Err
returns-in-Err g c =
    let reads : standing_of c.in-Some.line ≡ Reads = search rules in
    rw c.in-Some.is (reads, c.in-Err.ensures.failed)
