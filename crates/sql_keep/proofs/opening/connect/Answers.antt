use Rattle.std.proofs.Common.{false, subst, sym}
use Rattle.sqlite.specs.Files.{IsBlankAs, file_state}
use Rattle.sqlite.specs.Start.{FindsIn}
use Rattle.sql_keep.proofs.opening.connect.Goals as goal

pub returns-in-Ok-clause-found : goal.returns-in-Ok-clause-found
returns-in-Ok-clause-found g c clean =
    let found = c.in-Ok.ensures.found clean in
    subst (λ i. FindsIn i (file_state c.in-Ok.conn)) c.in_ok-files.ensures.read
    (record { holds = found.holds; reads = found.reads })

pub returns-in-Ok-clause-plain : goal.returns-in-Ok-clause-plain
returns-in-Ok-clause-plain g c clean blank =
    c.in-Ok.ensures.sums clean (subst (IsBlankAs false) (sym c.in_ok-files.ensures.read) blank)
