use Rattle.std.proofs.Common.{rules}
use Rattle.keep.proofs.plain.PlainKeepKeep.commit.Goals as goal

pub returns-then-not-self-clause-by_number : goal.returns-then-not-self-clause-by_number
returns-then-not-self-clause-by_number c = search rules
