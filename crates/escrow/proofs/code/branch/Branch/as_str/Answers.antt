use Rattle.std.proofs.Common.{arith}
use Rattle.escrow.proofs.Texts.{branch_utf8}
use Rattle.escrow.proofs.code.branch.Branch.as_str.Goals as goal

pub as_str-requires : goal.as_str-requires
as_str-requires c = (omega arith, branch_utf8 _ c.self.invariant)
