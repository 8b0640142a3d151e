use Rattle.escrow.proofs.Padding.{padding}
use Rattle.escrow.proofs.fixed_text.FixedText.new.Goals as goal

pub invariant_of-result : goal.invariant_of-result
invariant_of-result g c =
    padding g.row.N c.args.bytes.now c.copy_from_slice.new.self c.requires.fits c.copy_from_slice.ensures.after
