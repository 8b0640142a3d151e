use Rattle.std.proofs.Common.{◌∙◌, sym}
use Rattle.words.proofs.Cuts.{cut_at, cut_none, cut_rest}
use Rattle.words.proofs.cut.cut.Goals as goal

pub returns-in_err-place-clause-parts : goal.returns-in_err-place-clause-parts
returns-in_err-place-clause-parts c =
    rw c.from_residual.ensures (cut_none c.args.at c.args.bytes.now (sym c.place_of.ensures ∙ c.in_err-place.was))

pub returns-clause-parts : goal.returns-clause-parts
returns-clause-parts c =
    rw cut_rest ((cut_at c.args.at c.args.bytes.now c.in_ok-place.place (sym c.place_of.ensures ∙ c.in_ok-place.was)).1)
