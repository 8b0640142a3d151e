use Rattle.std.proofs.Common.{arith, ◌∙◌}
use Rattle.desk.proofs.ShortLines.{line_is_short}
use Rattle.desk.proofs.reply.line_of_reply.Goals as goal

pub returns-clause-short : goal.returns-clause-short
returns-clause-short c =
    let short =
    line_is_short c.args.key _ _ _ c.push_text-2.new.out.items c.args.reply.now c.as_bytes.ensures.form.fits
    c.in_range.ensures (c.in_ok-out.ensures ∙ c.as_bytes.ensures.value) c.in_ok-push_text.ensures
    c.in_ok-write_reply.ensures.ok c.in_ok-push_text-2.ensures in
    omega (arith, short, c.push_text-2.new.out.ok)
