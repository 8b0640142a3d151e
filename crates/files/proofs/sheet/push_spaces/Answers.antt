use Rattle.files.proofs.SheetLines.{spaces_pushed}
use Rattle.files.proofs.sheet.push_spaces.Goals as goal

pub returns : goal.returns
returns c =
    spaces_pushed c.push_text.result c.args.out.now.items c.push_text.new.out.items c.saturating_sub.result c.args.width
    c.args.len c.saturating_sub.ensures c.requires c.push_text.ensures
