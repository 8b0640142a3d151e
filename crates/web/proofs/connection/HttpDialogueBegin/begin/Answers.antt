use Rattle.std.proofs.Common.{[], false, refl, sym}
use Rattle.web.proofs.Parts.{found_first, none_yet}
use Rattle.web.proofs.connection.HttpDialogueBegin.begin.Goals as goal

pub returns-clause-new : goal.returns-clause-new
returns-clause-new c = (refl, sym c.new-2.ensures.items, found_first false _ [] false [] (sym c.new-2.ensures.items))

pub returns-in_default-clause-none : goal.returns-in_default-clause-none
returns-in_default-clause-none c = none_yet

pub returns-clause-none : goal.returns-clause-none
returns-clause-none c = none_yet
