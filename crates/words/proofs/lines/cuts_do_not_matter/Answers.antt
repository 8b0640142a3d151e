use Rattle.words.proofs.TwoPieces.{feeds_joined}
use Rattle.words.proofs.OneFeed.{feeds_one, feeds_some_items}
use Rattle.words.proofs.lines.cuts_do_not_matter.Goals as goal

pub returns-clause-some : goal.returns-clause-some
returns-clause-some c = feeds_some_items

pub returns-clause-one : goal.returns-clause-one
returns-clause-one c = feeds_one

pub returns-clause-joined : goal.returns-clause-joined
returns-clause-joined c = feeds_joined
