use Rattle.words.proofs.OneItem.{item_one}
use Rattle.words.proofs.SomeItem.{some_item}
use Rattle.words.proofs.item.exactly_one_item.Goals as goal

pub returns-clause-some : goal.returns-clause-some
returns-clause-some c = some_item

pub returns-clause-one : goal.returns-clause-one
returns-clause-one c = item_one
