use Rattle.desk.proofs.OneText.{text_one}
use Rattle.desk.proofs.SomeText.{some_text}
use Rattle.desk.proofs.laws.exactly_one_text.Goals as goal

pub returns-clause-some : goal.returns-clause-some
returns-clause-some c = some_text

pub returns-clause-one : goal.returns-clause-one
returns-clause-one c = text_one
