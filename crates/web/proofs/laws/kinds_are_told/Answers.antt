use Rattle.web.proofs.AnswerKinds.{kinds_ordinary}
use Rattle.web.proofs.laws.kinds_are_told.Goals as goal

pub returns : goal.returns
returns c = λ old parts kinds answers new h all. kinds_ordinary parts kinds answers old new h all
