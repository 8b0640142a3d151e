use Rattle.std.proofs.Common.{refl}
use Rattle.web.specs.Answers.{json_answer}
use Rattle.web.specs.Objects.{desk_object}
use Rattle.web.proofs.views.show_desk.Goals as goal

pub returns : goal.returns
returns c = (json_answer 200 (desk_object c.args.book.now.ledger), refl, c.in_ok-desk_answer.ensures)
