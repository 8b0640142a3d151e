use Rattle.words.proofs.Longest.{request_le}
use Rattle.words.proofs.item.no_request_is_too_long.Goals as goal

pub returns-clause-length : goal.returns-clause-length
returns-clause-length c line r h = request_le line r h
