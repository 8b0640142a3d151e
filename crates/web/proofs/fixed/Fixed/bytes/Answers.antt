use Rattle.std.specs.Fmt.{digits}
use Rattle.serde_json.proofs.OnLiterals.{serde_json_on_literals}
use Rattle.web.proofs.fixed.Fixed.bytes.Goals as goal

pub returns-in-Nothing : goal.returns-in-Nothing
unfolding serde_json_on_literals digits
returns-in-Nothing c = rw c.in-Nothing.is

pub returns-in-NoMessage : goal.returns-in-NoMessage
unfolding serde_json_on_literals digits
returns-in-NoMessage c = rw c.in-NoMessage.is

pub returns-in-Stopped : goal.returns-in-Stopped
unfolding serde_json_on_literals digits
returns-in-Stopped c = rw c.in-Stopped.is

pub returns-in-Memory : goal.returns-in-Memory
unfolding serde_json_on_literals digits
returns-in-Memory c = rw c.in-Memory.is

pub returns-in-BadCommand : goal.returns-in-BadCommand
unfolding serde_json_on_literals digits
returns-in-BadCommand c = rw c.in-BadCommand.is
