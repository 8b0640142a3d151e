-- Which answer a fixed one is.
use Rattle.web.specs.Answers.{Answer, bad_answer, memory_answer, message_answer, none_answer, stopped_answer}
use Rattle.web.specs.declared.fixed.Fixed.{Fixed}
use Rattle.web.specs.declared.fixed.Fixed.TheVariants.{BadCommand, Memory, NoMessage, Nothing, Stopped}

abbrev pub fixed_answer : Fixed → Answer
fixed_answer Nothing = none_answer
fixed_answer NoMessage = message_answer
fixed_answer Stopped = stopped_answer
fixed_answer Memory = memory_answer
fixed_answer BadCommand = bad_answer
