use Rattle.files.specs.Bounds.{SayBounds, bounds_header}
use Rattle.files.proofs.OneMeaning.{bounds_say_one}
use Rattle.files.proofs.OneReading.{says_one_thing}
use Rattle.files.proofs.laws.a_bounds_file_says_one_thing.Goals as goal

pub returns : goal.returns
returns c = says_one_thing bounds_header SayBounds bounds_say_one
