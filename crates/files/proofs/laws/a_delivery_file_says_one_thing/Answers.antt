use Rattle.files.specs.Deliveries.{SayDeliveries, delivery_header}
use Rattle.files.proofs.OneMeaning.{deliveries_say_one}
use Rattle.files.proofs.OneReading.{says_one_thing}
use Rattle.files.proofs.laws.a_delivery_file_says_one_thing.Goals as goal

pub returns : goal.returns
returns c = says_one_thing delivery_header SayDeliveries deliveries_say_one
