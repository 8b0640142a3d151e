use Rattle.files.specs.Orders.{SayOrders, order_header}
use Rattle.files.proofs.OneMeaning.{orders_say_one}
use Rattle.files.proofs.OneReading.{says_one_thing}
use Rattle.files.proofs.laws.an_order_file_says_one_thing.Goals as goal

pub returns : goal.returns
returns c = says_one_thing order_header SayOrders orders_say_one
