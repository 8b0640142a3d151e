use Rattle.std.proofs.Common.{◌≡◌, map, take}
use Rattle.serde_json.specs.View.{view}
use Rattle.web.specs.Objects.{numbered_object}
use Rattle.web.proofs.objects.listed_values.Given as goal

abbrev pub invariant-loop-number : goal.invariant-loop-number
invariant-loop-number l = map view l.values.items ≡ map (numbered_object l.book.ledger) (take l.number-index l.numbers)
