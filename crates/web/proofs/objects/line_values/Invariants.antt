use Rattle.std.proofs.Common.{◌≡◌, map, take}
use Rattle.serde_json.specs.View.{view}
use Rattle.web.specs.Objects.{line_object}
use Rattle.web.proofs.objects.line_values.Given as goal

abbrev pub invariant-loop-line : goal.invariant-loop-line
invariant-loop-line l = map view l.values.items ≡ map line_object (take l.line-index l.lines)
