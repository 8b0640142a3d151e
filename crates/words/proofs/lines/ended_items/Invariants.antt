-- whatever the rest ends with, all ends with it behind the items so far
use Rattle.std.proofs.Common.{◌≡◌, ◌∷◌, ◌++◌, List, Option, ℕ, length}
use Rattle.words.specs.Stream.{Ends}
use Rattle.words.specs.Words.{parts_at}
use Rattle.words.specs.declared.item.Item.{Item}
use Rattle.words.proofs.lines.ended_items.Given as goal

abbrev pub invariant-loop-line : goal.invariant-loop-line
invariant-loop-line l =
    (more : List Item) × (l.items.items ≡ l.fn.first ∷ more)
    × ((tail : List Item) (new : Option (List ℕ)) → Ends (parts_at 10 l.rest) tail new
    → Ends (parts_at 10 l.fn.bytes) (more ++ tail) new)

abbrev pub decreases-loop-line : goal.decreases-loop-line
decreases-loop-line l = length l.rest
