-- What the dialogue in lines is promised to keep (private).
use Rattle.std.proofs.Common.{◌≡◌, ◌∙◌, Bool, true, false, ℕ, List, [], ◌++◌, Option, Some, ap, append-nil}
use Rattle.std.proofs.Common.{append_assoc, refl, subst, sym}
use Rattle.words.proofs.OneFeed.{feeds_some_items}
use Rattle.words.proofs.TwoPieces.{feeds_joined}
use Rattle.words.specs.Stream.{Feeds}
use Rattle.words.specs.declared.item.Item.{Item}
use Rattle.desk.specs.Dialogue.{Begins}
use Rattle.desk.specs.Script.{HasFed, lines}
use Rattle.desk.specs.Text.{unended}

-- whatever comes behind what was taken in, its first items are those that were found
pub fed_settles : (held : Option (List ℕ)) (waiting : List Item) (read : List ℕ) (ended : Bool) (found : List Item)
    → HasFed held waiting read ended found → (more : List ℕ) → (ended ≡ true → more ≡ [])
    → Begins lines (read ++ more) found
fed_settles held waiting read false found fed more last =
    let (same, all) = fed.going refl in
    let (items, rest, feeds) = feeds_some_items fed.rest more in
    let behind = waiting ++ (items ++ unended rest) in
    let split : found ++ behind ≡ (fed.all ++ items) ++ unended rest =
    sym (append_assoc found waiting (items ++ unended rest))
    ∙ ap (λ (xs : List Item). xs ++ (items ++ unended rest)) (sym all)
    ∙ sym (append_assoc fed.all items (unended rest)) in (
      behind,
      record {
        ended = fed.all ++ items;
        rest = rest;
        feeds = feeds_joined (Some []) fed.rest rest read more fed.all items fed.feeds feeds;
        all = split;
      },
    )
fed_settles held waiting read true found fed more last =
    let whole : read ++ more ≡ read = ap (λ (xs : List ℕ). read ++ xs) (last refl) ∙ append-nil read in (
      waiting ++ unended held,
      record {
        ended = fed.all;
        rest = fed.rest;
        feeds = subst (λ (input : List ℕ). Feeds (Some []) input fed.all fed.rest) (sym whole) fed.feeds;
        all = sym fed.split;
      },
    )
