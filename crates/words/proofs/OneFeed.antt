-- A piece of a stream gives some items, and no others.
use Rattle.std.proofs.Common.{◌≡◌, ◌∙◌, ℕ, List, [], ◌∷◌, ◌++◌, Option, None, Some, ap, refl, sym}
use Rattle.words.specs.Stream.{Ends, EndsOverlong, Feeds, pending}
use Rattle.words.specs.Words.{parts_at}
use Rattle.words.specs.declared.item.Item.{Item}
use Rattle.words.specs.declared.item.Item.TheVariants.{Bad}
use Rattle.words.proofs.Cuts.{parts_some}
use Rattle.words.proofs.OneItem.{item_one}
use Rattle.words.proofs.SomeItem.{some_item}

-- ---- some items

ends_some_items : (parts : List (List ℕ)) → (parts ≡ [] → ⊥)
    → (items : List Item) × (new : Option (List ℕ)) × Ends parts items new
ends_some_items [] some = absurd (some refl)
ends_some_items (last ∷ []) some = ([], pending last, (refl, refl))
ends_some_items (line ∷ next ∷ parts) some =
    let first = some_item line in
    let more = ends_some_items (next ∷ parts) (λ e. cc e) in
    (first.0 ∷ more.0, more.1, (first.1, more.2))

overlong_some_items : (parts : List (List ℕ)) → (parts ≡ [] → ⊥)
    → (items : List Item) × (new : Option (List ℕ)) × EndsOverlong parts items new
overlong_some_items [] some = absurd (some refl)
overlong_some_items (last ∷ []) some = ([], None, (refl, refl))
overlong_some_items (line ∷ next ∷ parts) some =
    let more = ends_some_items (next ∷ parts) (λ e. cc e) in (Bad ∷ more.0, more.1, (more.0, refl, more.2))

pub feeds_some_items : (old : Option (List ℕ)) (piece : List ℕ)
    → (items : List Item) × (new : Option (List ℕ)) × Feeds old piece items new
feeds_some_items None piece = overlong_some_items (parts_at 10 piece) (parts_some 10 piece)
feeds_some_items (Some rest) piece = ends_some_items (parts_at 10 (rest ++ piece)) (parts_some 10 (rest ++ piece))

-- ---- no others

ends_one : (parts : List (List ℕ)) (xs ys : List Item) (new other : Option (List ℕ)) → Ends parts xs new
    → Ends parts ys other → (xs ≡ ys) × (new ≡ other)
ends_one [] xs ys new other h k = absurd h
ends_one (last ∷ []) xs ys new other h k = (h.0 ∙ sym k.0, h.1 ∙ sym k.1)
ends_one (line ∷ next ∷ parts) [] ys new other h k = absurd h
ends_one (line ∷ next ∷ parts) (x ∷ xs) [] new other h k = absurd k
ends_one (line ∷ next ∷ parts) (x ∷ xs) (y ∷ ys) new other h k =
    let first = item_one line x y h.0 k.0 in
    let more = ends_one (next ∷ parts) xs ys new other h.1 k.1 in
    (cc (first, more.0), more.1)

overlong_one : (parts : List (List ℕ)) (xs ys : List Item) (new other : Option (List ℕ)) → EndsOverlong parts xs new
    → EndsOverlong parts ys other → (xs ≡ ys) × (new ≡ other)
overlong_one [] xs ys new other h k = absurd h
overlong_one (last ∷ []) xs ys new other h k = (h.0 ∙ sym k.0, h.1 ∙ sym k.1)
overlong_one (line ∷ next ∷ parts) xs ys new other h k =
    let more = ends_one (next ∷ parts) h.0 k.0 new other h.2 k.2 in
    (h.1 ∙ ap (λ (items : List Item). Bad ∷ items) more.0 ∙ sym k.1, more.1)

pub feeds_one : (old new other : Option (List ℕ)) (piece : List ℕ) (xs ys : List Item) → Feeds old piece xs new
    → Feeds old piece ys other → (xs ≡ ys) × (new ≡ other)
feeds_one None new other piece xs ys h k = overlong_one (parts_at 10 piece) xs ys new other h k
feeds_one (Some rest) new other piece xs ys h k = ends_one (parts_at 10 (rest ++ piece)) xs ys new other h k
