-- Pieces of a stream, joined.
use Rattle.std.proofs.Common.{◌≡◌, ◌∙◌, ℕ, Bool, true, false, cond, ◌==◌, List, [], ◌∷◌, ◌++◌, Option, None, Some, ap}
use Rattle.std.proofs.Common.{inl, inr, refl, sym, subst}
use Rattle.std.specs.List.{onto_first}
use Rattle.std.proofs.lemmas.Bool.{cases_Bool}
use Rattle.std.proofs.lemmas.List.Splits.{slice_split-cons_no, slice_split-cons_yes}
use Rattle.words.specs.Items.{IsItem}
use Rattle.words.specs.Stream.{Ends, EndsBehind, EndsLine, EndsOverlong, Feeds, HasNoNewline, extended, pending}
use Rattle.words.specs.Words.{parts_at}
use Rattle.words.specs.declared.item.Item.{Item}
use Rattle.words.proofs.Cuts.{parts_some}

only_first : (x : ℕ) (r : List ℕ) (parts : List (List ℕ)) → onto_first x parts ≡ (x ∷ r) ∷ [] → (parts ≡ [] → ⊥) → parts ≡ r ∷ []
only_first x r [] e some = absurd (some refl)
only_first x r (p ∷ ps) e some = cc e

-- bytes without a newline go before the first part
pub onto : (r p w : List ℕ) (ws : List (List ℕ)) → parts_at 10 r ≡ r ∷ [] → parts_at 10 p ≡ w ∷ ws
    → parts_at 10 (r ++ p) ≡ (r ++ w) ∷ ws
onto [] p w ws h e = e
onto (x ∷ r) p w ws h e = elim (cases_Bool (x == 10)) [
  | inl is ↦ absurd (newline (sym (slice_split-cons_yes (λ b. b == 10) x r is) ∙ h))
  | inr other ↦ slice_split-cons_no (λ b. b == 10) x (r ++ p) other
      ∙ ap (onto_first x) (onto r p w ws
      (only_first x r (parts_at 10 r) (sym (slice_split-cons_no (λ b. b == 10) x r other) ∙ h) (parts_some 10 r)) e)
]
  where
    newline : [] ∷ parts_at 10 r ≡ (x ∷ r) ∷ [] → ⊥
    newline f = (cc)

-- a piece in which no line ends
pub feeds_none : (old : Option (List ℕ)) (piece : List ℕ) (new : Option (List ℕ)) (items : List Item)
    → HasNoNewline old → parts_at 10 piece ≡ piece ∷ [] → new ≡ extended old piece → items ≡ [] → Feeds old piece items new
feeds_none None piece new items one e f g = subst (λ (parts : List (List ℕ)). EndsOverlong parts items new) (sym e) (g, f)
feeds_none (Some rest) piece new items one e f g =
    subst (λ (parts : List (List ℕ)). Ends parts items new) (sym (onto rest piece piece [] (one rest refl) e)) (g, f)

-- a piece in which a line ends
pub feeds_some : (old : Option (List ℕ)) (piece end after : List ℕ) (item : Item) (items : List Item) (new : Option (List ℕ))
    → HasNoNewline old → parts_at 10 piece ≡ end ∷ parts_at 10 after → EndsLine old end item
    → EndsBehind item (parts_at 10 after) items new → Feeds old piece items new
feeds_some None piece end after item items new one e is behind =
    subst (λ (parts : List (List ℕ)). EndsOverlong parts items new) (sym e) (by (parts_at 10 after) (parts_some 10 after) behind)
  where
    by : (parts : List (List ℕ)) → (parts ≡ [] → ⊥) → EndsBehind item parts items new → EndsOverlong (end ∷ parts) items new
    by [] some b = absurd (some refl)
    by (next ∷ parts) some b = (b.0, b.1 ∙ ap (λ (i : Item). i ∷ b.0) is, b.2)
feeds_some (Some rest) piece end after item items new one e is behind =
    subst (λ (parts : List (List ℕ)). Ends parts items new)
    (sym (onto rest piece end (parts_at 10 after) (one rest refl) e))
    (by (parts_at 10 after) (parts_some 10 after) behind)
  where
    by : (parts : List (List ℕ)) → (parts ≡ [] → ⊥) → EndsBehind item parts items new → Ends ((rest ++ end) ∷ parts) items new
    by [] some b = absurd (some refl)
    by (next ∷ parts) some b = subst (λ (is : List Item). Ends ((rest ++ end) ∷ next ∷ parts) is new) (sym b.1) (is, b.2)

-- a line in front of lines that end
pub ends_more : (line : List ℕ) (item : Item) (all parts : List (List ℕ)) (items : List Item) (new : Option (List ℕ))
    → IsItem line item → all ≡ line ∷ parts → (parts ≡ [] → ⊥) → Ends parts items new → Ends all (item ∷ items) new
ends_more line item all [] items new is e some ends = absurd (some refl)
ends_more line item all (next ∷ parts) items new is e some ends =
    subst (λ (ps : List (List ℕ)). Ends ps (item ∷ items) new) (sym e) (is, ends)

-- the bytes behind the last newline
pub ends_last : (rest : List ℕ) (parts : List (List ℕ)) → parts ≡ rest ∷ [] → Ends parts [] (pending rest)
ends_last rest parts e = subst (λ (ps : List (List ℕ)). Ends ps [] (pending rest)) (sym e) (refl, refl)

-- the bytes that are kept have no newline
pub one_line : (overlong : Bool) (bytes : List ℕ) (old : Option (List ℕ)) → parts_at 10 bytes ≡ bytes ∷ []
    → cond overlong None (Some bytes) ≡ old → HasNoNewline old
one_line true bytes old e is rest some = absurd (differ (is ∙ some))
  where
    differ : ◌≡◌ {A = Option (List ℕ)} None (Some rest) → ⊥
    differ e = (cc)
one_line false bytes old e is rest some =
    let same : bytes ≡ rest = cc (is, some) in subst (λ (b : List ℕ). parts_at 10 b ≡ b ∷ []) same e
