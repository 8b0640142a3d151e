-- A stream in two pieces, and the same in one.
use Rattle.std.proofs.Common.{◌≡◌, ◌∙◌, ℕ, ◌<◌, ◌==◌, Bool, true, false, cond, List, [], ◌∷◌, ◌++◌, Option, None, Some}
use Rattle.std.proofs.Common.{ap, append_assoc, arith, inl, inr, length, length-append, nat_le, refl, sym, subst}
use Rattle.std.specs.List.{onto_first}
use Rattle.std.proofs.lemmas.Bool.{cases_Bool}
use Rattle.words.specs.Items.{IsItem, longest_line}
use Rattle.words.specs.Stream.{Ends, EndsBehind, EndsOverlong, Feeds, pending}
use Rattle.words.specs.Words.{parts_at}
use Rattle.words.specs.declared.item.Item.{Item}
use Rattle.words.specs.declared.item.Item.TheVariants.{Bad}
use borrow.Author.Tests.{leb-false, leb-true}
use Rattle.words.proofs.Cuts.{parts_some}
use Rattle.words.proofs.Pieces.{ends_more}
use Rattle.std.proofs.lemmas.List.Splits.{slice_split-cons_no, slice_split-cons_yes}

-- the last part of the one goes on with the first of the other
abbrev joined : List (List ℕ) → List (List ℕ) → List (List ℕ)
joined [] qs = qs
joined (last ∷ []) [] = last ∷ []
joined (last ∷ []) (q ∷ qs) = (last ++ q) ∷ qs
joined (p ∷ next ∷ ps) qs = p ∷ joined (next ∷ ps) qs

onto_joined : (x : ℕ) (ps qs : List (List ℕ)) → (ps ≡ [] → ⊥) → onto_first x (joined ps qs) ≡ joined (onto_first x ps) qs
onto_joined x [] qs some = absurd (some refl)
onto_joined x (p ∷ []) [] some = refl
onto_joined x (p ∷ []) (q ∷ qs) some = refl
onto_joined x (p ∷ next ∷ ps) qs some = refl

nil_joined : (ps qs : List (List ℕ)) → (ps ≡ [] → ⊥) → [] ∷ joined ps qs ≡ joined ([] ∷ ps) qs
nil_joined [] qs some = absurd (some refl)
nil_joined (p ∷ ps) qs some = refl

from_nil : (qs : List (List ℕ)) → (qs ≡ [] → ⊥) → qs ≡ joined ([] ∷ []) qs
from_nil [] some = absurd (some refl)
from_nil (q ∷ qs) some = refl

-- the parts of two pieces in a row
parts-append : (at : ℕ) (xs ys : List ℕ) → parts_at at (xs ++ ys) ≡ joined (parts_at at xs) (parts_at at ys)
parts-append at [] ys = from_nil (parts_at at ys) (parts_some at ys)
parts-append at (x ∷ xs) ys = elim (cases_Bool (x == at)) [
  | inl is ↦ slice_split-cons_yes (λ b. b == at) x (xs ++ ys) is ∙ ap (λ (ps : List (List ℕ)). [] ∷ ps) (parts-append at xs ys)
      ∙ nil_joined (parts_at at xs) (parts_at at ys) (parts_some at xs)
      ∙ ap (λ (ps : List (List ℕ)). joined ps (parts_at at ys)) (sym (slice_split-cons_yes (λ b. b == at) x xs is))
  | inr other ↦ slice_split-cons_no (λ b. b == at) x (xs ++ ys) other ∙ ap (onto_first x) (parts-append at xs ys)
      ∙ onto_joined x (parts_at at xs) (parts_at at ys) (parts_some at xs)
      ∙ ap (λ (ps : List (List ℕ)). joined ps (parts_at at ys)) (sym (slice_split-cons_no (λ b. b == at) x xs other))
]

-- a line that is too long is bad
too_long : (line : List ℕ) → longest_line < length line → IsItem line Bad
too_long line long item short says = absurd (omega arith)

-- the last of the parts has no newline
abbrev LastHasNone : List (List ℕ) → Type 0
LastHasNone [] = Unit {0}
LastHasNone (last ∷ []) = parts_at 10 last ≡ last ∷ []
LastHasNone (p ∷ next ∷ ps) = LastHasNone (next ∷ ps)

last_onto : (x : ℕ) (ps : List (List ℕ)) → (x == 10) ≡ false → (ps ≡ [] → ⊥) → LastHasNone ps → LastHasNone (onto_first x ps)
last_onto x [] other some h = absurd (some refl)
last_onto x (p ∷ []) other some h = slice_split-cons_no (λ b. b == 10) x p other ∙ ap (onto_first x) h
last_onto x (p ∷ next ∷ ps) other some h = h

last_behind : (ps : List (List ℕ)) → (ps ≡ [] → ⊥) → LastHasNone ps → LastHasNone ([] ∷ ps)
last_behind [] some h = absurd (some refl)
last_behind (p ∷ ps) some h = h

last_has_none : (bytes : List ℕ) → LastHasNone (parts_at 10 bytes)
last_has_none [] = refl
last_has_none (x ∷ xs) = elim (cases_Bool (x == 10)) [
  | inl is ↦
      subst LastHasNone (sym (slice_split-cons_yes (λ b. b == 10) x xs is))
      (last_behind (parts_at 10 xs) (parts_some 10 xs) (last_has_none xs))
  | inr other ↦
      subst LastHasNone (sym (slice_split-cons_no (λ b. b == 10) x xs other))
      (last_onto x (parts_at 10 xs) other (parts_some 10 xs) (last_has_none xs))
]

joined_some : (p : List ℕ) (ps qs : List (List ℕ)) → joined (p ∷ ps) qs ≡ [] → ⊥
joined_some p [] [] e = cc e
joined_some p [] (q ∷ qs) e = cc e
joined_some p (next ∷ ps) qs e = cc e

-- what is kept of bytes that are too many
kept_none : (bytes : List ℕ) → longest_line < length bytes → pending bytes ≡ None
kept_none bytes long = by (nat_le (length bytes) longest_line) refl
  where
    by : (fits : Bool) → nat_le (length bytes) longest_line ≡ fits → cond fits (Some bytes) None ≡ None
    by true e = absurd (omega (arith, leb-true _ _ e))
    by false e = refl

-- a line that was too long already goes on
long_on : (last : List ℕ) (qs : List (List ℕ)) (ys : List Item) (new : Option (List ℕ)) → longest_line < length last
    → EndsOverlong qs ys new → Ends (joined (last ∷ []) qs) ys new
long_on last [] ys new long h = absurd h
long_on last (q ∷ []) ys new long h = (h.0, h.1 ∙ sym (kept_none (last ++ q) (omega (arith, length-append last q))))
long_on last (q ∷ r ∷ qs) ys new long h =
    subst (λ (is : List Item). Ends ((last ++ q) ∷ r ∷ qs) is new) (sym h.1)
    (too_long (last ++ q) (omega (arith, length-append last q)), h.2)

-- what was kept goes on
kept_on : (last q : List ℕ) (ys : List Item) (new : Option (List ℕ)) → parts_at 10 last ≡ last ∷ []
    → Feeds (pending last) q ys new → Ends (joined (last ∷ []) (parts_at 10 q)) ys new
kept_on last q ys new one h = by (nat_le (length last) longest_line) refl h
  where
    by : (fits : Bool) → nat_le (length last) longest_line ≡ fits → Feeds (cond fits (Some last) None) q ys new
        → Ends (joined (last ∷ []) (parts_at 10 q)) ys new
    by true e h =
        subst (λ (ps : List (List ℕ)). Ends ps ys new)
        (parts-append 10 last q ∙ ap (λ (ps : List (List ℕ)). joined ps (parts_at 10 q)) one) h
    by false e h = long_on last (parts_at 10 q) ys new (leb-false _ _ e) h

ends_append : (ps : List (List ℕ)) (xs ys : List Item) (mid new : Option (List ℕ)) (q : List ℕ) → LastHasNone ps
    → Ends ps xs mid → Feeds mid q ys new → Ends (joined ps (parts_at 10 q)) (xs ++ ys) new
ends_append [] xs ys mid new q none first second = absurd first
ends_append (last ∷ []) xs ys mid new q none first second =
    subst (λ (is : List Item). Ends (joined (last ∷ []) (parts_at 10 q)) (is ++ ys) new) (sym first.0)
    (kept_on last q ys new none (subst (λ (m : Option (List ℕ)). Feeds m q ys new) first.1 second))
ends_append (line ∷ next ∷ ps) [] ys mid new q none first second = absurd first
ends_append (line ∷ next ∷ ps) (x ∷ xs) ys mid new q none first second =
    ends_more line x (joined (line ∷ next ∷ ps) (parts_at 10 q)) (joined (next ∷ ps) (parts_at 10 q)) (xs ++ ys) new
    first.0 refl (joined_some next ps (parts_at 10 q))
    (ends_append (next ∷ ps) xs ys mid new q none first.1 second)

-- the same behind a line that is too long already
overlong_on : (last : List ℕ) (qs : List (List ℕ)) (ys : List Item) (new : Option (List ℕ)) → EndsOverlong qs ys new
    → EndsOverlong (joined (last ∷ []) qs) ys new
overlong_on last [] ys new h = absurd h
overlong_on last (q ∷ []) ys new h = h
overlong_on last (q ∷ r ∷ qs) ys new h = h

overlong_more : (line : List ℕ) (parts : List (List ℕ)) (items : List Item) (new : Option (List ℕ)) → (parts ≡ [] → ⊥)
    → EndsBehind Bad parts items new → EndsOverlong (line ∷ parts) items new
overlong_more line [] items new some h = absurd (some refl)
overlong_more line (p ∷ ps) items new some h = h

overlong_append : (ps : List (List ℕ)) (xs ys : List Item) (mid new : Option (List ℕ)) (q : List ℕ) → LastHasNone ps
    → EndsOverlong ps xs mid → Feeds mid q ys new → EndsOverlong (joined ps (parts_at 10 q)) (xs ++ ys) new
overlong_append [] xs ys mid new q none first second = absurd first
overlong_append (last ∷ []) xs ys mid new q none first second =
    subst (λ (is : List Item). EndsOverlong (joined (last ∷ []) (parts_at 10 q)) (is ++ ys) new) (sym first.0)
    (overlong_on last (parts_at 10 q) ys new (subst (λ (m : Option (List ℕ)). Feeds m q ys new) first.1 second))
overlong_append (line ∷ next ∷ ps) xs ys mid new q none first second =
    overlong_more line (joined (next ∷ ps) (parts_at 10 q)) (xs ++ ys) new (joined_some next ps (parts_at 10 q))
    (first.0 ++ ys, ap (λ (is : List Item). is ++ ys) first.1, ends_append (next ∷ ps) first.0 ys mid new q none first.2 second)

-- two pieces, one after the other, feed as the two in one
pub feeds_joined : (old mid new : Option (List ℕ)) (p q : List ℕ) (xs ys : List Item) → Feeds old p xs mid
    → Feeds mid q ys new → Feeds old (p ++ q) (xs ++ ys) new
feeds_joined None mid new p q xs ys first second =
    subst (λ (ps : List (List ℕ)). EndsOverlong ps (xs ++ ys) new) (sym (parts-append 10 p q))
    (overlong_append (parts_at 10 p) xs ys mid new q (last_has_none p) first second)
feeds_joined (Some rest) mid new p q xs ys first second =
    subst (λ (ps : List (List ℕ)). Ends ps (xs ++ ys) new)
    (sym (ap (parts_at 10) (sym (append_assoc rest p q)) ∙ parts-append 10 (rest ++ p) q))
    (ends_append (parts_at 10 (rest ++ p)) xs ys mid new q (last_has_none (rest ++ p)) first second)
