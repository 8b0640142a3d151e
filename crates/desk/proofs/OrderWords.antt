-- The lines of orders, a line at a time.
use Rattle.std.proofs.Common.{◌≡◌, ◌∙◌, ℕ, ◌+◌, ◌<◌, List, [], ◌∷◌, ◌++◌, ap, append_assoc, get_or, length, refl, sym, take}
use Rattle.std.proofs.lemmas.List.{take_more}
use Rattle.words.proofs.WordRows.{after_space-append}
use Rattle.words.specs.Words.{after_space}
use Rattle.ledger.specs.declared.order.Line.{Line}
use Rattle.desk.specs.Replies.{held_words}

held_words-append : (xs ys : List Line) → held_words (xs ++ ys) ≡ held_words xs ++ held_words ys
held_words-append [] ys = refl
held_words-append (x ∷ xs) ys = cc (held_words-append xs ys)

-- a line more is appended
pub lines_more : (old before new : List ℕ) (lines : List Line) (i : ℕ) (line : Line) → i < length lines
    → line ≡ get_or lines i line
    → before ≡ old ++ after_space (held_words (take i lines)) → new ≡ before ++ after_space (held_words (line ∷ []))
    → new ≡ old ++ after_space (held_words (take (i + 1) lines))
lines_more old before new lines i line lt is p q =
    let last = held_words (line ∷ []) in
    let first = take i lines in
    q ∙ ap (λ (l : List ℕ). l ++ after_space last) p ∙ append_assoc old (after_space (held_words first)) (after_space last)
    ∙ ap (λ (l : List ℕ). old ++ l)
    (sym (after_space-append (held_words first) last) ∙ ap after_space (sym (held_words-append first (line ∷ []))))
    ∙ ap (λ (ls : List Line). old ++ after_space (held_words ls))
    (sym (take_more lines i line lt ∙ ap (λ (l : Line). first ++ l ∷ []) (sym is)))
