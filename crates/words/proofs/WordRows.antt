-- Words in a row, a word at a time.
use Rattle.std.proofs.Common.{◌≡◌, ◌∙◌, ℕ, ◌+◌, ◌<◌, List, [], ◌∷◌, ◌++◌, ap, append-nil, append_assoc, get_or, length}
use Rattle.std.proofs.Common.{refl, sym, take}
use Rattle.std.proofs.lemmas.List.{take_more}
use Rattle.words.specs.OpenLines.{line_words}
use Rattle.words.specs.Words.{after_space, spaced}
use Rattle.words.specs.declared.open_line.OpenLine.{OpenLine}
use Rattle.words.proofs.OrderLines.{line_words-append}

pub after_space-append : (xs ys : List (List ℕ)) → after_space (xs ++ ys) ≡ after_space xs ++ after_space ys
after_space-append [] ys = refl
after_space-append (x ∷ xs) ys =
    ap (λ (l : List ℕ). 32 ∷ (x ++ l)) (after_space-append xs ys)
    ∙ ap (λ (l : List ℕ). 32 ∷ l) (sym (append_assoc x (after_space xs) (after_space ys)))

-- the first word, and the others behind their spaces
pub spaced-after : (v : List ℕ) (ws : List (List ℕ)) → spaced (v ∷ ws) ≡ v ++ after_space ws
spaced-after v [] = sym (append-nil v)
spaced-after v (w ∷ ws) = ap (λ (l : List ℕ). v ++ 32 ∷ l) (spaced-after w ws)

-- a line more is appended
pub lines_more : (old before new : List ℕ) (lines : List OpenLine) (i : ℕ) (line : OpenLine) → i < length lines
    → line ≡ get_or lines i line
    → before ≡ old ++ after_space (line_words (take i lines)) → new ≡ before ++ after_space (line_words (line ∷ []))
    → new ≡ old ++ after_space (line_words (take (i + 1) lines))
lines_more old before new lines i line lt is p q =
    let last = line_words (line ∷ []) in
    let first = take i lines in
    q ∙ ap (λ (l : List ℕ). l ++ after_space last) p ∙ append_assoc old (after_space (line_words first)) (after_space last)
    ∙ ap (λ (l : List ℕ). old ++ l)
    (sym (after_space-append (line_words first) last) ∙ ap after_space (sym (line_words-append first (line ∷ [])))
    ∙ ap (λ (ls : List OpenLine). after_space (line_words ls))
    (sym (take_more lines i line lt ∙ ap (λ (l : OpenLine). first ++ l ∷ []) (sym is))))
