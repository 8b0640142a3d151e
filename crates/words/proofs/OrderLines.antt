-- The words of an order's lines, a line at a time.
use Rattle.std.proofs.Common.{◌≡◌, ℕ, ◌≤◌, List, [], ◌∷◌, ◌++◌, decimal, length, ap, arith, refl, sym, ◌∙◌, append_assoc}
use Rattle.std.specs.List.{AllByRecursion as Each}
use Rattle.words.specs.OpenLines.{IsOpenLine, line_words, way_word}
use Rattle.words.specs.declared.open_line.OpenLine.{OpenLine}

-- the words are those of lines in range
pub record Spelled (words : List (List ℕ)) : Type 0 where
  pub lines : List OpenLine
  pub each : Each IsOpenLine lines
  pub are : words ≡ line_words lines

pub line_words-append : (xs ys : List OpenLine) → line_words (xs ++ ys) ≡ line_words xs ++ line_words ys
line_words-append [] ys = refl
line_words-append (x ∷ xs) ys =
    ap (λ (words : List (List ℕ)). way_word x.way ∷ x.branch ∷ x.article ∷ decimal x.qty ∷ words)
    (line_words-append xs ys)

-- behind the first line stand the others
pub spelled_after : (line : OpenLine) (words after : List (List ℕ)) → words ≡ line_words (line ∷ []) ++ after
    → Spelled words → Spelled after
spelled_after line words after e s = by s.lines s.each s.are
  where
    by : (lines : List OpenLine) → Each IsOpenLine lines → words ≡ line_words lines → Spelled after
    by [] each are = (cc)
    by (l ∷ ls) each are = record { lines = ls; each = each.1; are = cc (e, are) }

-- no line stands first, with or without others behind it
pub spelled_none : (words : List (List ℕ)) → (words ≡ [] → ⊥)
    → ((line : OpenLine) (word : List ℕ) (more : List (List ℕ)) → IsOpenLine line
    → words ≡ line_words (line ∷ []) ++ (word ∷ more) → ⊥)
    → ((line : OpenLine) → IsOpenLine line → words ≡ line_words (line ∷ []) → ⊥) → Spelled words → ⊥
spelled_none words some first last s = by s.lines s.each s.are
  where
    by : (lines : List OpenLine) → Each IsOpenLine lines → words ≡ line_words lines → ⊥
    by [] each are = some are
    by (l ∷ []) each are = last l each.0 are
    by (l ∷ m ∷ ms) each are = first l (way_word m.way) (m.branch ∷ m.article ∷ decimal m.qty ∷ line_words ms) each.0 are

-- lines of the same words are as many
pub length_of_words : (xs ys : List OpenLine) → line_words xs ≡ line_words ys → length xs ≡ length ys
length_of_words [] [] e = refl
length_of_words [] (y ∷ ys) e = (cc)
length_of_words (x ∷ xs) [] e = (cc)
length_of_words (x ∷ xs) (y ∷ ys) e =
    let f : line_words xs ≡ line_words ys = cc e in let g = length_of_words xs ys f in omega arith

-- a line more is read
pub one_more : (words rest after : List (List ℕ)) (before : List OpenLine) (line : OpenLine) (new : List OpenLine)
    → words ≡ line_words before ++ rest → rest ≡ line_words (line ∷ []) ++ after → new ≡ before ++ line ∷ []
    → words ≡ line_words new ++ after
one_more words rest after before line new p q e =
    p ∙ ap (λ (r : List (List ℕ)). line_words before ++ r) q
    ∙ sym (append_assoc (line_words before) (line_words (line ∷ [])) after)
    ∙ ap (λ (w : List (List ℕ)). w ++ after) (sym (line_words-append before (line ∷ [])))
    ∙ ap (λ (lines : List OpenLine). line_words lines ++ after) (sym e)

-- the last line is read
pub one_last : (words rest : List (List ℕ)) (before : List OpenLine) (line : OpenLine) (new : List OpenLine)
    → words ≡ line_words before ++ rest → rest ≡ line_words (line ∷ []) → new ≡ before ++ line ∷ [] → words ≡ line_words new
one_last words rest before line new p q e =
    p ∙ ap (λ (r : List (List ℕ)). line_words before ++ r) q ∙ sym (line_words-append before (line ∷ [])) ∙ ap line_words (sym e)

-- lines have a first word
pub first_word : (lines : List OpenLine) → 1 ≤ length lines
    → (word : List ℕ) × (more : List (List ℕ)) × (line_words lines ≡ word ∷ more)
first_word [] some = absurd (omega arith)
first_word (line ∷ lines) some = (way_word line.way, line.branch ∷ line.article ∷ decimal line.qty ∷ line_words lines, refl)

-- behind one first word stand the same words
pub behind : {v w : List ℕ} (words : List (List ℕ)) {xs ys : List (List ℕ)} → words ≡ v ∷ xs → words ≡ w ∷ ys → xs ≡ ys
behind words p q = cc (p, q)
