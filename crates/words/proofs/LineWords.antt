-- A line and its words: none of the words of a command has a space, so that each gives the other.
use Rattle.std.proofs.Common.{◌≡◌, ℕ, ◌<◌, ◌≤◌, Bool, true, false, ◌&&◌, ◌==◌, not, List, [], ◌∷◌, codes, decimal, refl}
use Rattle.std.proofs.Common.{sym, subst, ap, ◌∙◌, arith, true≢false}
use Rattle.std.specs.Char.{digit_value}
use Rattle.std.specs.List.{AllByRecursion as Each, list_all}
use Rattle.std.specs.Str.Parse.{AllDigits}
use Rattle.std.proofs.lemmas.Bool.{ne_eqb}
use Rattle.std.proofs.lemmas.Fmt.{decimal_is_IsNumeral}
use Rattle.std.proofs.lemmas.List.Elements.{All-from_recursion, recursion_from_All}
use Rattle.std.proofs.lemmas.List.Splits.{join_with_byte-slice_split, slice_split_at, slice_split_none}
use Rattle.escrow.specs.Codes.{IsArticle, IsBranch, IsKey, is_article_byte, is_branch_byte, is_key_byte}
use Rattle.escrow.specs.Ranges.{IsLevel, IsOrderNo, IsQty}
use Rattle.escrow.specs.declared.limits.TheConstants.{MAX_MOMENT}
use Rattle.escrow.specs.declared.quantity.Way.{Way}
use Rattle.escrow.specs.declared.quantity.Way.TheVariants.{Add, Take}
use Rattle.words.specs.OpenLines.{IsOpenLine, line_words, way_word}
use Rattle.words.specs.Spelling.{IsInRange, command_words}
use Rattle.words.specs.Words.{spaced, words_of}
use Rattle.words.specs.declared.command.Command.{Command}
use Rattle.words.specs.declared.command.Command.TheVariants.{Abort, Commit, Deliver, Expire, Field, Firm, More, Open}
use Rattle.words.specs.declared.command.Command.TheVariants.{Rebound, Release, Transfer, Use, Writeoff}
use Rattle.words.specs.declared.open_line.OpenLine.{OpenLine}

-- no byte is a space
abbrev pub IsWord : List ℕ → Type 0
IsWord bytes = Each (λ b. (b == 32) ≡ false) bytes

pub words-spaced : (w : List ℕ) (ws : List (List ℕ)) → IsWord w → Each IsWord ws → words_of (spaced (w ∷ ws)) ≡ w ∷ ws
words-spaced w [] h k = slice_split_none (λ b. b == 32) w (All-from_recursion (λ b. (b == 32) ≡ false) w h)
words-spaced w (v ∷ ws) h k =
    slice_split_at (λ b. b == 32) w 32 (spaced (v ∷ ws)) (All-from_recursion (λ b. (b == 32) ≡ false) w h) refl
    ∙ ap (λ parts. w ∷ parts) (words-spaced v ws k.0 k.1)

pub spaced-words : (line : List ℕ) → spaced (words_of line) ≡ line
spaced-words line = join_with_byte-slice_split 32 line

-- a line with these words is their spelling
pub line_of : (line : List ℕ) (words : List (List ℕ)) → words_of line ≡ words → line ≡ spaced words
line_of line words e = sym (spaced-words line) ∙ ap spaced e

-- ---- words of values

both : (a b : Bool) → (a && b) ≡ true → (a ≡ true) × (b ≡ true)
both true b h = (refl, h)
both false b h = absurd (true≢false (sym h))

-- bytes of a kind that a space is not
kind_word : (p : ℕ → Bool) (bytes : List ℕ) → p 32 ≡ false → list_all p bytes ≡ true → IsWord bytes
kind_word p [] other h = tt
kind_word p (b ∷ bs) other h =
    let k = both (p b) (list_all p bs) h in
    (ne_eqb b 32 (λ e. true≢false (sym k.0 ∙ ap p e ∙ other)), kind_word p bs other k.1)

text_word : (bytes : List ℕ) → list_all (λ b. not (b == 32)) bytes ≡ true → IsWord bytes
text_word bytes h = kind_word (λ b. not (b == 32)) bytes refl h

digits_word : (bytes : List ℕ) → AllDigits 10 bytes → IsWord bytes
digits_word [] h = tt
digits_word (b ∷ bs) h = (ne_eqb b 32 (λ e. absurd (space (subst (λ x. digit_value x < 10) e h.0))), digits_word bs h.1)
  where
    space : digit_value 32 < 10 → ⊥
    space h = omega arith

number_word : (n : ℕ) → n ≤ MAX_MOMENT → IsWord (decimal n)
number_word n h = digits_word (decimal n) (decimal_is_IsNumeral n (omega arith)).0.1

pub branch_word : (b : List ℕ) → IsBranch b → IsWord b
branch_word b h = kind_word is_branch_byte b refl h.each

pub article_word : (a : List ℕ) → IsArticle a → IsWord a
article_word a h = kind_word is_article_byte a refl h.each

pub key_word : (k : List ℕ) → IsKey k → IsWord k
key_word k h = kind_word is_key_byte k refl h.each

level_word : (n : ℕ) → IsLevel n → IsWord (decimal n)
level_word n h = number_word n (omega arith)

qty_word : (n : ℕ) → IsQty n → IsWord (decimal n)
qty_word n h = number_word n (omega arith)

pub number_of_order_word : (n : ℕ) → IsOrderNo n → IsWord (decimal n)
number_of_order_word n h = number_word n (omega arith)

way_is_word : (way : Way) → IsWord (way_word way)
way_is_word Take = text_word (codes "take") refl
way_is_word Add = text_word (codes "add") refl

lines_are_words : (lines : List OpenLine) → Each IsOpenLine lines → Each IsWord (line_words lines)
lines_are_words [] h = tt
lines_are_words (line ∷ lines) h = (
  way_is_word line.way,
  (
    branch_word line.branch h.0.branch,
    (article_word line.article h.0.article, (qty_word line.qty h.0.qty, lines_are_words lines h.1)),
  ),
)

-- ---- the words of a command

pub command_is_words : (c : Command) → IsInRange c → Each IsWord (command_words c)
command_is_words (Field b a lo hi start) h = (
  text_word (codes "field") refl,
  (branch_word b h.0, (article_word a h.1, (level_word lo h.2, (level_word hi h.3, (level_word start h.4, tt))))),
)
command_is_words (Deliver b a qty) h =
    (text_word (codes "deliver") refl, (branch_word b h.0, (article_word a h.1, (qty_word qty h.2, tt))))
command_is_words (Writeoff b a qty) h =
    (text_word (codes "writeoff") refl, (branch_word b h.0, (article_word a h.1, (qty_word qty h.2, tt))))
command_is_words (Rebound b a lo hi) h = (
  text_word (codes "rebound") refl,
  (branch_word b h.0, (article_word a h.1, (level_word lo h.2, (level_word hi h.3, tt)))),
)
command_is_words (Open n until lines) h = (
  text_word (codes "open") refl,
  (
    number_of_order_word n h.0,
    (number_word until h.1, lines_are_words lines (recursion_from_All IsOpenLine lines h.2.each)),
  ),
)
command_is_words (Transfer n until a from to qty) h = (
  text_word (codes "transfer") refl,
  (
    number_of_order_word n h.0,
    (
      number_word until h.1,
      (article_word a h.2, (branch_word from h.3, (branch_word to h.4, (qty_word qty h.5, tt)))),
    ),
  ),
)
command_is_words (More n way b a qty) h = (
  text_word (codes "more") refl,
  (
    number_of_order_word n h.0,
    (way_is_word way, (branch_word b h.1, (article_word a h.2, (qty_word qty h.3, tt)))),
  ),
)
command_is_words (Use n b a qty) h = (
  text_word (codes "use") refl,
  (number_of_order_word n h.0, (branch_word b h.1, (article_word a h.2, (qty_word qty h.3, tt)))),
)
command_is_words (Release n b a qty) h = (
  text_word (codes "release") refl,
  (number_of_order_word n h.0, (branch_word b h.1, (article_word a h.2, (qty_word qty h.3, tt)))),
)
command_is_words (Commit n) h = (text_word (codes "commit") refl, (number_of_order_word n h, tt))
command_is_words (Abort n) h = (text_word (codes "abort") refl, (number_of_order_word n h, tt))
command_is_words (Firm n) h = (text_word (codes "firm") refl, (number_of_order_word n h, tt))
command_is_words (Expire now) h = (text_word (codes "expire") refl, (number_word now h, tt))

-- a command has a first word
words_split : (words : List (List ℕ)) → Each IsWord words → (words ≡ [] → ⊥) → words_of (spaced words) ≡ words
words_split [] h some = absurd (some refl)
words_split (w ∷ ws) h some = words-spaced w ws h.0 h.1

command_some : (c : Command) → command_words c ≡ [] → ⊥
command_some (Field b a lo hi start) e = cc e
command_some (Deliver b a qty) e = cc e
command_some (Writeoff b a qty) e = cc e
command_some (Rebound b a lo hi) e = cc e
command_some (Open n until lines) e = cc e
command_some (Transfer n until a from to qty) e = cc e
command_some (More n way b a qty) e = cc e
command_some (Use n b a qty) e = cc e
command_some (Release n b a qty) e = cc e
command_some (Commit n) e = cc e
command_some (Abort n) e = cc e
command_some (Firm n) e = cc e
command_some (Expire now) e = cc e

pub words-command : (c : Command) → IsInRange c → words_of (spaced (command_words c)) ≡ command_words c
words-command c h = words_split (command_words c) (command_is_words c h) (command_some c)

pub words-request : (k : List ℕ) (c : Command) → IsKey k → IsInRange c
    → words_of (spaced (k ∷ command_words c)) ≡ k ∷ command_words c
words-request k c key h = words-spaced k (command_words c) (key_word k key) (command_is_words c h)

pub words-ask_field : (b a : List ℕ) → IsBranch b → IsArticle a
    → words_of (spaced (codes "?" ∷ codes "field" ∷ b ∷ a ∷ [])) ≡ codes "?" ∷ codes "field" ∷ b ∷ a ∷ []
words-ask_field b a h k =
    words-spaced (codes "?") (codes "field" ∷ b ∷ a ∷ []) (text_word (codes "?") refl)
    (text_word (codes "field") refl, (branch_word b h, (article_word a k, tt)))

pub words-ask_order : (n : ℕ) → IsOrderNo n
    → words_of (spaced (codes "?" ∷ codes "order" ∷ decimal n ∷ [])) ≡ codes "?" ∷ codes "order" ∷ decimal n ∷ []
words-ask_order n h =
    words-spaced (codes "?") (codes "order" ∷ decimal n ∷ []) (text_word (codes "?") refl)
    (text_word (codes "order") refl, (number_of_order_word n h, tt))
