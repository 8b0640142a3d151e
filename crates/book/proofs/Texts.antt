-- The spellings of commands are in ASCII.
use Rattle.ledger.proofs.Prelude.{Command, Each, IsInRange, IsOpenLine, IsUtf8, List, OpenLine, Way, [], arith, decimal}
use Rattle.ledger.proofs.Prelude.{recursion_from_All, spelling, ℕ, ◌<◌, ◌∷◌, ◌≤◌}
use Rattle.std.proofs.lemmas.Fmt.{IsAscii-decimal}
use Rattle.std.proofs.lemmas.Str.{IsAscii-append, IsUtf8-from_ascii}
use Rattle.std.proofs.lemmas.Str.Ascii.{IsAscii-nil}
use Rattle.std.specs.Str.{IsAscii}
use Rattle.escrow.proofs.Texts.{article_ascii, ascii_cons, branch_ascii}
use Rattle.words.specs.OpenLines.{line_words, way_word}
use Rattle.words.specs.Spelling.{command_words}
use Rattle.words.specs.Words.{spaced}

text_ascii : (bs : List ℕ) → Each (λ b. b < 128) bs → IsAscii bs
text_ascii [] h = IsAscii-nil
text_ascii (b ∷ bs) h = ascii_cons b bs h.0 (text_ascii bs h.1)

number_ascii : (n : ℕ) → n ≤ 4000000000 → IsAscii (decimal n)
number_ascii n h = IsAscii-decimal n (omega arith)

spaced_ascii : (words : List (List ℕ)) → Each IsAscii words → IsAscii (spaced words)
spaced_ascii [] h = IsAscii-nil
spaced_ascii (w ∷ []) h = h.0
spaced_ascii (w ∷ v ∷ ws) h =
    IsAscii-append w (32 ∷ spaced (v ∷ ws)) h.0
    (ascii_cons 32 (spaced (v ∷ ws)) (omega arith) (spaced_ascii (v ∷ ws) h.1))

way_ascii : (way : Way) → IsAscii (way_word way)
way_ascii b = grind arith

lines_ascii : (lines : List OpenLine) → Each IsOpenLine lines → Each IsAscii (line_words lines)
lines_ascii [] h = tt
lines_ascii (line ∷ lines) h =
    let more = lines_ascii lines h.1 in grind (arith, article_ascii, branch_ascii, number_ascii, way_ascii)

words_ascii : (c : Command) → IsInRange c → Each IsAscii (command_words c)
words_ascii x h = grind (arith, article_ascii, branch_ascii, lines_ascii, number_ascii, recursion_from_All, text_ascii, way_ascii)

pub spelling_utf8 : (c : Command) → IsInRange c → IsUtf8 (spelling c)
spelling_utf8 c h = IsUtf8-from_ascii (spelling c) (spaced_ascii (command_words c) (words_ascii c h))
