-- What is the spelling of a command, and what is none.
use Rattle.std.proofs.Common.{◌≡◌, ℕ, List, [], ◌∷◌, Result, Ok, Err, codes, decimal, refl, rules, sym, ◌∙◌, ap}
use Rattle.std.specs.Result.{IfOk}
use Rattle.words.specs.Kinds.{AreNoCommand}
use Rattle.words.specs.OpenLines.{line_words}
use Rattle.words.specs.Spelling.{IsInRange, IsOpening, Spells, command_words}
use Rattle.words.specs.Words.{spaced, words_of}
use Rattle.words.specs.declared.command.Command.{Command}
use Rattle.words.specs.declared.command.Command.TheVariants.{Open}
use Rattle.words.specs.declared.open_line.OpenLine.{OpenLine}
use Rattle.words.specs.declared.read.WordsFault.{WordsFault}
use Rattle.words.proofs.Cuts.{parts_some}
use Rattle.words.proofs.LineWords.{line_of, words-command}

-- what begins with `open`, with no number, moment and lines behind it, is no command
pub none_open : (ws : List (List ℕ))
    → ((n until : ℕ) (lines : List OpenLine) → IsInRange (Open n until lines)
    → ws ≡ decimal n ∷ decimal until ∷ line_words lines → ⊥)
    → AreNoCommand (codes "open" ∷ ws)
none_open ws none (Open n until lines) h e = none n until lines h (cc e)
none_open ws none c h e = search rules

-- bytes whose words no command has are no spelling
pub none_spelled : (bytes : List ℕ) (words : List (List ℕ)) → words_of bytes ≡ words → AreNoCommand words
    → (c : Command) → Spells c bytes → ⊥
none_spelled bytes words e none c s = none c s.0 (sym e ∙ ap words_of s.1 ∙ words-command c s.0)

-- bytes with the words of a command are its spelling
pub spelled : (bytes : List ℕ) (words : List (List ℕ)) (c : Command) → words_of bytes ≡ words → IsInRange c
    → words ≡ command_words c → Spells c bytes
spelled bytes words c e h k = (h, line_of bytes (command_words c) (e ∙ k))

pub open_found : (r : Result Command WordsFault) (bytes : List ℕ) (ws : List (List ℕ)) → words_of bytes ≡ codes "open" ∷ ws
    → IfOk r IsInRange → IfOk r (λ c. codes "open" ∷ ws ≡ command_words c) → IfOk r (λ c. Spells c bytes)
open_found (Ok c) bytes ws e h k = spelled bytes (codes "open" ∷ ws) c e h k
open_found (Err fault) bytes ws e h k = tt

-- bytes whose first of more words is `open` begin as an `open` does
pub opening : (bytes rest : List ℕ) → words_of bytes ≡ codes "open" ∷ words_of rest → IsOpening bytes
opening bytes rest e = by (words_of rest) (parts_some 32 rest) e
  where
    by : (ws : List (List ℕ)) → (ws ≡ [] → ⊥) → words_of bytes ≡ codes "open" ∷ ws → IsOpening bytes
    by [] some e = absurd (some refl)
    by (w ∷ ws) some e = (spaced (w ∷ ws), line_of bytes (codes "open" ∷ w ∷ ws) e)
