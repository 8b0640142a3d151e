-- How long a request's line is at most.
use Rattle.std.proofs.Common.{◌≡◌, ◌∙◌, ℕ, ◌+◌, ◌*◌, ◌≤◌, List, [], ◌∷◌, ap, arith, decimal, length, length-append, refl}
use Rattle.std.specs.List.{AllByRecursion as Each}
use Rattle.std.proofs.lemmas.Fmt.{length-decimal-le}
use Rattle.std.proofs.lemmas.List.Elements.{recursion_from_All}
use Rattle.escrow.specs.Ranges.{IsLevel, IsMoment, IsOrderNo, IsQty}
use Rattle.escrow.specs.declared.quantity.Way.{Way}
use Rattle.escrow.specs.declared.quantity.Way.TheVariants.{Add, Take}
use Rattle.words.specs.Items.{IsRequest}
use Rattle.words.specs.OpenLines.{IsOpenLine, line_words, way_word}
use Rattle.words.specs.Spelling.{IsInRange, command_words}
use Rattle.words.specs.Words.{after_space, spaced}
use Rattle.words.specs.declared.command.Command.{Command}
use Rattle.words.specs.declared.command.Command.TheVariants.{Abort, Commit, Deliver, Expire, Field, Firm, More, Open}
use Rattle.words.specs.declared.command.Command.TheVariants.{Rebound, Release, Transfer, Use, Writeoff}
use Rattle.words.specs.declared.command.Request.{Request}
use Rattle.words.specs.declared.open_line.OpenLine.{OpenLine}
use Rattle.words.proofs.WordRows.{spaced-after}

-- the length of the words, with a space before each
abbrev spaces_and : List (List ℕ) → ℕ
spaces_and [] = 0
spaces_and (w ∷ ws) = 1 + length w + spaces_and ws

length-after_space : (ws : List (List ℕ)) → length (after_space ws) ≡ spaces_and ws
length-after_space [] = refl
length-after_space (w ∷ ws) = omega (arith, length-append w (after_space ws), length-after_space ws)

-- the first word, and the others with their spaces
length-spaced : (v : List ℕ) (ws : List (List ℕ)) → length (spaced (v ∷ ws)) ≡ length v + spaces_and ws
length-spaced v ws =
    ap length (spaced-after v ws) ∙ length-append v (after_space ws) ∙ ap (λ n. length v + n) (length-after_space ws)

-- ---- words of values

level_le : (n : ℕ) → IsLevel n → length (decimal n) ≤ 10
level_le n h = length-decimal-le 10 n (omega arith) (omega arith) (omega arith)

qty_le : (n : ℕ) → IsQty n → length (decimal n) ≤ 7
qty_le n h = length-decimal-le 7 n (omega arith) (omega arith) (omega arith)

moment_le : (n : ℕ) → IsMoment n → length (decimal n) ≤ 10
moment_le n h = length-decimal-le 10 n (omega arith) (omega arith) (omega arith)

number_of_order_le : (n : ℕ) → IsOrderNo n → length (decimal n) ≤ 9
number_of_order_le n h = length-decimal-le 9 n (omega arith) (omega arith) (omega arith)

way_le : (way : Way) → length (way_word way) ≤ 4
way_le Take = omega arith
way_le Add = omega arith

-- a line adds at most 39 bytes: a way, a branch, an article and a quantity, with their spaces
lines_le : (lines : List OpenLine) → Each IsOpenLine lines → spaces_and (line_words lines) ≤ 39 * length lines
lines_le [] h = omega arith
lines_le (line ∷ lines) h =
    omega (arith, way_le line.way, h.0.branch.fits, h.0.article.fits, qty_le line.qty h.0.qty, lines_le lines h.1)

-- ---- the words of a command, behind the longest key

command_le : (c : Command) → IsInRange c → 36 + spaces_and (command_words c) ≤ 2558
command_le (Field b a lo hi start) h = omega (arith, h.0.fits, h.1.fits, level_le lo h.2, level_le hi h.3, level_le start h.4)
command_le (Deliver b a qty) h = omega (arith, h.0.fits, h.1.fits, qty_le qty h.2)
command_le (Writeoff b a qty) h = omega (arith, h.0.fits, h.1.fits, qty_le qty h.2)
command_le (Rebound b a lo hi) h = omega (arith, h.0.fits, h.1.fits, level_le lo h.2, level_le hi h.3)
command_le (Open n until lines) h =
    omega (
      arith,
      number_of_order_le n h.0,
      moment_le until h.1,
      h.2.fits,
      lines_le lines (recursion_from_All IsOpenLine lines h.2.each),
    )
command_le (Transfer n until a from to qty) h =
    omega (arith, number_of_order_le n h.0, moment_le until h.1, h.2.fits, h.3.fits, h.4.fits, qty_le qty h.5)
command_le (More n way b a qty) h = omega (arith, number_of_order_le n h.0, way_le way, h.1.fits, h.2.fits, qty_le qty h.3)
command_le (Use n b a qty) h = omega (arith, number_of_order_le n h.0, h.1.fits, h.2.fits, qty_le qty h.3)
command_le (Release n b a qty) h = omega (arith, number_of_order_le n h.0, h.1.fits, h.2.fits, qty_le qty h.3)
command_le (Commit n) h = omega (arith, number_of_order_le n h)
command_le (Abort n) h = omega (arith, number_of_order_le n h)
command_le (Firm n) h = omega (arith, number_of_order_le n h)
command_le (Expire now) h = omega (arith, moment_le now h)

pub request_le : (line : List ℕ) (r : Request) → IsRequest line r → length line ≤ 2558
request_le line r h =
    omega (arith, ap length h.2, length-spaced r.key (command_words r.command), h.0.fits, command_le r.command h.1)
