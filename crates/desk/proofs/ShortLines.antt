-- How long the line of a reply is at most.
use Rattle.std.proofs.Common.{◌≡◌, ◌+◌, ◌≤◌, ◌<◌, ◌^◌, ◌∷◌, ◌++◌, ◌∙◌, ℕ, List, ap, arith, codes, decimal, length, refl}
use Rattle.std.proofs.lemmas.Fmt.{length-decimal-le}
use Rattle.std.proofs.lemmas.List.{length-append}
use Rattle.words.specs.Replies.{refusal_code, refusal_name, reply_text}
use Rattle.words.specs.declared.reply.Refusal.{Refusal}
use Rattle.words.specs.declared.reply.Refusal.TheVariants.{KeyReused, Full, FieldThere, NoField, BadBounds, OrderThere}
use Rattle.words.specs.declared.reply.Refusal.TheVariants.{NoOrder, Ended, Past, SameField, OtherWay, TooManyLines}
use Rattle.words.specs.declared.reply.Refusal.TheVariants.{TooLittle, TooMuch, NotHeld, OverUse, TransferFixed}
use Rattle.words.specs.declared.reply.Refusal.TheVariants.{ClockBack, Firm, BadCommand}
use Rattle.words.specs.declared.reply.Reply.{Reply}
use Rattle.words.specs.declared.reply.Reply.TheVariants.{Done, Refused}
use Rattle.desk.specs.Replies.{number_of}

number_is_short : (n : ℕ) → n < 2 ^ 64 → length (decimal n) ≤ 20
number_is_short n small = length-decimal-le 20 n (omega arith) (omega arith) small

at_most : (m n most : ℕ) → m ≡ n → n ≤ most → m ≤ most
at_most m n most is few = omega (arith, is, few)

-- a refusal's name and its number
named_short : (r : Refusal) → (length (refusal_name r) ≤ 13) × (refusal_code r ≤ 20)
named_short KeyReused = (at_most _ 9 13 refl (omega arith), at_most _ 1 20 refl (omega arith))
named_short Full = (at_most _ 4 13 refl (omega arith), at_most _ 2 20 refl (omega arith))
named_short FieldThere = (at_most _ 10 13 refl (omega arith), at_most _ 3 20 refl (omega arith))
named_short NoField = (at_most _ 7 13 refl (omega arith), at_most _ 4 20 refl (omega arith))
named_short BadBounds = (at_most _ 9 13 refl (omega arith), at_most _ 5 20 refl (omega arith))
named_short OrderThere = (at_most _ 10 13 refl (omega arith), at_most _ 6 20 refl (omega arith))
named_short NoOrder = (at_most _ 7 13 refl (omega arith), at_most _ 7 20 refl (omega arith))
named_short Ended = (at_most _ 5 13 refl (omega arith), at_most _ 8 20 refl (omega arith))
named_short Past = (at_most _ 4 13 refl (omega arith), at_most _ 9 20 refl (omega arith))
named_short SameField = (at_most _ 9 13 refl (omega arith), at_most _ 10 20 refl (omega arith))
named_short OtherWay = (at_most _ 8 13 refl (omega arith), at_most _ 11 20 refl (omega arith))
named_short TooManyLines = (at_most _ 12 13 refl (omega arith), at_most _ 12 20 refl (omega arith))
named_short TooLittle = (at_most _ 9 13 refl (omega arith), at_most _ 13 20 refl (omega arith))
named_short TooMuch = (at_most _ 7 13 refl (omega arith), at_most _ 14 20 refl (omega arith))
named_short NotHeld = (at_most _ 7 13 refl (omega arith), at_most _ 15 20 refl (omega arith))
named_short OverUse = (at_most _ 7 13 refl (omega arith), at_most _ 16 20 refl (omega arith))
named_short TransferFixed = (at_most _ 13 13 refl (omega arith), at_most _ 17 20 refl (omega arith))
named_short ClockBack = (at_most _ 9 13 refl (omega arith), at_most _ 18 20 refl (omega arith))
named_short Firm = (at_most _ 4 13 refl (omega arith), at_most _ 19 20 refl (omega arith))
named_short BadCommand = (at_most _ 10 13 refl (omega arith), at_most _ 20 20 refl (omega arith))

text_is_short : (reply : Reply) → number_of reply < 2 ^ 64 → length (reply_text reply) ≤ 58
text_is_short (Done place) small = let n = number_is_short place small in omega (arith, n)
text_is_short (Refused r line) small =
    let n = number_is_short line small in
    let (name, number) = named_short r in
    let code = length-decimal-le 2 (refusal_code r) (omega arith) (omega (arith, number)) (omega (arith, number)) in
    let all = length-append (decimal (refusal_code r)) (32 ∷ (refusal_name r ++ 32 ∷ decimal line)) in
    let rest = length-append (refusal_name r) (32 ∷ decimal line) in
    omega (arith, n, name, code, all, rest)

-- the key, a space, the reply and a newline
pub line_is_short : (key first second third line : List ℕ) (reply : Reply) → length key ≤ 36 → number_of reply < 2 ^ 64
    → first ≡ key → second ≡ first ++ codes " " → third ≡ second ++ reply_text reply → line ≡ third ++ codes "\n"
    → length line ≤ 96
line_is_short key first second third line reply few small is_key is_second is_third is_line =
    let text = text_is_short reply small in
    let size : (xs ys zs : List ℕ) → xs ≡ ys ++ zs → length xs ≡ length ys + length zs =
    λ xs ys zs is. ap (λ (ws : List ℕ). length ws) is ∙ length-append ys zs in
    let one = ap (λ (ws : List ℕ). length ws) is_key in
    let two = size second first (codes " ") is_second in
    let three = size third second (reply_text reply) is_third in
    let four = size line third (codes "\n") is_line in
    omega (arith, few, text, one, two, three, four)
